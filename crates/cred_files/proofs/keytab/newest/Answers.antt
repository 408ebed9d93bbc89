use Rattle.std.proofs.Common.{rules, ◌∙◌, ◌∷◌, ◌-◌, ◌<◌, length, option_map, Some, Option, ap, sym, arith}
use Rattle.cred_files.specs.declared.keytab_entry.KeytabEntry.{KeytabEntry}
use Rattle.cred_files.specs.Keytab.{passes}
use Rattle.cred_files.proofs.KeytabTexts.{found_here, none_yet, not_here}
use Rattle.cred_files.proofs.keytab.newest.Goals as goal

pub loop-i-init : goal.loop-i-init
loop-i-init c = none_yet (passes (c.args.realm.now ∷ c.args.name.now.components) c.args.etype c.args.version) c.args.entries.now (length c.args.entries.now) (omega arith)

pub loop-i-preserved-then-passes : goal.loop-i-preserved-then-passes
loop-i-preserved-then-passes c =
    let lt : c.loop-i.i - 1 < length c.args.entries.now = search rules in
    found_here (passes (c.args.realm.now ∷ c.args.name.now.components) c.args.etype c.args.version) c.args.entries.now (c.loop-i.i - 1) c.loop-i.i c.index-entries-i.result (option_map (λ e. e.now) c.loop-i.found)
    (omega (arith, c.loop-i-test.true)) c.index-entries-i.is lt (sym c.passes.ensures ∙ c.if-passes.true) c.loop-i.invariant
    ∙ ap some (sym c.newer.ensures)
  where
    some : KeytabEntry → Option KeytabEntry
    some e = Some e

pub loop-i-preserved : goal.loop-i-preserved
loop-i-preserved c =
    let lt : c.loop-i.i - 1 < length c.args.entries.now = search rules in
    not_here (passes (c.args.realm.now ∷ c.args.name.now.components) c.args.etype c.args.version) c.args.entries.now (c.loop-i.i - 1) c.loop-i.i c.index-entries-i.result (option_map (λ e. e.now) c.loop-i.found)
    (omega (arith, c.loop-i-test.true)) c.index-entries-i.is lt (sym c.passes.ensures ∙ c.if-passes.false) c.loop-i.invariant
