use Rattle.std.proofs.Common.{rules, ◌∙◌, ◌∷◌, ◌-◌, ◌<◌, length, option_map, Some, Option, ap, sym, arith}
use Rattle.cred_files.specs.declared.keytab_entry.KeytabEntry.{KeytabEntry}
use Rattle.mit_dump.proofs.Masters.{found_here, none_yet, not_here}
use Rattle.mit_dump.proofs.master.first_master.Goals as goal

pub loop-i-init : goal.loop-i-init
loop-i-init c = none_yet (c.args.realm.now ∷ c.args.name.now.components) c.args.version c.args.entries.now (length c.args.entries.now) (omega arith)

pub loop-i-preserved-then-may_encrypt : goal.loop-i-preserved-then-may_encrypt
loop-i-preserved-then-may_encrypt c =
    let lt : c.loop-i.i - 1 < length c.args.entries.now = search rules in
    found_here (c.args.realm.now ∷ c.args.name.now.components) c.args.version c.args.entries.now (c.loop-i.i - 1) c.loop-i.i c.index-entries-i.result (option_map (λ e. e.now) c.loop-i.found)
    (omega (arith, c.loop-i-test.true)) c.index-entries-i.is lt (sym c.may_encrypt.ensures ∙ c.if-may_encrypt.true) c.loop-i.invariant
    ∙ ap some (sym c.lower.ensures)
  where
    some : KeytabEntry → Option KeytabEntry
    some e = Some e

pub loop-i-preserved : goal.loop-i-preserved
loop-i-preserved c =
    let lt : c.loop-i.i - 1 < length c.args.entries.now = search rules in
    not_here (c.args.realm.now ∷ c.args.name.now.components) c.args.version c.args.entries.now (c.loop-i.i - 1) c.loop-i.i c.index-entries-i.result (option_map (λ e. e.now) c.loop-i.found)
    (omega (arith, c.loop-i-test.true)) c.index-entries-i.is lt (sym c.may_encrypt.ensures ∙ c.if-may_encrypt.false) c.loop-i.invariant
