use Rattle.std.proofs.Common.{rules, ℕ, ◌∙◌, ◌∷◌, ◌-◌, ◌<◌, length, Some, Option, ap, sym, arith}
use Rattle.principal_keys.proofs.KeytabVersions.{found_here, none_yet, not_here}
use Rattle.principal_keys.proofs.keytabs.number_below.Goals as goal

pub loop-i-init : goal.loop-i-init
loop-i-init c = none_yet (c.args.realm.now ∷ c.args.who.now.components) c.args.bound c.args.entries.now (length c.args.entries.now) (omega arith)

pub loop-i-preserved-then-may_be_next : goal.loop-i-preserved-then-may_be_next
loop-i-preserved-then-may_be_next c =
    let lt : c.loop-i.i - 1 < length c.args.entries.now = search rules in
    found_here (c.args.realm.now ∷ c.args.who.now.components) c.args.bound c.args.entries.now (c.loop-i.i - 1) c.loop-i.i c.index-entries-i.result c.loop-i.found
    (omega (arith, c.loop-i-test.true)) c.index-entries-i.is lt (sym c.may_be_next.ensures ∙ c.if-may_be_next.true) c.loop-i.invariant
    ∙ ap some (sym c.greater.ensures)
  where
    some : ℕ → Option ℕ
    some n = Some n

pub loop-i-preserved : goal.loop-i-preserved
loop-i-preserved c =
    let lt : c.loop-i.i - 1 < length c.args.entries.now = search rules in
    not_here (c.args.realm.now ∷ c.args.who.now.components) c.args.bound c.args.entries.now (c.loop-i.i - 1) c.loop-i.i c.index-entries-i.result c.loop-i.found
    (omega (arith, c.loop-i-test.true)) c.index-entries-i.is lt (sym c.may_be_next.ensures ∙ c.if-may_be_next.false) c.loop-i.invariant
