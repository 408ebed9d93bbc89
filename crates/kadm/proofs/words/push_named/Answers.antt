use Rattle.std.proofs.Common.{◌≡◌, ◌++◌, ◌-◌, drop, false, length, subst, sym, take}
use Rattle.kadm_changes.specs.Texts.{texts}
use Rattle.kadm.specs.Words.{named}
use Rattle.kadm.proofs.Naming.{named_end, named_on}
use Rattle.kadm.proofs.words.push_named.Goals as goal

pub loop-rest-preserved : goal.loop-rest-preserved
loop-rest-preserved c =
    subst
    (λ v. texts c.push_word.new.all.items ++ named v (texts (take (length c.loop-rest.rest.now - 1) (drop 1 c.loop-rest.rest.now)))
    ≡ texts c.args.all.now.items ++ named false (texts c.args.words.now))
    (sym c.is_value_next-is_value.ensures)
    (named_on c.loop-rest.rest.now _ c.loop-rest.is_value _ _ _ c.in-len1-up.len_at_least c.loop-rest.invariant c.in_ok-push_word.ensures)

pub returns : goal.returns
returns c = named_end c.loop-rest.rest.now c.loop-rest.is_value _ _ c.in_default.len_below c.loop-rest.invariant
