use Rattle.std.proofs.Common.{◌≡◌, ◌++◌, map}
use Rattle.krb_elements.proofs.lists.SeqRefMakeOwned.copy.Given as goal

abbrev pub invariant-loop-value : goal.invariant-loop-value
invariant-loop-value g l = l.copies ++ map g.T.MakeOwned.same l.value-iterator ≡ map g.T.MakeOwned.same l.self
