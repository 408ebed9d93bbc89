use Rattle.std.proofs.Common.{List, ◌++◌, length}
use Rattle.enctypes.specs.declared.etype.Etype.{Etype}
use Rattle.kadm_changes.specs.Texts.{texts}
use Rattle.kadm.specs.Types.{AreTypesIn}
use Rattle.kadm.proofs.key_types.types_in.Given as goal

-- the types so far, with those of the coming parts, are all
abbrev pub invariant-loop-rest : goal.invariant-loop-rest
invariant-loop-rest l = (more : List Etype) → AreTypesIn more (texts l.rest) → AreTypesIn (l.etypes.items ++ more) (texts l.parts)

abbrev pub decreases-loop-rest : goal.decreases-loop-rest
decreases-loop-rest l = length l.rest
