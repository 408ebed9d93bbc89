use Rattle.std.proofs.Common.{◌≡◌, map, take}
use Rattle.kadm_changes.proofs.keytab_text.etypes_of.Given as goal

abbrev pub invariant-loop-key : goal.invariant-loop-key
invariant-loop-key l = l.etypes.items ≡ map (λ key. key.etype) (take l.key-index l.keys)
