use Rattle.std.proofs.Common.{◌≡◌, map, take}
use Rattle.kadm_changes.proofs.granting.numbers_of.Given as goal

abbrev pub invariant-loop-version : goal.invariant-loop-version
invariant-loop-version l = l.numbers.items ≡ map (λ version. version.number) (take l.version-index l.versions)
