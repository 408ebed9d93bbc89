use Rattle.std.proofs.Common.{◌≡◌, map, take}
use Rattle.principal_keys.specs.Keys.{password_key}
use Rattle.principal_keys.proofs.keys.password_keys.Given as goal

abbrev pub invariant-loop-etype : goal.invariant-loop-etype
invariant-loop-etype l = l.keys.items ≡ map (password_key l.pass l.salt) (take l.etype-index l.etypes)
