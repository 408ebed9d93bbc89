use Rattle.std.proofs.Common.{◌≡◌, length}
use Rattle.mit_dump.specs.Chain.{Chain}
use Rattle.mit_dump.specs.StoredKey.{TakesKey}
use Rattle.mit_dump.proofs.stored_key.read_keys.Given as goal

abbrev pub invariant-loop : goal.invariant-loop
invariant-loop l = (length l.keys.items ≡ l.counter) × Chain TakesKey l.fn.fields l.keys.items l.fields
