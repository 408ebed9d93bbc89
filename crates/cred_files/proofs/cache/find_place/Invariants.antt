use Rattle.cred_files.proofs.Puts.{Before}
use Rattle.cred_files.proofs.cache.find_place.Given as goal

abbrev pub invariant-loop-i : goal.invariant-loop-i
invariant-loop-i l = Before l.new l.credentials l.i
