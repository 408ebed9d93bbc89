use Rattle.std.proofs.Common.{◌≡◌, ◌++◌, map, take, string_bytes}
use Rattle.kadm_changes.specs.Texts.{texts}
use Rattle.kadm.proofs.words.push_all.Given as goal

abbrev pub invariant-loop-other : goal.invariant-loop-other
invariant-loop-other l = texts l.words.items ≡ texts l.fn.words.items ++ map string_bytes (take l.other-index l.others)
