use Rattle.std.proofs.Common.{◌≡◌, map, string_bytes, take}
use Rattle.command_line.specs.Values.{texts}
use Rattle.kclient.proofs.values.words_of.Given as goal

-- the words so far
abbrev pub invariant-loop-arg : goal.invariant-loop-arg
invariant-loop-arg l = texts l.words.items ≡ map string_bytes (take l.arg-index l.args)
