use Rattle.std.proofs.Common.{◌≡◌, drop}
use Rattle.text_fields.specs.LineWords.{after_letters, reading}
use Rattle.text_fields.proofs.lines.LineReader.read_all.Given as goal

abbrev pub invariant-loop-letter : goal.invariant-loop-letter
invariant-loop-letter l =
    after_letters (drop l.letter-index l.letters) (reading l.self) ≡ after_letters l.letters (reading l.fn.self)
