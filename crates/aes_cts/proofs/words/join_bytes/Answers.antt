use Rattle.std.proofs.Common.{ap, ◌∙◌, arith}
use Rattle.std.specs.Int.{w32, to_be_bytes}
use Rattle.aes_cts.proofs.WordLaws.{word_is, octets-word}
use Rattle.aes_cts.proofs.words.join_bytes.Goals as goal

pub returns-clause-word : goal.returns-clause-word
returns-clause-word c =
    rw (c.from.ensures, c.from-2.ensures, c.from-3.ensures, c.from-4.ensures)
    (word_is c.args.a c.args.b c.args.c c.args.d)

pub returns-clause-octets : goal.returns-clause-octets
returns-clause-octets c =
    ap (to_be_bytes w32) (returns-clause-word c)
    ∙ octets-word c.args.a c.args.b c.args.c c.args.d (omega arith) (omega arith) (omega arith) (omega arith)
