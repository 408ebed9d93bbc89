use Rattle.std.proofs.Common.{arith}
use Rattle.journal.specs.Forms.{header}
use Rattle.journal.proofs.Spellings.{header_one, one_if_read}
use Rattle.journal.proofs.reading.header_in.Goals as goal

pub returns-clause-found : goal.returns-clause-found
returns-clause-found c =
    one_if_read header.Spells header.tag header.text header_one c.read.result c.args.octets.now (λ i. omega (arith, c.type_inv.octets i)) c.read.ensures.found
