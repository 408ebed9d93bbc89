use Rattle.std.proofs.Common.{arith}
use Rattle.journal.specs.Forms.{entry}
use Rattle.journal.proofs.Spellings.{entry_one, one_if_read}
use Rattle.journal.proofs.reading.entry_in.Goals as goal

pub returns-clause-found : goal.returns-clause-found
returns-clause-found c =
    one_if_read entry.Spells entry.tag entry.text entry_one c.read.result c.args.octets.now (λ i. omega (arith, c.type_inv.octets i)) c.read.ensures.found
