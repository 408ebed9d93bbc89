use Rattle.std.proofs.Common.{arith}
use Rattle.krb_elements.specs.WrittenLaws.{tlv_longer}
use Rattle.journal.specs.Forms.{header}
use Rattle.journal.proofs.writing.write_header.Goals as goal

pub write-requires : goal.write-requires
write-requires c = omega (arith, tlv_longer header.tag (header.text c.args.header.now), c.requires)
