use Rattle.std.proofs.Common.{arith}
use Rattle.krb_elements.specs.WrittenLaws.{tlv_longer}
use Rattle.journal.specs.Forms.{entry}
use Rattle.journal.proofs.writing.write_entry.Goals as goal

pub write-requires : goal.write-requires
write-requires c = omega (arith, tlv_longer entry.tag (entry.text c.args.entry.now), c.requires)
