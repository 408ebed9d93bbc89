use Rattle.cred_files.specs.Keytab.{HasRoom}
use Rattle.cred_files.proofs.KeytabTexts.{one_more, taken}
use Rattle.cred_files.proofs.keytab.Keytab.new.Goals as goal

pub loop-entry-preserved : goal.loop-entry-preserved
loop-entry-preserved c = (
  taken c.args.entries.now c.loop-entry.copies.items c.push.new.self.items c.loop-entry.entry-index c.entry-item.result c.in_ok-copy.field-0 c.in_ok-push.ensures.items c.in_ok-copy.ensures c.loop-entry.invariant.0 c.entry-item.is c.loop-entry-test.true,
  one_more HasRoom c.args.entries.now c.loop-entry.entry-index c.entry-item.result c.entry-item.is c.loop-entry-test.true c.in_ok-_octets.ensures.room c.loop-entry.invariant.1,
)
