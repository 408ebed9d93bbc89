use Rattle.std.proofs.Common.{◌≡◌, length, ap, arith}
use Rattle.cred_files.specs.Keytab.{entry_text}
use Rattle.cred_files.proofs.KeytabTexts.{entry_is, entry_written}
use Rattle.cred_files.proofs.keytab_entry.write_entry.Goals as goal

pub returns-then-len-ge-HOLES-clause-fault : goal.returns-then-len-ge-HOLES-clause-fault
returns-then-len-ge-HOLES-clause-fault c room =
    let text : c.put_u32.new.out.items ≡ entry_text c.args.entry.now = entry_written c.args.entry.now c.new-octets.result.items c.put_fields.new.out.items c.put_u32.new.out.items c.new-octets.ensures.items c.in_ok-put_fields.ensures.text c.in_ok-put_u32.ensures in
    omega (arith, room.1, ap length text, c.if-len-ge-HOLES.true, c.len.ensures)

pub returns-clause-room : goal.returns-clause-room
returns-clause-room c =
    let text : c.put_u32.new.out.items ≡ entry_text c.args.entry.now = entry_written c.args.entry.now c.new-octets.result.items c.put_fields.new.out.items c.put_u32.new.out.items c.new-octets.ensures.items c.in_ok-put_fields.ensures.text c.in_ok-put_u32.ensures in
    (c.has_counts.ensures.yes c.if-not-has_counts.false, omega (arith, ap length text, c.if-len-ge-HOLES.false, c.len.ensures))

pub returns-clause-text : goal.returns-clause-text
returns-clause-text c = entry_written c.args.entry.now c.new-octets.result.items c.put_fields.new.out.items c.put_u32.new.out.items c.new-octets.ensures.items c.in_ok-put_fields.ensures.text c.in_ok-put_u32.ensures

pub returns-clause-spelled : goal.returns-clause-spelled
returns-clause-spelled c =
    let text : c.put_u32.new.out.items ≡ entry_text c.args.entry.now = entry_written c.args.entry.now c.new-octets.result.items c.put_fields.new.out.items c.put_u32.new.out.items c.new-octets.ensures.items c.in_ok-put_fields.ensures.text c.in_ok-put_u32.ensures in
    entry_is c.args.entry.now c.put_u32.new.out.items c.in_ok-put_fields.ensures.fits (omega arith) c.in_ok-put_fields.ensures.key text
