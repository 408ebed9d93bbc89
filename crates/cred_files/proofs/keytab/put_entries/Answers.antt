use Rattle.std.proofs.Common.{◌+◌, arith, Some}
use Rattle.std.proofs.lemmas.Result.{err_from_is_err_and}
use Rattle.cred_files.specs.Keytab.{HasRoom, IsPart, part_text}
use Rattle.cred_files.proofs.Loops.{puts_on}
use Rattle.cred_files.proofs.KeytabTexts.{at_place, at_end, not_whole, one_more}
use Rattle.cred_files.proofs.keytab.put_entries.Goals as goal

pub loop-entry-preserved : goal.loop-entry-preserved
loop-entry-preserved c = (
  puts_on part_text c.args.entries.now c.loop-entry.entry-index (c.loop-entry.entry-index + 1) c.entry-item.result c.loop-entry.out.items c.put_entry.new.out.items _ (omega arith) c.entry-item.is c.loop-entry-test.true c.in_ok-put_entry.ensures.text c.loop-entry.invariant.0,
  one_more (λ e. IsPart (Some e) (part_text e)) c.args.entries.now c.loop-entry.entry-index c.entry-item.result c.entry-item.is c.loop-entry-test.true c.in_ok-put_entry.ensures.spelled c.loop-entry.invariant.1,
)

pub returns-in_err-put_entry-clause-fault : goal.returns-in_err-put_entry-clause-fault
returns-in_err-put_entry-clause-fault c =
    let p = err_from_is_err_and c.from_residual.result c.from_residual.ensures.1 in
    rw (p.1, p.2) (not_whole (at_place HasRoom c.args.entries.now c.loop-entry.entry-index c.entry-item.result c.entry-item.is c.loop-entry-test.true) c.in_err-put_entry.field-0.0 c.in_err-put_entry.ensures.fault)

pub returns-clause-spelled : goal.returns-clause-spelled
returns-clause-spelled c = at_end (λ e. IsPart (Some e) (part_text e)) c.args.entries.now c.loop-entry.entry-index (omega (arith, c.loop-entry-test.false)) c.loop-entry.invariant.1
