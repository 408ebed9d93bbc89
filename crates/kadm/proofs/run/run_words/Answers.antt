use Rattle.std.proofs.Common.{rules, Ok, Err}
use Rattle.kadm.specs.Ends.{IsEnd, IsStopped}
use Rattle.kadm_changes.specs.Stops.{IsFailed}
use Rattle.kadm_changes.specs.Texts.{texts}
use Rattle.kadm_changes.specs.declared.early_end.EarlyEnd.{EarlyEnd}
use Rattle.command_line.specs.declared.status.Status.{Status}
use Rattle.kadm.proofs.Ending.{failed_after, spelled_end, spelled_stop}
use Rattle.kadm.proofs.run.run_words.Goals as goal

pub returns-in_err-status-clause-stopped : goal.returns-in_err-status-clause-stopped
returns-in_err-status-clause-stopped g c =
    let stopped : IsStopped (texts c.args.words.now) (g.T.Store.world c.args.store.now) (g.T.Store.input c.args.store.now) c.in_err-status.field-0.0
    (g.T.Store.world c.run_command.new.store)
    = spelled_stop {A = Status} (Err c.in_err-status.field-0.0) _ _ _ c.in-Ok.command _ c.in-Ok.ensures c.in_err-status.ensures.stopped in
    search rules

pub returns-in_err-flush-2-clause-stopped : goal.returns-in_err-flush-2-clause-stopped
returns-in_err-flush-2-clause-stopped g c =
    let ended : IsEnd (texts c.args.words.now) (g.T.Store.world c.args.store.now) (g.T.Store.input c.args.store.now) c.in_ok-status.status
    (g.T.Store.world c.run_command.new.store)
    = spelled_end {E = EarlyEnd} (Ok c.in_ok-status.status) _ _ _ c.in-Ok.command _ c.in-Ok.ensures c.in_ok-status.ensures.done in
    let stopped : (stop : EarlyEnd) → IsFailed stop → IsStopped (texts c.args.words.now) (g.T.Store.world c.args.store.now) (g.T.Store.input c.args.store.now) stop
    (g.T.Store.world c.run_command.new.store)
    = λ stop failed. failed_after _ _ _ c.in_ok-status.status stop _ ended failed in
    search rules

pub returns-clause-done : goal.returns-clause-done
returns-clause-done g c =
    spelled_end {E = EarlyEnd} (Ok c.in_ok-status.status) _ _ _ c.in-Ok.command _ c.in-Ok.ensures c.in_ok-status.ensures.done
