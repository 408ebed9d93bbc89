use Rattle.std.proofs.Common.{◌∙◌, ap, subst, sym}
use Rattle.kadm.specs.Ends.{IsEnd, KeepsOpen}
use Rattle.kadm_changes.specs.Texts.{texts}
use Rattle.kadm.proofs.Ending.{ended}
use Rattle.kadm.proofs.Opening.{end_open}
use Rattle.kadm.proofs.run.kadm_run.Goals as goal

pub returns-clause-ended : goal.returns-clause-ended
returns-clause-ended g c =
    let before = g.T.Store.world c.args.store.now in
    let input = g.T.Store.input c.args.store.now in
    let after = g.T.Store.world c.run_words-end.new.store in
    subst (λ words. IsEnd words before input c.unwrap_or.result after) (ap texts c.deref.ensures.value ∙ c.in-Ok.ensures)
    (subst (λ status. IsEnd (texts c.deref.result.now) before input status after) (sym c.unwrap_or.ensures)
    (ended c.run_words-end.result c.report_end.result _ _ _ _ c.run_words-end.ensures.done c.run_words-end.ensures.stopped c.report_end.ensures))

pub returns-clause-open : goal.returns-clause-open
returns-clause-open g c =
    let before = g.T.Store.world c.args.store.now in
    let input = g.T.Store.input c.args.store.now in
    let after = g.T.Store.world c.run_words-end.new.store in
    subst (λ words. KeepsOpen words before after) (ap texts c.deref.ensures.value ∙ c.in-Ok.ensures)
    (end_open (texts c.deref.result.now) before input _ after
    (ended c.run_words-end.result c.report_end.result _ _ _ _ c.run_words-end.ensures.done c.run_words-end.ensures.stopped c.report_end.ensures))
