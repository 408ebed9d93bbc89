use Rattle.std.proofs.Common.{inl, refl, subst}
use Rattle.kadm.specs.Batches.{line_text}
use Rattle.kadm.specs.Lines.{IsLineDone}
use Rattle.kadm.proofs.Batching.{none_holds}
use Rattle.kadm.proofs.batch.try_line.Goals as goal

pub returns-in-None-clause-turn : goal.returns-in-None-clause-turn
returns-in-None-clause-turn g c =
    let done = none_holds c.in_ok-run_line.field-0 c.in-None.is c.in_ok-run_line.ensures.done in
    inl (
      subst (λ p. IsLineDone (g.T.Store.world c.args.store.now) c.args.batch.now.whole_realm c.args.batch.now.db.now (line_text c.args.line.now) p c.run_line.new.draft.database)
          c.in_ok-database.ensures done,
      refl,
    )
