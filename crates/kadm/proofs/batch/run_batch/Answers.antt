use Rattle.std.proofs.Common.{◌∙◌, All, ap, subst, sym}
use Rattle.kadm.specs.Batches.{IsLineRead, line_texts}
use Rattle.kadm.specs.Lines.{AreInput}
use Rattle.kadm.proofs.Batching.{batched}
use Rattle.kadm.proofs.batch.run_batch.Goals as goal

pub run_lines-requires : goal.run_lines-requires
run_lines-requires g c =
    let stays = c.in_ok-database.ensures.unchanged ∙ c.in_ok-locked.ensures.unchanged ∙ c.in_ok-lines.ensures.unchanged in
    record {
      read = subst (λ lines. All (IsLineRead (g.T.Store.world c.read_database.new.store)) lines) (sym c.deref.ensures.value)
          (subst (λ world. All (IsLineRead world) c.in_ok-lines.lines.items) (sym stays) c.in_ok-lines.ensures.read);
    }

pub returns-clause-done : goal.returns-clause-done
returns-clause-done g c =
    batched _ _ _ _ _ _ (g.T.Store.input c.args.store.now) _ _ _ c.args.keep_going c.in_ok-whole.whole _ c.in_ok-database.database c.run_lines.new.draft.database
    (subst (λ texts. AreInput (g.T.Store.input c.args.store.now) texts)
    (sym c.in_ok-lines.ensures.same ∙ ap line_texts (sym c.deref.ensures.value)) c.in_ok-input.ensures.read)
    (c.in_ok-lines.ensures.unchanged ∙ c.in_ok-input.ensures.unchanged) c.in_ok-locked.ensures.unchanged
    c.in_ok-database.ensures.unchanged c.in_ok-whole.ensures.unchanged c.in_ok-locked.ensures.locked c.in_ok-database.ensures.read
    c.in_ok-whole.ensures.run c.in_ok-written.ensures.read_back c.in_ok-written.ensures.written
