use Rattle.std.proofs.Common.{◌∙◌, ap, map, string_bytes, subst}
use Rattle.kadm.specs.Lines.{IsSpelledMade}
use Rattle.kadm_changes.specs.Texts.{texts}
use Rattle.kadm.specs.Words.{in_batch}
use Rattle.kadm.proofs.Reading.{found_in}
use Rattle.kadm.proofs.batch.run_line.Goals as goal

pub returns-in-Ok-clause-done : goal.returns-in-Ok-clause-done
returns-in-Ok-clause-done g c =
    subst (λ words. IsSpelledMade (g.T.Store.world c.args.store.now) c.args.batch.now.whole_realm words c.args.draft.now.database c.run_words.new.draft.database)
    (ap texts c.deref-2.ensures.value ∙ c.in_ok-words.ensures
    ∙ ap (λ words. in_batch c.args.batch.now.db.now (map string_bytes words)) c.deref.ensures.value)
    c.in-Ok.ensures.done

pub run_words-requires : goal.run_words-requires
run_words-requires g c = record { found = found_in _ c.args.line.now c.as_ref.result c.as_ref.ensures.value c.requires.read }
