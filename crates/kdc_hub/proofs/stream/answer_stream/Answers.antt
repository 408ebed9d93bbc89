use Rattle.std.proofs.Common.{refl, sym, ap, ◌∙◌, [], length, Ok}
use Rattle.std.proofs.lemmas.List.{append-nil}
use Rattle.std.proofs.lemmas.Result.{IfOk-weaker, IfErr-weaker}
use Rattle.framing.specs.Splitting.{handed_out}
use Rattle.framing.specs.Messages.{message_then}
use Rattle.kdc_hub.specs.StreamStep.{StreamStep}
use Rattle.kdc_hub.proofs.Streams.{all_hold, beginning, done_hold, rest_holds, goes_on, goes_out, comes_to_rest, meets_fault, stopped_kdc, stopped_random}
use Rattle.kdc_hub.proofs.stream.answer_stream.Goals as goal

pub loop-request-preserved : goal.loop-request-preserved
loop-request-preserved g c =
    let first = rw c.in-Ok-Some.field-0-is at c.in-Ok-Some.ensures.message in
    goes_on _ _ _ _ _ _ _ c.loop-request.invariant _ _ _ c.deref.result.now
    (first ∙ ap (λ l. message_then l (handed_out c.next.new.self)) (sym c.deref.ensures.value))
    c.in-Ok-Some.ensures.left c.in-Ok-true.ensures.action c.in-Ok-true.ensures.after (sym c.in-Ok-true.field-0-test ∙ c.in-Ok-true.ensures.stays) c.in-Ok-true.ensures.holds

pub returns-in-Ok-false-clause-actions : goal.returns-in-Ok-false-clause-actions
returns-in-Ok-false-clause-actions g c =
    let first = rw c.in-Ok-Some.field-0-is at c.in-Ok-Some.ensures.message in
    ap (λ (r : StreamStep). r.actions) (goes_out _ _ _ _ _ _ _ c.loop-request.invariant _ _ _ c.deref.result.now
    (first ∙ ap (λ l. message_then l (handed_out c.next.new.self)) (sym c.deref.ensures.value))
    c.in-Ok-false.ensures.action c.in-Ok-false.ensures.after (sym c.in-Ok-false.field-0-test ∙ c.in-Ok-false.ensures.stays))

pub returns-in-Ok-false-clause-issuing : goal.returns-in-Ok-false-clause-issuing
returns-in-Ok-false-clause-issuing g c =
    let first = rw c.in-Ok-Some.field-0-is at c.in-Ok-Some.ensures.message in
    ap (λ (r : StreamStep). r.issuing) (goes_out _ _ _ _ _ _ _ c.loop-request.invariant _ _ _ c.deref.result.now
    (first ∙ ap (λ l. message_then l (handed_out c.next.new.self)) (sym c.deref.ensures.value))
    c.in-Ok-false.ensures.action c.in-Ok-false.ensures.after (sym c.in-Ok-false.field-0-test ∙ c.in-Ok-false.ensures.stays))

pub returns-in-Ok-false-clause-stays : goal.returns-in-Ok-false-clause-stays
returns-in-Ok-false-clause-stays g c =
    let first = rw c.in-Ok-Some.field-0-is at c.in-Ok-Some.ensures.message in
    ap (λ (r : StreamStep). r.stays) (goes_out _ _ _ _ _ _ _ c.loop-request.invariant _ _ _ c.deref.result.now
    (first ∙ ap (λ l. message_then l (handed_out c.next.new.self)) (sym c.deref.ensures.value))
    c.in-Ok-false.ensures.action c.in-Ok-false.ensures.after (sym c.in-Ok-false.field-0-test ∙ c.in-Ok-false.ensures.stays))

pub returns-in-Err-answer_request-clause-kdc : goal.returns-in-Err-answer_request-clause-kdc
returns-in-Err-answer_request-clause-kdc g c =
    c.in-Err-answer_request.ensures.err.1
    ∙ stopped_kdc _ _ _ _ _ _ _ c.loop-request.invariant _ (ap (λ v. length v.items) c.out_of_memory.ensures.done ∙ ap length c.in-Err-answer_request.ensures.err.0)

pub returns-in-Ok-None-clause-actions : goal.returns-in-Ok-None-clause-actions
returns-in-Ok-None-clause-actions g c = ap (λ (r : StreamStep). r.actions) (comes_to_rest _ _ _ _ _ _ _ c.loop-request.invariant _ (c.in-Ok-None.ensures.rest (ap Ok c.in-Ok-None.field-0-is)))

pub returns-in-Ok-None-clause-issuing : goal.returns-in-Ok-None-clause-issuing
returns-in-Ok-None-clause-issuing g c = ap (λ (r : StreamStep). r.issuing) (comes_to_rest _ _ _ _ _ _ _ c.loop-request.invariant _ (c.in-Ok-None.ensures.rest (ap Ok c.in-Ok-None.field-0-is)))

pub returns-in-Ok-None-clause-stays : goal.returns-in-Ok-None-clause-stays
returns-in-Ok-None-clause-stays g c = ap (λ (r : StreamStep). r.stays) (comes_to_rest _ _ _ _ _ _ _ c.loop-request.invariant _ (c.in-Ok-None.ensures.rest (ap Ok c.in-Ok-None.field-0-is)))

pub returns-in-Memory-clause-kdc : goal.returns-in-Memory-clause-kdc
returns-in-Memory-clause-kdc g c = stopped_kdc _ _ _ _ _ _ _ c.loop-request.invariant _ (ap (λ v. length v.items) c.out_of_memory-in-Memory.ensures.done)

pub returns-in-Memory-clause-drawn : goal.returns-in-Memory-clause-drawn
returns-in-Memory-clause-drawn g c = stopped_random _ _ _ _ _ _ _ c.loop-request.invariant _ c.out_of_memory-in-Memory.ensures.draws

pub returns-in_default-clause-actions : goal.returns-in_default-clause-actions
returns-in_default-clause-actions g c = IfOk-weaker c.refuse_length.result _ _
    (λ s e. e ∙ ap (λ (r : StreamStep). r.actions) (meets_fault _ _ _ _ _ _ _ c.loop-request.invariant _ _ (c.in-Err.ensures.fault c.in_default.not-Memory) _ refl)) c.refuse_length.ensures.actions

pub returns-in_default-clause-issuing : goal.returns-in_default-clause-issuing
returns-in_default-clause-issuing g c = IfOk-weaker c.refuse_length.result _ _
    (λ s e. ap (λ (r : StreamStep). r.issuing) (meets_fault _ _ _ _ _ _ _ c.loop-request.invariant _ _ (c.in-Err.ensures.fault c.in_default.not-Memory) _ refl)) c.refuse_length.ensures.stays

pub returns-in_default-clause-stays : goal.returns-in_default-clause-stays
returns-in_default-clause-stays g c = IfOk-weaker c.refuse_length.result _ _
    (λ s e. e ∙ ap (λ (r : StreamStep). r.stays) (meets_fault _ _ _ _ _ _ _ c.loop-request.invariant _ _ (c.in-Err.ensures.fault c.in_default.not-Memory) _ refl)) c.refuse_length.ensures.stays

pub returns-in_default-clause-left : goal.returns-in_default-clause-left
returns-in_default-clause-left g c = IfOk-weaker c.refuse_length.result _ _ (λ s e h. absurd (cc (e, h))) c.refuse_length.ensures.stays

pub returns-in_default-clause-done : goal.returns-in_default-clause-done
returns-in_default-clause-done g c = IfErr-weaker c.refuse_length.result _ _
    (λ f e. beginning f.done.items _ _ _ e (ap (λ (r : StreamStep). r.actions) c.loop-request.invariant.all)) c.refuse_length.ensures.done

pub returns-in_default-clause-kdc : goal.returns-in_default-clause-kdc
returns-in_default-clause-kdc g c = IfErr-weaker c.refuse_length.result _ _ (λ f e. stopped_kdc _ _ _ _ _ _ _ c.loop-request.invariant _ (ap length e)) c.refuse_length.ensures.done

pub returns-in_default-clause-drawn : goal.returns-in_default-clause-drawn
returns-in_default-clause-drawn g c = IfErr-weaker c.refuse_length.result _ _ (λ f e. stopped_random _ _ _ _ _ _ _ c.loop-request.invariant _ e) c.refuse_length.ensures.draws

pub returns-in-Ok-false-clause-keeps : goal.returns-in-Ok-false-clause-keeps
returns-in-Ok-false-clause-keeps g c = c.answer_request.ensures.audits ∙ c.loop-request.invariant.audits

pub returns-in-Err-answer_request-clause-keeps : goal.returns-in-Err-answer_request-clause-keeps
returns-in-Err-answer_request-clause-keeps g c = c.answer_request.ensures.audits ∙ c.loop-request.invariant.audits

pub returns-in-Ok-None-clause-keeps : goal.returns-in-Ok-None-clause-keeps
returns-in-Ok-None-clause-keeps g c = c.loop-request.invariant.audits

pub returns-in-Memory-clause-keeps : goal.returns-in-Memory-clause-keeps
returns-in-Memory-clause-keeps g c = c.loop-request.invariant.audits

pub returns-in_default-clause-keeps : goal.returns-in_default-clause-keeps
returns-in_default-clause-keeps g c = c.loop-request.invariant.audits

pub returns-in-Ok-false-clause-audits : goal.returns-in-Ok-false-clause-audits
returns-in-Ok-false-clause-audits g c =
    let first = rw c.in-Ok-Some.field-0-is at c.in-Ok-Some.ensures.message in
    all_hold _ _ _ _ _ _ _ c.loop-request.invariant _ _ c.deref.result.now
    (first ∙ ap (λ l. message_then l (handed_out c.next.new.self)) (sym c.deref.ensures.value))
    c.in-Ok-false.ensures.action (sym c.in-Ok-false.field-0-test ∙ c.in-Ok-false.ensures.stays) c.in-Ok-false.ensures.holds

pub returns-in-Ok-None-clause-audits : goal.returns-in-Ok-None-clause-audits
returns-in-Ok-None-clause-audits g c =
    rest_holds _ _ _ _ _ _ _ c.loop-request.invariant _ _ (c.in-Ok-None.ensures.rest (ap Ok c.in-Ok-None.field-0-is)) _ [] (sym (append-nil _))

pub returns-in-Err-answer_request-clause-audits_done : goal.returns-in-Err-answer_request-clause-audits_done
returns-in-Err-answer_request-clause-audits_done g c =
    done_hold _ _ _ _ _ _ _ c.loop-request.invariant _ (ap (λ v. v.items) c.out_of_memory.ensures.done ∙ c.in-Err-answer_request.ensures.err.0)

pub returns-in-Memory-clause-audits_done : goal.returns-in-Memory-clause-audits_done
returns-in-Memory-clause-audits_done g c = done_hold _ _ _ _ _ _ _ c.loop-request.invariant _ (ap (λ v. v.items) c.out_of_memory-in-Memory.ensures.done)

pub returns-in_default-clause-audits : goal.returns-in_default-clause-audits
returns-in_default-clause-audits g c = IfOk-weaker c.refuse_length.result _ _
    (λ s e. rest_holds _ _ _ _ _ _ _ c.loop-request.invariant _ _ (c.in-Err.ensures.fault c.in_default.not-Memory) s.actions.items _ e) c.refuse_length.ensures.actions

pub returns-in_default-clause-audits_done : goal.returns-in_default-clause-audits_done
returns-in_default-clause-audits_done g c = IfErr-weaker c.refuse_length.result _ _
    (λ f e. done_hold _ _ _ _ _ _ _ c.loop-request.invariant f.done.items e) c.refuse_length.ensures.done
