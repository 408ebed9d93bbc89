use Rattle.std.proofs.Common.{◌≡◌, IfSome, refl, ap, arith}
use Rattle.kdc_state.specs.State.{cache_of}
use Rattle.kdc_state.specs.declared.state.State.{State}
use Rattle.kdc_core.proofs.Promised.{after_either, if_answered, of_reply, on_error, on_reply}
use Rattle.kdc_core.specs.AgreementLaws.{after_agrees, names_agree, view_agrees}
use Rattle.kdc_core.specs.Answer.{IsReply, OneTicketTwoKeys, answer, incoming_answer}
use Rattle.kdc_core.specs.Answered.{asked}
use Rattle.kdc_core.specs.Issued.{IsTicketReply, issued}
use Rattle.kdc_core.specs.Request.{request_of}
use Rattle.kdc_core.specs.RequestLaws.{request_is}
use Rattle.kdc_core.specs.RulingLaws.{is_ruled}
use Rattle.kdc_core.specs.Shown.{IsSeenAlike}
use Rattle.kdc_core.specs.StandingLaws.{issued_standing}
use Rattle.kdc_core.specs.View.{view}
use Rattle.kdc_core.proofs.kdc.Kdc.handle.Goals as goal

pub returns-clause-request : goal.returns-clause-request
returns-clause-request c r = request_is c.args.request.now r (λ i. omega (arith, c.type_inv.request i))

pub returns-clause-reply : goal.returns-clause-reply
returns-clause-reply c =
    let q = asked c.args.at c.args.random.now c.args.room c.args.request.now in
    of_reply _ c.answer.result c.reply_alone.result (λ o. o ≡ (incoming_answer (view c.args.self.now q.octets) q).reply) c.reply_alone.ensures
    (if_answered c.answer.result _ _ c.answer.ensures.answered (λ given a. a.reply))

pub returns-clause-ruled : goal.returns-clause-ruled
returns-clause-ruled c = is_ruled (view c.args.self.now c.args.request.now) (asked c.args.at c.args.random.now c.args.room c.args.request.now)

pub returns-clause-spelled : goal.returns-clause-spelled
returns-clause-spelled c =
    let v = view c.args.self.now c.args.request.now in
    of_reply _ c.answer.result c.reply_alone.result (λ o. IsReply v c.args.at c.args.random.now (request_of c.args.request.now) o) c.reply_alone.ensures
    (if_answered c.answer.result _ _ c.answer.ensures.answered (λ given a. a.spelled))

pub returns-clause-keys : goal.returns-clause-keys
returns-clause-keys c =
    let v = view c.args.self.now c.args.request.now in
    of_reply _ c.answer.result c.reply_alone.result (λ o. OneTicketTwoKeys v c.args.at c.args.random.now (request_of c.args.request.now) o) c.reply_alone.ensures
    (if_answered c.answer.result _ _ c.answer.ensures.answered (λ given a. a.keys))

pub returns-clause-issued : goal.returns-clause-issued
returns-clause-issued c =
    let v = view c.args.self.now c.args.request.now in
    of_reply _ c.answer.result c.reply_alone.result (λ o. IfSome (issued v c.args.at c.args.random.now (request_of c.args.request.now)) (λ issue. IsTicketReply issue o)) c.reply_alone.ensures
    (if_answered c.answer.result _ _ c.answer.ensures.answered (λ given a. a.issued))

pub returns-clause-standing : goal.returns-clause-standing
returns-clause-standing c = issued_standing c.args.self.now c.args.at c.args.random.now c.args.request.now

pub returns-clause-state : goal.returns-clause-state
returns-clause-state c =
    on_reply _ c.answer.result c.reply_alone.result _ c.reply_alone.ensures
    (if_answered c.answer.result _ _ c.answer.ensures.answered (λ given a. a.state))

pub returns-clause-agreement : goal.returns-clause-agreement
returns-clause-agreement c other agrees = ap (λ v. answer v c.args.at c.args.random.now c.args.room c.args.request.now) (view_agrees c.args.self.now other c.args.request.now agrees)

pub returns-clause-same_names : goal.returns-clause-same_names
returns-clause-same_names c other agrees = names_agree c.args.self.now other c.args.request.now agrees

pub returns-clause-afterwards : goal.returns-clause-afterwards
returns-clause-afterwards c other agrees =
    after_agrees c.args.self.now other (asked c.args.at c.args.random.now c.args.room c.args.request.now) agrees

pub returns-clause-database : goal.returns-clause-database
returns-clause-database c =
    after_either c.answer.result c.args.self.now c.answer.new.self (λ (s : State). s.database ≡ c.args.self.now.database)
    (if_answered c.answer.result _ _ c.answer.ensures.answered (λ given a. a.database)) c.answer.ensures.err refl

pub returns-clause-limits : goal.returns-clause-limits
returns-clause-limits c =
    after_either c.answer.result c.args.self.now c.answer.new.self (λ (s : State). s.limits ≡ c.args.self.now.limits)
    (if_answered c.answer.result _ _ c.answer.ensures.answered (λ given a. a.limits)) c.answer.ensures.err refl

pub returns-clause-caches : goal.returns-clause-caches
returns-clause-caches c name other =
    after_either c.answer.result c.args.self.now c.answer.new.self (λ (s : State). cache_of s name ≡ cache_of c.args.self.now name)
    (if_answered c.answer.result _ _ c.answer.ensures.answered (λ given a. a.caches name other)) c.answer.ensures.err refl

pub returns-clause-holder : goal.returns-clause-holder
returns-clause-holder c name unshown =
    after_either c.answer.result c.args.self.now c.answer.new.self (λ (s : State). IsSeenAlike (cache_of c.args.self.now name) (cache_of s name))
    (if_answered c.answer.result _ _ c.answer.ensures.answered (λ given a. a.holder name unshown)) c.answer.ensures.err
    (record { floor = refl; pairs = refl })

pub returns-clause-err : goal.returns-clause-err
returns-clause-err c = on_error _ c.answer.result c.reply_alone.result _ c.reply_alone.ensures c.answer.ensures.err
