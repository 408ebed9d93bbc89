-- The answer to bytes that encode an AP-REQ whose ticket and authenticator can be decrypted; and which bytes encode
-- one.
use Rattle.std.proofs.Common.{◌≡◌, ◌↔◌, ℕ, Bool, List, Option, Some, None, Result, Ok, Err, refl, ap, sym, subst, ◌∙◌}
use Rattle.std.specs.Prelude.{IfOk, IfSome, option_and_then}
use Rattle.krb_types.specs.ApReq.{ApReq, ap_req}
use Rattle.krb_der.specs.Spelling.{IsBytes}
use Rattle.krb_der.specs.declared.fault.DerFault.{DerFault}
use Rattle.krb_elements.specs.Format.{whole}
use Rattle.krb_elements.specs.Laws.{IsWhole, whole_ok}
use Rattle.krb_fields.specs.declared.moment.Moment.{Moment}
use Rattle.encrypted_data.specs.Parts.{ok_of}
use Rattle.ap_accept.specs.Accepts.{Answer, IsAfter, IsAnswer, accepts, recorded_by, recorded_of, request_of}
use Rattle.ap_accept.specs.Fault.{Fails}
use Rattle.ap_accept.specs.Presented.{presented}
use Rattle.ap_accept.specs.Reply.{IsApReply, asks_reply}
use Rattle.ap_accept.specs.StageLaws.{accepts_staged, recorded_staged}
use Rattle.ap_accept.specs.Stages.{cache_refusal, refused, seen_by, seen_if, staged, unless_seen}
use Rattle.ap_accept.specs.declared.accepted.Accepted.{Accepted}
use Rattle.ap_accept.specs.declared.fault.ApFault.{ApFault}
use Rattle.ap_accept.specs.declared.fault.ApFault.TheVariants.{NotAnApReq, Refused, Memory}
use Rattle.ap_accept.specs.declared.presented.Presented.{Presented}
use Rattle.ap_req.specs.declared.refusal.ApRefusal.{ApRefusal}
use Rattle.ap_accept.specs.declared.state.State.{State}

staged_ruled : (state : State) (at : Moment) (confounder octets : List ℕ) (ap : ApReq) (wanted : Bool) (p : Presented) → request_of octets ≡ Some ap → wanted ≡ asks_reply ap → presented state.keytab ap ≡ Ok p
    → staged state at confounder octets ≡ unless_seen state at.sec confounder wanted p (cache_refusal state at.sec p)
staged_ruled state at confounder octets ap wanted p read asks opened = rw (read, opened, asks) refl

pub ruled : (state : State) (at : Moment) (confounder octets : List ℕ) (ap : ApReq) (wanted : Bool) (p : Presented) → request_of octets ≡ Some ap → wanted ≡ asks_reply ap → presented state.keytab ap ≡ Ok p
    → accepts state at confounder octets ≡ unless_seen state at.sec confounder wanted p (cache_refusal state at.sec p)
ruled state at confounder octets request wanted p read asks opened =
    accepts_staged state at confounder octets ∙ staged_ruled state at confounder octets request wanted p read asks opened

-- if the request presents nothing valid, the answer is its refusal, and the state doesn't change
module _ (state : State) (at : Moment) (confounder octets : List ℕ) (request : ApReq) (read : request_of octets ≡ Some request) where
  staged_refusal : (refusal : ApRefusal) → presented state.keytab request ≡ Err refusal → staged state at confounder octets ≡ refused state refusal
  staged_refusal refusal refuses = rw (read, refuses) refl

  ruled_refusal : (refusal : ApRefusal) → presented state.keytab request ≡ Err refusal → accepts state at confounder octets ≡ refused state refusal
  ruled_refusal refusal refuses = accepts_staged state at confounder octets ∙ staged_refusal refusal refuses

  pub unopened_answer : (fault : ApFault) → Fails fault (presented state.keytab request) → IsAnswer (Err fault) (accepts state at confounder octets).answer
  unopened_answer NotAnApReq h = absurd h
  unopened_answer (Refused refusal) h = ap (λ (a : Answer). a.answer) (ruled_refusal refusal h)
  unopened_answer Memory h = tt

  pub unopened_state : (fault : ApFault) → Fails fault (presented state.keytab request) → IsAfter (Err fault) state state (accepts state at confounder octets).state
  unopened_state NotAnApReq h = absurd h
  unopened_state (Refused refusal) h = sym (ap (λ (a : Answer). a.state) (ruled_refusal refusal h))
  unopened_state Memory h = refl

-- the AP-REP for what is presented is the one for what is recorded
module _ (state : State) (at : Moment) (confounder octets : List ℕ) (request : ApReq) (p : Presented) (read : request_of octets ≡ Some request) (opened : presented state.keytab request ≡ Ok p) (a : Accepted) where
  abbrev IsReplied : Presented → Type 0
  IsReplied p = IfSome a.ap_rep (λ reply. IsApReply p.session_key confounder p.authenticator reply)

  by_refusal : (r : Option ApRefusal) → IsReplied p → IfSome (seen_by p r) IsReplied
  by_refusal (Some refusal) h = tt
  by_refusal None h = h

  by_recorded : IsReplied p → IfSome (recorded_by state at.sec octets) IsReplied
  by_recorded h =
      let seen : recorded_by state at.sec octets ≡ seen_by p (cache_refusal state at.sec p) =
      ap (λ (o : Option ApReq). option_and_then (recorded_of state at.sec) o) read
      ∙ (recorded_staged state at.sec request ∙ ap (seen_if state at.sec) opened) in
      subst (λ (o : Option Presented). IfSome o IsReplied) (sym seen) (by_refusal (cache_refusal state at.sec p) h)

pub answered : (state : State) (at : Moment) (confounder octets : List ℕ) (request : ApReq) (p : Presented) (r : Result Accepted ApFault) → request_of octets ≡ Some request → presented state.keytab request ≡ Ok p
    → IfOk r (λ a. IfSome a.ap_rep (λ reply. IsApReply p.session_key confounder p.authenticator reply))
    → IfOk r (λ a. IfSome (recorded_by state at.sec octets) (λ p. IfSome a.ap_rep (λ reply. IsApReply p.session_key confounder p.authenticator reply)))
answered state at confounder octets request p (Ok a) read opened h = by_recorded state at confounder octets request p read opened a h
answered state at confounder octets request p (Err fault) read opened h = tt

-- ---- the AP-REQ that bytes encode

all_read : IsWhole ap_req.Spells (whole ap_req.at)
all_read = whole_ok ap_req.Spells ap_req.at ap_req.laws.element.reading

was_read : (read : Result ApReq DerFault) (r : ApReq) → ok_of read ≡ Some r → read ≡ Ok r
was_read (Ok x) r e = ap (λ (o : Option ApReq). again o) e
  where
    again : Option ApReq → Result ApReq DerFault
    again (Some q) = Ok q
    again None = Ok x
was_read (Err fault) r e = absurd cc

pub request_is : (bytes : List ℕ) (r : ApReq) → IsBytes bytes → (request_of bytes ≡ Some r) ↔ ap_req.Spells r bytes
request_is bytes r fits = (λ e. all_read.takes bytes r fits (was_read (whole ap_req.at bytes) r e), λ s. ap ok_of (all_read.again r bytes s))
