-- What is accepted for a service of a name is for that service; a ticket for another one changes nothing.
use Rattle.std.proofs.Common.{◌≡◌, ◌∙◌, ℕ, ℤ, Bool, true, false, not, cond, List, [], ◌∷◌, Option, Some, None, Result, Ok, Err, is_some, refl, ap, sym, subst}
use Rattle.std.specs.Prelude.{IfOk}
use Rattle.std.specs.Ordering.{eq_by_cmp}
use Rattle.rule_lists.specs.Refusals.{Rule, decided}
use Rattle.rule_lists.specs.Stages.{◌>>=◌}
use Rattle.cred_files.specs.Keytab.{newest, passes}
use Rattle.cred_files.specs.declared.keytab_entry.KeytabEntry.{KeytabEntry}
use Rattle.krb_fields.specs.Name.{Components, name_cmp, same_name}
use Rattle.krb_fields.specs.PrincipalName.{Name}
use Rattle.krb_fields.specs.declared.moment.Moment.{Moment}
use Rattle.krb_types.specs.ApReq.{ApReq}
use Rattle.krb_types.specs.EncTicketPart.{EncTicketPart}
use Rattle.ap_req.specs.HeldKey.{lacks_key, lacks_version}
use Rattle.ap_req.specs.Keytab.{held_in, service_of}
use Rattle.ap_req.specs.Tickets.{is_other_version, part_of, shown_ticket}
use Rattle.ap_req.specs.declared.authenticated.Authenticated.{Authenticated}
use Rattle.ap_req.specs.declared.refusal.ApRefusal.{ApRefusal}
use Rattle.ap_req.specs.declared.refusal.ApRefusal.TheVariants.{BadVersion, BadMessageType, SessionKeyAsked, NotForUs, NoKey, BadKeyVersion, TicketNotOpened}
use Rattle.ap_accept.specs.Accepts.{Answer, IsAfter, IsAnswer, accepted, accepts, answer_by, request_of}
use Rattle.ap_accept.specs.Named.{accepts_for, accepts_keyless, is_for_another}
use Rattle.ap_accept.specs.Presented.{authenticated, presented}
use Rattle.ap_accept.specs.PresentedLaws.{by_shown, by_ticket}
use Rattle.ap_accept.specs.Reply.{asks_reply}
use Rattle.ap_accept.specs.Rules.{asks_session_key, is_other_message}
use Rattle.ap_accept.specs.StageLaws.{accepts_staged}
use Rattle.ap_accept.specs.Stages.{cache_refusal, if_presented, staged_if, unless_seen}
use Rattle.ap_accept.specs.State.{with_keytab}
use Rattle.ap_accept.specs.declared.accepted.Accepted.{Accepted}
use Rattle.ap_accept.specs.declared.fault.ApFault.{ApFault}
use Rattle.ap_accept.specs.declared.fault.ApFault.TheVariants.{NotAnApReq, Refused, Memory}
use Rattle.ap_accept.specs.declared.presented.Presented.{Presented}
use Rattle.ap_accept.specs.declared.state.State.{State}

-- ---- what is presented

module _ (request : ApReq) where
  -- it names the ticket's service
  abbrev Names : Presented → Type 0
  Names p = p.sname ≡ request.ticket.sname

  shown_names : (part : EncTicketPart) (r : Result Authenticated ApRefusal) → IfOk (r >>= by_shown request part) Names
  shown_names part (Ok shown) = refl
  shown_names part (Err refusal) = tt

  ticket_names : (r : Result EncTicketPart ApRefusal) → IfOk (r >>= by_ticket request) Names
  ticket_names (Ok part) = shown_names part (authenticated request part)
  ticket_names (Err refusal) = tt

  names : (keytab : List KeytabEntry) → IfOk (presented keytab request) Names
  names keytab = ticket_names (shown_ticket (held_in keytab request.ticket) request)

  -- without keys it is nothing
  no_entry : (test : KeytabEntry → Bool) → is_some (newest test []) ≡ false
  unfolding newest
  no_entry test = refl

  -- the fourth condition holds
  stops : (a b c d : Bool) (p q r s : ApRefusal) (rest : List (Rule ApRefusal)) (found : Option EncTicketPart) → d ≡ true
      → IfOk (decided ((a, p) ∷ (b, q) ∷ (c, r) ∷ (d, s) ∷ rest) found TicketNotOpened >>= by_ticket request) (λ x. ⊥)
  stops true b c d p q r s rest found is = tt
  stops false true c d p q r s rest found is = tt
  stops false false true d p q r s rest found is = tt
  stops false false false true p q r s rest found is = tt
  stops false false false false p q r s rest found is = absurd (let k : false ≡ true = is in cc)

  none_without : IfOk (presented [] request) (λ x. ⊥)
  none_without =
      stops (is_other_version request) (is_other_message request) (asks_session_key request)
      (not (held_in [] request.ticket).is_for_us) BadVersion BadMessageType SessionKeyAsked NotForUs
      ((lacks_key (held_in [] request.ticket) request.ticket.enc_part, NoKey) ∷ (lacks_version (held_in [] request.ticket) request.ticket.enc_part, BadKeyVersion) ∷ [])
      (part_of (held_in [] request.ticket) request.ticket.enc_part)
      (ap not (no_entry (passes (service_of request.ticket) None None)))

-- ---- the answer to it

ok_same : {A E : Type 0} (x y : A) → ◌≡◌ {A = Result A E} (Ok x) (Ok y) → x ≡ y
ok_same x y e = cc

err_not_ok : {A E : Type 0} (x : A) (fault : E) → ◌≡◌ {A = Result A E} (Err fault) (Ok x) → ⊥
err_not_ok x fault e = cc

module _ (P : Name → Type 0) (state : State) (now : ℤ) (confounder : List ℕ) (a : Accepted) where
  by_answer : (wanted : Bool) (p : Presented) (r : Option ApRefusal) → P p.sname
      → answer_by confounder wanted r (Some p) ≡ Ok a → P a.service
  by_answer wanted p (Some refusal) is e = absurd (err_not_ok a (Refused refusal) e)
  by_answer wanted p None is e =
      subst (λ (x : Accepted). P x.service) (ok_same (accepted confounder wanted p) a e) is

  by_cache : (wanted : Bool) (p : Presented) (r : Option ApRefusal) → P p.sname
      → (unless_seen state now confounder wanted p r).answer ≡ Ok a → P a.service
  by_cache wanted p (Some refusal) is e = absurd (err_not_ok a (Refused refusal) e)
  by_cache wanted p None is e = by_answer wanted p _ is e

  by_presented : (wanted : Bool) (r : Result Presented ApRefusal) → IfOk r (λ p. P p.sname)
      → (if_presented state now confounder wanted r).answer ≡ Ok a → P a.service
  by_presented wanted (Ok p) is e = by_cache wanted p (cache_refusal state now p) is e
  by_presented wanted (Err refusal) is e = absurd (err_not_ok a (Refused refusal) e)

unkept : (state : State) (now : ℤ) (confounder : List ℕ) (wanted : Bool) (r : Result Presented ApRefusal)
    → IfOk r (λ x. ⊥) → (if_presented state now confounder wanted r).state ≡ state
unkept state now confounder wanted (Ok p) is = absurd is
unkept state now confounder wanted (Err refusal) is = refl

-- ---- for a service of a name

module _ (service : Components) (state : State) (at : Moment) (confounder octets : List ℕ) where
  -- without keys, nothing is accepted, and nothing changes
  keyless_answer : (request : Option ApReq) (a : Accepted)
      → (staged_if (with_keytab state []) at.sec confounder request).answer ≡ Ok a → ⊥
  keyless_answer (Some request) a e =
      by_presented (λ n. ⊥) (with_keytab state []) at.sec confounder a (asks_reply request) (presented [] request)
      (none_without request) e
  keyless_answer None a e = err_not_ok a NotAnApReq e

  keyless_state : (request : Option ApReq)
      → (staged_if (with_keytab state []) at.sec confounder request).state ≡ with_keytab state []
  keyless_state (Some request) =
      unkept (with_keytab state []) at.sec confounder (asks_reply request) (presented [] request) (none_without request)
  keyless_state None = refl

  staged_keyless : accepts (with_keytab state []) at confounder octets
      ≡ staged_if (with_keytab state []) at.sec confounder (request_of octets)
  staged_keyless = accepts_staged (with_keytab state []) at confounder octets

  pub keyless_refuses : (a : Accepted) → (accepts_keyless state at confounder octets).answer ≡ Ok a → ⊥
  keyless_refuses a e =
      keyless_answer (request_of octets) a (sym (ap (λ (x : Answer). x.answer) staged_keyless) ∙ e)

  abbrev IsIts : Accepted → Type 0
  IsIts a = a.service.components ≡ service

  its_own : (request : Option ApReq) (a : Accepted) → is_for_another service request ≡ false
      → (staged_if state at.sec confounder request).answer ≡ Ok a → IsIts a
  its_own (Some request) a same e =
      let tied : eq_by_cmp name_cmp request.ticket.sname.components service ≡ true =
      not_not (eq_by_cmp name_cmp request.ticket.sname.components service) same in
      by_presented (λ (n : Name). n.components ≡ service) state at.sec confounder a (asks_reply request)
      (presented state.keytab request)
      (named (presented state.keytab request) (same_name request.ticket.sname.components service tied)
      (names request state.keytab))
      e
    where
      not_not : (b : Bool) → not b ≡ false → b ≡ true
      not_not true is = refl
      not_not false is = absurd (let k : true ≡ false = is in cc)

      named : (r : Result Presented ApRefusal) → request.ticket.sname.components ≡ service
          → IfOk r (λ p. p.sname ≡ request.ticket.sname) → IfOk r (λ p. p.sname.components ≡ service)
      named (Ok p) is of = ap (λ (n : Name). n.components) of ∙ is
      named (Err refusal) is of = tt
  its_own None a same e = absurd (err_not_ok a NotAnApReq e)

  by_name : (b : Bool) → is_for_another service (request_of octets) ≡ b → (a : Accepted)
      → (cond b (accepts_keyless state at confounder octets) (accepts state at confounder octets)).answer ≡ Ok a
      → IsIts a
  by_name true is a e = absurd (keyless_refuses a e)
  by_name false is a e =
      its_own (request_of octets) a is
      (sym (ap (λ (x : Answer). x.answer) (accepts_staged state at confounder octets)) ∙ e)

  pub for_it : (r : Result Accepted ApFault) → IsAnswer r (accepts_for service state at confounder octets).answer
      → IfOk r IsIts
  for_it (Ok a) e = by_name (is_for_another service (request_of octets)) refl a e
  for_it (Err fault) e = tt

  pub kept_keyless : (accepts_keyless state at confounder octets).state ≡ state
  kept_keyless =
      ap (λ (s : State). with_keytab s state.keytab)
      (ap (λ (x : Answer). x.state) staged_keyless ∙ keyless_state (request_of octets))

  kept_by : (b : Bool) → b ≡ true
      → (cond b (accepts_keyless state at confounder octets) (accepts state at confounder octets)).state ≡ state
  kept_by true is = kept_keyless
  kept_by false is = absurd (let k : false ≡ true = is in cc)

  pub unchanged : (r : Result Accepted ApFault) (new : State)
      → IsAfter r state new (accepts_for service state at confounder octets).state
      → is_for_another service (request_of octets) ≡ true → new ≡ state
  unchanged (Ok a) new moved is = moved ∙ kept_by (is_for_another service (request_of octets)) is
  unchanged (Err NotAnApReq) new moved is = moved ∙ kept_by (is_for_another service (request_of octets)) is
  unchanged (Err (Refused refusal)) new moved is = moved ∙ kept_by (is_for_another service (request_of octets)) is
  unchanged (Err Memory) new moved is = moved
