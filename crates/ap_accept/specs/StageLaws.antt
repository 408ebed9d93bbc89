-- The stages of the code decide as the table does; and each row has the code of its rule.
use Rattle.std.proofs.Common.{◌≡◌, ℕ, ℤ, ◌++◌, Bool, true, false, not, ◌&&◌, ◌||◌, List, [], ◌∷◌, Option, Some}
use Rattle.std.proofs.Common.{None, Result, Ok, Err, is_some, is_none, refl, ap, sym, ◌∙◌}
use Rattle.std.specs.Prelude.{⊤, IfSome, IfErr, if◌then◌else◌, drop, map, take, option_map, option_and_then}
use Rattle.std.specs.List.{AllByRecursion}
use Rattle.rule_lists.specs.Refusals.{Rule, decided, first_holding, unless_found, unless_refused}
use Rattle.rule_lists.specs.Stages.{◌>>=◌}
use Rattle.ap_req.specs.Authenticators.{subkey_in}
use Rattle.ap_req.specs.Keytab.{held_in}
use Rattle.ap_req.specs.Refusal.{code_of}
use Rattle.ap_req.specs.Tickets.{opened_with, shown_ticket}
use Rattle.ap_req.specs.Validity.{ticket_terms}
use Rattle.ap_req.specs.declared.refusal.ApRefusal.{ApRefusal}
use Rattle.ap_req.specs.declared.refusal.ApRefusal.TheVariants.{BadVersion, BadMessageType, SessionKeyAsked}
use Rattle.ap_req.specs.declared.refusal.ApRefusal.TheVariants.{NotForUs, NoKey, BadKeyVersion, TicketNotOpened}
use Rattle.ap_req.specs.declared.refusal.ApRefusal.TheVariants.{BadSessionKey}
use Rattle.ap_req.specs.declared.refusal.ApRefusal.TheVariants.{AuthenticatorNotOpened, BadSubkey}
use Rattle.ap_req.specs.declared.refusal.ApRefusal.TheVariants.{NotYetValid, TicketExpired}
use Rattle.cred_files.specs.Keytab.{entry_for, newest, passes}
use Rattle.cred_files.specs.declared.keytab_entry.KeytabEntry.{KeytabEntry}
use Rattle.enctypes.specs.KeyUsage.{usage_number}
use Rattle.enctypes.specs.declared.key.Key.{Key}
use Rattle.enctypes.specs.declared.key_usage.KeyUsage.TheVariants.{Ticket as TicketUsage}
use Rattle.krb_types.specs.ApReq.{ApReq}
use Rattle.krb_fields.specs.Typed.{Typed}
use Rattle.krb_fields.specs.declared.code.Code.{Code}
use Rattle.krb_fields.specs.declared.code.Code.TheVariants as codes
use Rattle.krb_fields.specs.declared.moment.Moment.{Moment}
use Rattle.krb_types.specs.Authenticator.{Authenticator}
use Rattle.krb_types.specs.EncTicketPart.{EncTicketPart, enc_ticket_part}
use Rattle.replay.specs.ReplayCache.{verdict}
use Rattle.replay.specs.declared.verdict.Verdict.{Verdict}
use Rattle.replay.specs.declared.verdict.Verdict.TheVariants as verdicts
use Rattle.encrypted_data.specs.Keys.{key_of, type_numbered}
use Rattle.ap_accept.specs.Accepts.{accepts, answer_by, answered, code_by, if_request, recorded_of, refused_by}
use Rattle.ap_accept.specs.Accepts.{request_of, unless_before, IsAnswer, IsCoded}
use Rattle.ap_accept.specs.Contents.{Contents, authenticator_in, contents, entry_in, presented_in, service_of}
use Rattle.ap_accept.specs.Contents.{session_key_in, subkey_of, ticket_in, with_authenticator, with_key, with_ticket}
use Rattle.ap_accept.specs.Presented.{presented, presented_as}
use Rattle.ap_accept.specs.PresentedLaws.{by_authenticator, by_session_key, by_shown, by_subkey, by_ticket}
use Rattle.ap_accept.specs.Reply.{asks_reply}
use Rattle.ap_accept.specs.Rules.{Row, asks_session_key, first_row, has_bad_subkey, has_ended, is_not_yet_valid}
use Rattle.ap_accept.specs.Rules.{is_other_message, is_other_version, lacks_service, lacks_type, lacks_version}
use Rattle.ap_accept.specs.Rules.{records_and_refuses, refuses, rows}
use Rattle.ap_accept.specs.Stages.{cache_refusal, if_presented, refusal_by, seen_by, seen_if, staged, staged_if}
use Rattle.ap_accept.specs.Stages.{unless_seen}
use Rattle.ap_accept.specs.State.{cache_of}
use Rattle.ap_accept.specs.Validity.{validity_rules}
use Rattle.ap_accept.specs.declared.accepted.Accepted.{Accepted}
use Rattle.ap_accept.specs.declared.fault.ApFault.{ApFault}
use Rattle.ap_accept.specs.declared.fault.ApFault.TheVariants.{NotAnApReq, Refused, Memory}
use Rattle.ap_accept.specs.declared.presented.Presented.{Presented}
use Rattle.ap_accept.specs.declared.state.State.{State}

-- the refusal, and what is recorded
abbrev Outcome : Type 0
Outcome = Option ApRefusal × Option Presented

-- by the table
abbrev listed : Option Row → Option Presented → Outcome
listed row p = (option_map (λ r. r.refusal) row, unless_before row p)

-- ---- a stage: some conditions, and a value that has to be found

-- a row that records nothing
abbrev Early : Type 0
Early = Bool × (ApRefusal × Code)

abbrev row_of : Early → Row
row_of early = refuses early.0 early.1.0 early.1.1

abbrev rule_of : Early → Rule ApRefusal
rule_of early = (early.0, early.1.0)

abbrev early_of : Row → Early
early_of row = (row.holds, (row.refusal, row.code))

-- `rest` are the rows after the stage, if it finds a value
module _ {A : Type 0} (go : Result A ApRefusal → Outcome) (fails : (r : ApRefusal) → go (Err r) ≡ (Some r, None))
    (otherwise : ApRefusal) (code : Code) (rest : List Row) (all : Option Presented) where
  at_end : (found : Option A) (missing : Bool) → missing ≡ is_none found
      → IfSome found (λ x. go (Ok x) ≡ listed (first_row rest) all)
      → go (unless_found found otherwise) ≡ listed (first_row (refuses missing otherwise code ∷ rest)) all
  at_end None missing is next = fails otherwise ∙ ap (λ b. listed (first_row (refuses b otherwise code ∷ rest)) all) (sym is)
  at_end (Some x) missing is next = next ∙ ap (λ b. listed (first_row (refuses b otherwise code ∷ rest)) all) (sym is)

  by_condition : (holds : Bool) (early : Early) (front : List Early) (found : Option A) (missing : Bool)
      → go (decided (map rule_of front) found otherwise)
      ≡ listed (first_row (map row_of front ++ (refuses missing otherwise code ∷ rest))) all
      → go (unless_refused (if holds then Some early.1.0 else first_holding (map rule_of front)) found otherwise)
      ≡ listed
      (if holds then Some (row_of early)
      else first_row (map row_of front ++ (refuses missing otherwise code ∷ rest)))
      all
  by_condition true early front found missing later = fails early.1.0
  by_condition false early front found missing later = later

  stage : (front : List Early) (found : Option A) (missing : Bool) → missing ≡ is_none found
      → IfSome found (λ x. go (Ok x) ≡ listed (first_row rest) all)
      → go (decided (map rule_of front) found otherwise)
      ≡ listed (first_row (map row_of front ++ (refuses missing otherwise code ∷ rest))) all
  stage [] found missing is next = at_end found missing is next
  stage (early ∷ front) found missing is next =
      by_condition early.0 early front found missing (stage front found missing is next)

-- ---- conditions that the two sides word otherwise

not_some : {A : Type 0} (o : Option A) → not (is_some o) ≡ is_none o
not_some (Some x) = refl
not_some None = refl

none_mapped : {A B : Type 0} (f : A → B) (o : Option A) → is_none (option_map f o) ≡ is_none o
none_mapped f (Some x) = refl
none_mapped f None = refl

abbrev entry_key : KeytabEntry → Key
entry_key entry = entry.key

no_type_without : (o : Option KeytabEntry) → (not (is_some o) || is_none (option_map entry_key o)) ≡ is_none o
no_type_without (Some e) = refl
no_type_without None = refl

no_type_with : (o : Option KeytabEntry) → (not (is_some o) || false) ≡ is_none o
no_type_with (Some e) = refl
no_type_with None = refl

no_type : (entries : Option ℤ → Option KeytabEntry) (kvno : Option ℤ)
    → (not (is_some (entries None)) || (is_none kvno && is_none (option_map entry_key (entries kvno))))
    ≡ is_none (entries None)
no_type entries None = no_type_without (entries None)
no_type entries (Some version) = no_type_with (entries None)

opened_by : (request : ApReq) (o : Option KeytabEntry)
    → opened_with enc_ticket_part (usage_number TicketUsage) (option_map entry_key o) request.ticket.enc_part.cipher
    ≡ ticket_in request o
opened_by request (Some e) = refl
opened_by request None = refl

abbrev key_in : Typed → Option Key
key_in subkey = key_of subkey.number subkey.octets

subkey_missing : (o : Option Typed) → (is_some o && is_none (option_and_then key_in o)) ≡ is_none (subkey_in o)
subkey_missing (Some subkey) = sym (none_mapped Some (key_in subkey))
subkey_missing None = refl

key_found : (o : Option Key) (P : Option Key → Type 0) → P o → IfSome (option_map Some o) P
key_found (Some key) P h = h
key_found None P h = tt

subkey_found : (o : Option Typed) (P : Option Key → Type 0) → P (option_and_then key_in o) → IfSome (subkey_in o) P
subkey_found (Some subkey) P h = key_found (key_in subkey) P h
subkey_found None P h = h

-- ---- the stages, from the last to the first

module _ (state : State) (now : ℤ) where
  abbrev outcome_by : Presented → Option ApRefusal → Outcome
  outcome_by p (Some refusal) = (Some refusal, None)
  outcome_by p None = (first_holding (validity_rules (ticket_terms p.ticket) now), Some p)

  abbrev outcome_of : Result Presented ApRefusal → Outcome
  outcome_of (Ok p) = outcome_by p (cache_refusal state now p)
  outcome_of (Err refusal) = (Some refusal, None)

  module _ (request : ApReq) where
    -- the rows after the first k, and the first n of those
    abbrev after : ℕ → Contents → List Row
    after k c = drop k (rows state.keytab now request c)

    abbrev early : ℕ → ℕ → Contents → List Early
    early k n c = map early_of (take n (after k c))

    abbrev ruled_after : ℕ → Contents → Outcome
    ruled_after k c = listed (first_row (after k c)) (presented_in request c)

    -- the ticket is not valid yet, or not any more, or valid
    by_validity : (p : Presented) (is_early is_late : Bool)
        → (first_holding ((is_early, NotYetValid) ∷ (is_late, TicketExpired) ∷ []), Some p)
        ≡ listed
        (first_row
        (records_and_refuses is_early NotYetValid codes.KrbApErrTktNyv
        ∷ records_and_refuses is_late TicketExpired codes.KrbApErrTktExpired
        ∷ []))
        (Some p)
    by_validity p true is_late = refl
    by_validity p false true = refl
    by_validity p false false = refl

    module _ (entry : Option KeytabEntry) (ticket : EncTicketPart) (key : Key) where
      abbrev judged : Authenticator → Verdict ⊤ → Contents
      judged auth v = record {
        entry = entry;
        ticket = Some ticket;
        session_key = Some key;
        authenticator = Some auth;
        verdict = Some v;
      }

      abbrev all_there : Authenticator → Presented
      all_there auth = presented_as request ticket key auth (subkey_of auth)

      by_verdict : (auth : Authenticator) (v : Verdict ⊤)
          → outcome_by (all_there auth) (refusal_by v) ≡ ruled_after 13 (judged auth v)
      by_verdict auth verdicts.Fresh =
          by_validity (all_there auth) (is_not_yet_valid now ticket) (has_ended now ticket)
      by_verdict auth verdicts.Skew = refl
      by_verdict auth (verdicts.Repeat kept) = refl
      by_verdict auth verdicts.Full = refl

      abbrev shown : Option Authenticator → Contents
      shown auth = with_authenticator state now request entry (Some ticket) (Some key) auth

      by_authenticators : (auth : Option Authenticator)
          → IfSome auth (λ a.
          outcome_of (by_authenticator request ticket key a >>= by_shown request ticket) ≡ ruled_after 11 (shown auth))
      by_authenticators (Some auth) =
          let c = shown (Some auth) in
          stage (λ r. outcome_of ((r >>= by_subkey request key auth) >>= by_shown request ticket)) (λ r. refl) BadSubkey
          codes.KdcErrEtypeNosupp (after 13 c) (presented_in request c) (early 11 1 c) (subkey_in auth.subkey)
          (has_bad_subkey auth) (subkey_missing auth.subkey)
          (subkey_found auth.subkey
          (λ subkey. outcome_of (Ok (presented_as request ticket key auth subkey)) ≡ ruled_after 13 c)
          (by_verdict auth (verdict (cache_of state (service_of request) ticket.cname.components) now
          (auth.ctime, auth.cusec) state.options.remembered)))
      by_authenticators None = tt

    module _ (entry : Option KeytabEntry) where
      by_keys : (ticket : EncTicketPart) (key : Option Key)
          → IfSome key (λ k.
          outcome_of (by_session_key request ticket k >>= by_shown request ticket)
          ≡ ruled_after 10 (with_key state now request entry (Some ticket) key))
      by_keys ticket (Some key) =
          let auth = authenticator_in request (Some key) in
          let c = with_key state now request entry (Some ticket) (Some key) in
          stage (λ r. outcome_of ((r >>= by_authenticator request ticket key) >>= by_shown request ticket)) (λ r. refl)
          AuthenticatorNotOpened codes.KrbApErrBadIntegrity (after 11 c) (presented_in request c) [] auth (is_none auth)
          refl (by_authenticators entry ticket key auth)
      by_keys ticket None = tt

      by_tickets : (ticket : Option EncTicketPart)
          → IfSome ticket (λ t.
          outcome_of (by_ticket request t) ≡ ruled_after 7 (with_ticket state now request entry ticket))
      by_tickets (Some ticket) =
          let key = session_key_in (Some ticket) in
          let c = with_ticket state now request entry (Some ticket) in
          stage (λ r. outcome_of ((r >>= by_session_key request ticket) >>= by_shown request ticket)) (λ r. refl)
          BadSessionKey codes.KdcErrEtypeNosupp (after 10 c) (presented_in request c) (early 7 2 c) key (is_none key)
          refl (by_keys ticket key)
      by_tickets None = tt

    abbrev ticket_by : Bool → Bool → Bool → Option EncTicketPart → Result EncTicketPart ApRefusal
    ticket_by no_service no_type no_version found =
        decided
        ((is_other_version request, BadVersion)
        ∷ (is_other_message request, BadMessageType)
        ∷ (asks_session_key request, SessionKeyAsked)
        ∷ (no_service, NotForUs)
        ∷ (no_type, NoKey)
        ∷ (no_version, BadKeyVersion)
        ∷ [])
        found TicketNotOpened

    same_ticket : shown_ticket (held_in state.keytab request.ticket) request
        ≡ ticket_by (lacks_service state.keytab request) (lacks_type state.keytab request)
        (lacks_version request (entry_in state.keytab request)) (ticket_in request (entry_in state.keytab request))
    same_ticket =
        let etype = type_numbered request.ticket.enc_part.etype in
        let kvno = request.ticket.enc_part.kvno in
        let entry = entry_in state.keytab request in
        λ i. ticket_by
        (not_some (newest (passes (service_of request) None None) state.keytab) i)
        (no_type (entry_for state.keytab (service_of request) etype) kvno i)
        (is_some kvno && none_mapped entry_key entry i)
        (opened_by request entry i)

    pub outcome_is : outcome_of (presented state.keytab request)
        ≡ listed (refused_by state now request) (presented_in request (contents state now request))
    outcome_is =
        let entry = entry_in state.keytab request in
        let ticket = ticket_in request entry in
        let c = contents state now request in
        ap (λ (r : Result EncTicketPart ApRefusal). outcome_of (r >>= by_ticket request)) same_ticket
        ∙ stage (λ r. outcome_of (r >>= by_ticket request)) (λ r. refl) TicketNotOpened codes.KrbApErrBadIntegrity
        (after 7 c) (presented_in request c) (early 0 6 c) ticket (is_none ticket) refl (by_tickets entry ticket)

  -- ---- what follows

  module _ (confounder : List ℕ) (wanted : Bool) where
    answered_by : (p : Presented) (r : Option ApRefusal)
        → answered state now confounder wanted (outcome_by p r).0 (outcome_by p r).1
        ≡ unless_seen state now confounder wanted p r
    answered_by p (Some refusal) = refl
    answered_by p None = refl

    answered_of : (r : Result Presented ApRefusal)
        → answered state now confounder wanted (outcome_of r).0 (outcome_of r).1
        ≡ if_presented state now confounder wanted r
    answered_of (Ok p) = answered_by p (cache_refusal state now p)
    answered_of (Err refusal) = refl

  pub request_staged : (confounder : List ℕ) (o : Option ApReq)
      → if_request state now confounder o ≡ staged_if state now confounder o
  request_staged confounder (Some request) =
      ap (λ (o : Outcome). answered state now confounder (asks_reply request) o.0 o.1) (sym (outcome_is request))
      ∙ answered_of confounder (asks_reply request) (presented state.keytab request)
  request_staged confounder None = refl

  seen_of : (p : Presented) (r : Option ApRefusal) → (outcome_by p r).1 ≡ seen_by p r
  seen_of p (Some refusal) = refl
  seen_of p None = refl

  seen_in : (r : Result Presented ApRefusal) → (outcome_of r).1 ≡ seen_if state now r
  seen_in (Ok p) = seen_of p (cache_refusal state now p)
  seen_in (Err refusal) = refl

  pub recorded_staged : (request : ApReq) → recorded_of state now request ≡ seen_if state now (presented state.keytab request)
  recorded_staged request =
      ap (λ (o : Outcome). o.1) (sym (outcome_is request)) ∙ seen_in (presented state.keytab request)

  -- if no row refuses, the ticket and the authenticator are there
  there_by : (p : Presented) (r : Option ApRefusal) → (outcome_by p r).0 ≡ None → is_some (outcome_by p r).1 ≡ true
  there_by p (Some refusal) none = absurd cc
  there_by p None none = refl

  there_of : (r : Result Presented ApRefusal) → (outcome_of r).0 ≡ None → is_some (outcome_of r).1 ≡ true
  there_of (Ok p) none = there_by p (cache_refusal state now p) none
  there_of (Err refusal) none = absurd cc

  pub is_presented : (request : ApReq) → refused_by state now request ≡ None
      → is_some (recorded_of state now request) ≡ true
  is_presented request none =
      ap (λ (o : Outcome). is_some o.1) (sym (outcome_is request))
      ∙ there_of (presented state.keytab request)
      (ap (λ (o : Outcome). o.0) (outcome_is request) ∙ ap (λ (o : Option Row). option_map (λ r. r.refusal) o) none)

pub accepts_staged : (state : State) (at : Moment) (confounder octets : List ℕ)
    → accepts state at confounder octets ≡ staged state at confounder octets
accepts_staged state at confounder octets = request_staged state at.sec confounder (request_of octets)

-- ---- codes

abbrev refuses_with : ApRefusal → Result Accepted ApFault
refuses_with refusal = Err (Refused refusal)

abbrev HasItsCode : Row → Type 0
HasItsCode row = row.code ≡ code_of row.refusal

rows_coded : (keytab : List KeytabEntry) (now : ℤ) (request : ApReq) (c : Contents)
    → AllByRecursion HasItsCode (rows keytab now request c)
rows_coded keytab now request c = (
  refl,
  (
    refl,
    (
      refl,
      (
        refl,
        (
          refl,
          (
            refl,
            (
              refl,
              (
                refl,
                (
                  refl,
                  (
                    refl,
                    (
                      refl,
                      (
                        refl,
                        (
                          refl,
                          (
                            refl,
                            (
                              refl,
                              (
                                refl,
                                (
                                  refl,
                                  (refl, tt),
                                ),
                              ),
                            ),
                          ),
                        ),
                      ),
                    ),
                  ),
                ),
              ),
            ),
          ),
        ),
      ),
    ),
  ),
)

by_row : (P : Row → Type 0) (holds : Bool) (row : Row) (later : Option Row) → P row → IfSome later P
    → IfSome (if holds then Some row else later) P
by_row P true row later here there = here
by_row P false row later here there = there

first_of : (P : Row → Type 0) (rows : List Row) → AllByRecursion P rows → IfSome (first_row rows) P
first_of P [] all = tt
first_of P (row ∷ rows) all = by_row P row.holds row (first_row rows) all.0 (first_of P rows all.1)

module _ (confounder : List ℕ) (wanted : Bool) (refusal : ApRefusal) where
  same_refusal : (a : ApRefusal) → refuses_with a ≡ refuses_with refusal → a ≡ refusal
  same_refusal a e = cc

  coded_by : (row : Option Row) (p : Option Presented) → IfSome row HasItsCode
      → answer_by confounder wanted (option_map (λ r. r.refusal) row) p ≡ Err (Refused refusal)
      → option_map (λ r. r.code) row ≡ Some (code_of refusal)
  coded_by (Some row) p coded e = ap Some (coded ∙ ap code_of (same_refusal row.refusal e))
  coded_by None (Some p) coded e = absurd cc
  coded_by None None coded e = absurd cc

module _ (state : State) (now : ℤ) (confounder : List ℕ) where
  coded_if : (o : Option ApReq) (refusal : ApRefusal) → (if_request state now confounder o).answer ≡ Err (Refused refusal)
      → option_map (λ r. r.code) (option_and_then (refused_by state now) o) ≡ Some (code_of refusal)
  coded_if (Some request) refusal e =
      coded_by confounder (asks_reply request) refusal (refused_by state now request) (recorded_of state now request)
      (first_of HasItsCode (rows state.keytab now request (contents state now request))
      (rows_coded state.keytab now request (contents state now request))) e
  coded_if None refusal e = absurd cc

-- a refusal's code is that of the row that refuses
pub is_coded : (state : State) (at : Moment) (confounder octets : List ℕ) (r : Result Accepted ApFault)
    → IsAnswer r (accepts state at confounder octets).answer → IfErr r (λ fault. IsCoded fault (code_by state at.sec octets))
is_coded state at confounder octets (Ok accepted) is = tt
is_coded state at confounder octets (Err NotAnApReq) is = tt
is_coded state at confounder octets (Err (Refused refusal)) is = coded_if state at.sec confounder (request_of octets) refusal is
is_coded state at confounder octets (Err Memory) is = tt
