-- The stages in which the code decides on a TGS-REQ give the same decision as the one list of rules.
use Rattle.std.proofs.Common.{◌≡◌, ◌+◌, ℤ, Bool, true, false, List, [], ◌∷◌, ◌++◌, length, Option, Some, None, Result, Ok, Err, refl, sym, ap, ◌∙◌}
use Rattle.std.specs.Prelude.{if◌then◌else◌, is_none, drop, option_map}
use Rattle.rule_lists.specs.ClearLaws.{decided_clear}
use Rattle.rule_lists.specs.ConditionLaws.{clear_of}
use Rattle.rule_lists.specs.Refusals.{Rule, decided, first_holding, unless_refused}
use Rattle.rule_lists.specs.Stages.{◌>>=◌}
use Rattle.ap_req.specs.Authenticators.{authenticator_in, authenticator_of, part_rules, session_key_of, subkey_in}
use Rattle.ap_req.specs.HeldKey.{HeldKey}
use Rattle.ap_req.specs.Tickets.{part_of, shown_ticket as shown_by, ticket_rules}
use Rattle.ap_req.specs.declared.authenticated.Authenticated.{Authenticated}
use Rattle.ap_req.specs.declared.refusal.ApRefusal.{ApRefusal}
use Rattle.ap_req.specs.declared.refusal.ApRefusal.TheVariants as ap_refusals
use Rattle.enctypes.specs.declared.key.Key.{Key}
use Rattle.enctypes.specs.declared.key_usage.KeyUsage.TheVariants.{TgsReqAuthenticator}
use Rattle.krb_types.specs.ApReq.{ApReq}
use Rattle.krb_types.specs.KdcReq.{Received}
use Rattle.krb_types.specs.Authenticator.{Authenticator}
use Rattle.krb_types.specs.EncTicketPart.{EncTicketPart}
use Rattle.principal_rows.specs.declared.row.Row.{Row}
use Rattle.replay.specs.declared.keep.Kept.{Kept}
use Rattle.replay.specs.declared.verdict.Verdict.{Verdict}
use Rattle.replay.specs.declared.verdict.Verdict.TheVariants.{Fresh, Skew, Repeat, Full as NoPlace}
use Rattle.encrypted_data.specs.Keys.{key_of}
use Rattle.tgs_opening.specs.Authenticators.{authenticator_rules, subkey_of}
use Rattle.tgs_opening.specs.Opening.{authenticated, by_authenticated, by_ticket, opened_ticket, presented, presented_as}
use Rattle.tgs_opening.specs.Refusal.{by_ap, place_of}
use Rattle.tgs_opening.specs.Tickets.{value_ap_req, ap_req_of, held_key, request_rules, shown_ticket, tgs_data}
use Rattle.tgs_opening.specs.View.{TicketView}
use Rattle.tgs_opening.specs.declared.opened.OpenedTicket.{OpenedTicket}
use Rattle.tgs_opening.specs.declared.presented.Presented.{Presented}
use Rattle.tgs_opening.specs.declared.refusal.TgsRefusal.{TgsRefusal}
use Rattle.tgs_opening.specs.declared.refusal.TgsRefusal.TheVariants as tgs
use Rattle.tgs_opening.specs.declared.rejection.OpeningRefusal.{OpeningRefusal}
use Rattle.ticket_times.specs.declared.times.Times.{Times}
use Rattle.ap_req.specs.Validity.{ticket_terms}
use Rattle.tgs_exchange.specs.Decision.{by_admission, unless_client_refused, unless_repeated, decision, verdict_on}
use Rattle.tgs_exchange.specs.Refusals.{Proved, Shown, TgsFacts, facts_by, facts_with_ap_req, facts_shown, key_shown}
use Rattle.tgs_exchange.specs.Refusals.{part_shown}
use Rattle.tgs_exchange.specs.Refusals.{proved_by, refusals, ruling, shown_in}
use Rattle.tgs_exchange.specs.Rules.{admitted, client_rules, rules_by}
use Rattle.tgs_exchange.specs.Terms.{admission_of, terms, times_of}
use Rattle.tgs_exchange.specs.View.{TgsView}
use Rattle.tgs_exchange.specs.declared.decision.Decision.{Decision}
use Rattle.tgs_exchange.specs.declared.decision.Decision.TheVariants.{Refuses, Records, Repeats, Issues}
use Rattle.tgs_exchange.specs.declared.terms.Admission.{Admission}
use Rattle.tgs_exchange.specs.declared.terms.Terms.{Terms}

-- ---- the decision in stages

-- a decision, unless it is to issue a ticket
abbrev pub refusing : Decision Kept → Option (Decision Kept)
refusing (Refuses refusal) = Some (Refuses refusal)
refusing (Records refusal) = Some (Records refusal)
refusing (Repeats kept) = Some (Repeats kept)
refusing (Issues admission) = None

abbrev pub by_presented : TgsView → ℤ → Received → Result Presented OpeningRefusal → Option (Decision Kept)
by_presented v now message (Ok p) = refusing (decision v now message.body.value p)
by_presented v now message (Err rejected) = Some (Refuses rejected.rule)

-- ---- one stage

abbrev wrapped : {R : Type 0} → (R → Decision Kept) → List (Rule R) → List (Rule (Decision Kept)) → List (Rule (Decision Kept))
wrapped wrap [] rest = rest
wrapped wrap (rule ∷ rules) rest = (rule.0, wrap rule.1) ∷ wrapped wrap rules rest

-- the first reason, or else what comes next
abbrev or_then : {R : Type 0} → (R → Decision Kept) → Option R → Option (Decision Kept) → Option (Decision Kept)
or_then wrap (Some reason) next = Some (wrap reason)
or_then wrap None next = next

first_wrapped : {R : Type 0} (wrap : R → Decision Kept) (rules : List (Rule R)) (rest : List (Rule (Decision Kept)))
    → first_holding (wrapped wrap rules rest) ≡ or_then wrap (first_holding rules) (first_holding rest)
first_wrapped wrap [] rest = refl
first_wrapped {R} wrap (rule ∷ rules) rest = by rule.0 (first_wrapped wrap rules rest)
  where
    by : (b : Bool) → first_holding (wrapped wrap rules rest) ≡ or_then wrap (first_holding rules) (first_holding rest)
        → (if b then Some (wrap rule.1) else first_holding (wrapped wrap rules rest))
        ≡ or_then wrap (if b then Some rule.1 else first_holding rules) (first_holding rest)
    by true e = refl
    by false e = e

-- what comes after these rules and the one for the value that they guard
abbrev past : {R : Type 0} → List (Rule R) → List (Rule (Decision Kept)) → List (Rule (Decision Kept))
past rules all = drop (length rules + 1) all

abbrev nothing : (A : Type 0) → Option A
nothing A = None

abbrev by_result : {A R : Type 0} → (R → Decision Kept) → Result A R → (A → Option (Decision Kept)) → Option (Decision Kept)
by_result wrap (Ok x) go = go x
by_result wrap (Err reason) go = Some (wrap reason)

module _ {A R : Type 0} (wrap : R → Decision Kept) (rules : List (Rule R)) (otherwise : R)
    (rest : List (Rule (Decision Kept))) (go : A → Option (Decision Kept)) where
  -- the rules of a stage, then its value, then what comes with that
  stage : (found : Option A) → ((x : A) → found ≡ Some x → first_holding rest ≡ go x)
      → first_holding (wrapped wrap rules ((is_none found, wrap otherwise) ∷ rest))
      ≡ by_result wrap (decided rules found otherwise) go
  stage found next = first_wrapped wrap rules ((is_none found, wrap otherwise) ∷ rest) ∙ by (first_holding rules) found next
    where
      by : (reason : Option R) (o : Option A) → ((x : A) → o ≡ Some x → first_holding rest ≡ go x)
          → or_then wrap reason (if is_none o then Some (wrap otherwise) else first_holding rest)
          ≡ by_result wrap (unless_refused reason o otherwise) go
      by (Some r) o next = refl
      by None (Some x) next = next x refl
      by None None next = refl

  stage_some : (x : A) → first_holding rest ≡ go x
      → first_holding (wrapped wrap rules ((false, wrap otherwise) ∷ rest)) ≡ by_result wrap (decided rules (Some x) otherwise) go
  stage_some x next = first_wrapped wrap rules ((false, wrap otherwise) ∷ rest) ∙ by (first_holding rules)
    where
      by : (reason : Option R) → or_then wrap reason (first_holding rest) ≡ by_result wrap (unless_refused reason (Some x) otherwise) go
      by (Some r) = refl
      by None = next

  stage_none : first_holding (wrapped wrap rules ((true, wrap otherwise) ∷ rest)) ≡ by_result wrap (decided rules None otherwise) go
  stage_none = first_wrapped wrap rules ((true, wrap otherwise) ∷ rest) ∙ by (first_holding rules)
    where
      by : (reason : Option R) → or_then wrap reason (Some (wrap otherwise)) ≡ by_result wrap (unless_refused reason (nothing A) otherwise) go
      by (Some r) = refl
      by None = refl

-- ---- the stages, last to first

-- the terms and the times are there if no rule holds
is_there : {A : Type 0} (o : Option A) → is_none o ≡ false → (x : A) × (o ≡ Some x)
is_there (Some x) e = (x, refl)
is_there None e = absurd cc

module _ (v : TgsView) (now : ℤ) (message : Received) where
  admission_there : (found : Option Terms) (times : Option Times) → is_none found ≡ false → is_none times ≡ false
      → (a : Admission) × (admission_of found times ≡ Some a)
  admission_there (Some t) (Some times) f g = (record { terms = t; times = times }, refl)
  admission_there (Some t) None f g = absurd cc
  admission_there None times f g = absurd cc

  last_stage : (p : Presented) (found : Option Terms) (times : Option Times)
      → first_holding (wrapped Records (rules_by v now message.body.value p found times) [])
      ≡ refusing (by_admission (decided (rules_by v now message.body.value p found times) (admission_of found times) tgs.NeverValid))
  last_stage p found times =
      first_wrapped Records (rules_by v now message.body.value p found times) []
      ∙ by (first_holding (rules_by v now message.body.value p found times)) refl
    where
      by : (reason : Option TgsRefusal) → first_holding (rules_by v now message.body.value p found times) ≡ reason
          → or_then Records reason None
          ≡ refusing (by_admission (unless_refused reason (admission_of found times) tgs.NeverValid))
      by (Some r) is = refl
      by None is =
          let clear = decided_clear (rules_by v now message.body.value p found times) (Some p) tgs.NeverValid p
          (ap (λ (o : Option TgsRefusal). unless_refused o (Some p) tgs.NeverValid) is) in
          let rules = rules_by v now message.body.value p found times in
          let there = admission_there found times (clear_of place_of tgs.NoCommonType rules clear)
          (clear_of place_of tgs.NeverValid rules clear) in
          sym (ap (λ (o : Option Admission). refusing (by_admission (unless_refused None o tgs.NeverValid))) there.1)

  abbrev facts_with : ApReq → HeldKey → EncTicketPart → Key → Authenticator → Verdict Kept → TgsFacts
  facts_with ap held part key auth w =
      record (facts_by v now message (Some (record { ap = ap; held = held })) (Some part) (Some key)
      (Some (record { part = part; key = key; authenticator = auth }))) { verdict = w }

  abbrev shown_as : ApReq → EncTicketPart → Key → Authenticator → Option Key → Presented
  shown_as ap part key auth subkey = record {
    ticket_service = ap.ticket.sname;
    ticket = part;
    session_key = key;
    authenticator = auth;
    subkey = subkey;
  }

  -- the rules after the value of each stage
  abbrev from_ticket : TgsFacts → List (Rule (Decision Kept))
  from_ticket k = past (request_rules message) (refusals v k)

  abbrev from_key : ApReq → HeldKey → TgsFacts → List (Rule (Decision Kept))
  from_key ap held k = past (ticket_rules held ap) (from_ticket k)

  abbrev from_authenticator : ApReq → HeldKey → EncTicketPart → TgsFacts → List (Rule (Decision Kept))
  from_authenticator ap held part k = past (part_rules v.realm part) (from_key ap held k)

  abbrev from_subkey : ApReq → HeldKey → EncTicketPart → TgsFacts → List (Rule (Decision Kept))
  from_subkey ap held part k = drop 1 (from_authenticator ap held part k)

  abbrev from_client : ApReq → HeldKey → EncTicketPart → Key → Authenticator → TgsFacts → List (Rule (Decision Kept))
  from_client ap held part key auth k =
      past (authenticator_rules part key message.body.octets auth) (from_subkey ap held part k)

  abbrev from_verdict : ApReq → HeldKey → EncTicketPart → Key → Authenticator → TgsFacts → List (Rule (Decision Kept))
  from_verdict ap held part key auth k = drop (length (client_rules v now part.authtime)) (from_client ap held part key auth k)

  module _ (ap : ApReq) (held : HeldKey) (part : EncTicketPart) (key : Key) (auth : Authenticator) (subkey : Option Key) where
    verdict_stage : (w : Verdict Kept) → first_holding (from_verdict ap held part key auth (facts_with ap held part key auth w))
        ≡ refusing (unless_repeated v now message.body.value (shown_as ap part key auth subkey) w)
    verdict_stage Skew = refl
    verdict_stage (Repeat kept) = refl
    verdict_stage NoPlace = refl
    verdict_stage Fresh =
        last_stage (shown_as ap part key auth subkey) (terms v message.body.value)
        (times_of v.limits now (ticket_terms part) message.body.value (terms v message.body.value))

    client_stage : first_holding (from_client ap held part key auth (facts_with ap held part key auth (verdict_on v now (shown_as ap part key auth subkey))))
        ≡ refusing (decision v now message.body.value (shown_as ap part key auth subkey))
    client_stage =
        first_wrapped Refuses (client_rules v now part.authtime)
        (from_verdict ap held part key auth (facts_with ap held part key auth (verdict_on v now (shown_as ap part key auth subkey))))
        ∙ by (first_holding (client_rules v now part.authtime))
      where
        by : (reason : Option TgsRefusal)
            → or_then Refuses reason (first_holding (from_verdict ap held part key auth (facts_with ap held part key auth (verdict_on v now (shown_as ap part key auth subkey)))))
            ≡ refusing (unless_client_refused v now message.body.value (shown_as ap part key auth subkey) reason)
        by (Some r) = refl
        by None = verdict_stage (verdict_on v now (shown_as ap part key auth subkey))

  -- what each stage goes on with
  abbrev go_subkey : ApReq → EncTicketPart → Key → Authenticator → Option Key → Option (Decision Kept)
  go_subkey ap part key auth subkey = refusing (decision v now message.body.value (shown_as ap part key auth subkey))

  abbrev go_authenticator : ApReq → EncTicketPart → Key → Authenticator → Option (Decision Kept)
  go_authenticator ap part key auth =
      by_result Refuses (subkey_of part key message.body.octets auth) (go_subkey ap part key auth)

  abbrev of_ap : ApRefusal → Decision Kept
  of_ap refusal = Refuses (tgs.Ap refusal)

  abbrev go_key : ApReq → EncTicketPart → Key → Option (Decision Kept)
  go_key ap part key = by_result of_ap (authenticator_of TgsReqAuthenticator key ap.authenticator) (go_authenticator ap part key)

  abbrev go_part : ApReq → EncTicketPart → Option (Decision Kept)
  go_part ap part = by_result of_ap (session_key_of v.realm part) (go_key ap part)

  subkey_stage : (ap : ApReq) (held : HeldKey) (part : EncTicketPart) (key : Key) (auth : Authenticator)
      → first_holding (from_subkey ap held part (facts_by v now message (Some (record { ap = ap; held = held })) (Some part) (Some key)
      (Some (record { part = part; key = key; authenticator = auth })))) ≡ go_authenticator ap part key auth
  subkey_stage ap held part key auth =
      stage Refuses (authenticator_rules part key message.body.octets auth) (tgs.Ap ap_refusals.BadSubkey)
      (from_client ap held part key auth (facts_by v now message (Some (record { ap = ap; held = held })) (Some part) (Some key)
      (Some (record { part = part; key = key; authenticator = auth }))))
      (go_subkey ap part key auth) (subkey_in auth.subkey)
      (λ subkey e. client_stage ap held part key auth subkey)

  authenticator_stage : (ap : ApReq) (held : HeldKey) (part : EncTicketPart) (key : Key) (auth : Option Authenticator)
      → first_holding (from_authenticator ap held part (facts_by v now message (Some (record { ap = ap; held = held })) (Some part) (Some key)
      (option_map (λ auth. record { part = part; key = key; authenticator = auth }) auth)))
      ≡ by_result of_ap (decided [] auth ap_refusals.AuthenticatorNotOpened) (go_authenticator ap part key)
  authenticator_stage ap held part key (Some auth) =
      stage_some of_ap [] ap_refusals.AuthenticatorNotOpened
      (from_subkey ap held part (facts_by v now message (Some (record { ap = ap; held = held })) (Some part) (Some key)
      (Some (record { part = part; key = key; authenticator = auth }))))
      (go_authenticator ap part key) auth (subkey_stage ap held part key auth)
  authenticator_stage ap held part key None =
      stage_none of_ap [] ap_refusals.AuthenticatorNotOpened
      (from_subkey ap held part (facts_by v now message (Some (record { ap = ap; held = held })) (Some part) (Some key) None))
      (go_authenticator ap part key)

  key_stage : (ap : ApReq) (held : HeldKey) (part : EncTicketPart) (key : Option Key)
      → first_holding (from_key ap held (facts_shown v now message (Some (record { ap = ap; held = held })) (Some part) key))
      ≡ by_result of_ap (decided (part_rules v.realm part) key ap_refusals.BadSessionKey) (go_key ap part)
  key_stage ap held part (Some key) =
      stage_some of_ap (part_rules v.realm part) ap_refusals.BadSessionKey
      (from_authenticator ap held part (facts_shown v now message (Some (record { ap = ap; held = held })) (Some part) (Some key)))
      (go_key ap part) key
      (authenticator_stage ap held part key (authenticator_in TgsReqAuthenticator key ap.authenticator))
  key_stage ap held part None =
      stage_none of_ap (part_rules v.realm part) ap_refusals.BadSessionKey
      (from_authenticator ap held part (facts_shown v now message (Some (record { ap = ap; held = held })) (Some part) None))
      (go_key ap part)

  part_stage : (ap : ApReq) (held : HeldKey) (part : Option EncTicketPart)
      → first_holding (from_ticket (facts_shown v now message (Some (record { ap = ap; held = held })) part (key_shown part)))
      ≡ by_result of_ap (decided (ticket_rules held ap) part ap_refusals.TicketNotOpened) (go_part ap)
  part_stage ap held (Some part) =
      stage_some of_ap (ticket_rules held ap) ap_refusals.TicketNotOpened
      (from_key ap held (facts_shown v now message (Some (record { ap = ap; held = held })) (Some part) (key_shown (Some part))))
      (go_part ap) part (key_stage ap held part (key_of part.key.number part.key.octets))
  part_stage ap held None =
      stage_none of_ap (ticket_rules held ap) ap_refusals.TicketNotOpened
      (from_key ap held (facts_shown v now message (Some (record { ap = ap; held = held })) None None))
      (go_part ap)

  module _ (granting : Option Row) where
    abbrev o : TicketView
    o = record { realm = v.realm; tgs = granting; service = v.service }

    abbrev go_ap : ApReq → Option (Decision Kept)
    go_ap ap = by_result of_ap (shown_by (held_key o message.body.value ap.ticket) ap) (go_part ap)

    ap_stage : (found : Option ApReq) → first_holding (refusals v (facts_with_ap_req o v now message found))
        ≡ by_result Refuses (decided (request_rules message) found tgs.MalformedApReq) go_ap
    ap_stage (Some ap) =
        stage_some Refuses (request_rules message) tgs.MalformedApReq
        (from_ticket (facts_with_ap_req o v now message (Some ap))) go_ap ap
        (part_stage ap (held_key o message.body.value ap.ticket) (part_of (held_key o message.body.value ap.ticket) ap.ticket.enc_part))
    ap_stage None =
        stage_none Refuses (request_rules message) tgs.MalformedApReq
        (from_ticket (facts_with_ap_req o v now message None)) go_ap

    -- ---- the code's stages find the same

    by_shown : (ticket : OpenedTicket) (r : Result Authenticated TgsRefusal)
        → by_presented v now message (by_authenticated ticket r)
        ≡ by_result Refuses r (λ a. refusing (decision v now message.body.value (presented_as ticket a)))
    by_shown ticket (Ok a) = refl
    by_shown ticket (Err rule) = refl

    subkey_given : (ap : ApReq) (part : EncTicketPart) (key : Key) (auth : Authenticator) (r : Result (Option Key) TgsRefusal)
        → by_result Refuses (r >>= (λ subkey. Ok (record { session_key = key; authenticator = auth; subkey = subkey })))
        (λ a. refusing (decision v now message.body.value (presented_as (record { ap = ap; part = part }) a)))
        ≡ by_result Refuses r (go_subkey ap part key auth)
    subkey_given ap part key auth (Ok subkey) = refl
    subkey_given ap part key auth (Err rule) = refl

    authenticator_given : (ap : ApReq) (part : EncTicketPart) (key : Key) (r : Result Authenticator ApRefusal)
        → by_result Refuses (by_ap r >>= (λ auth. subkey_of part key message.body.octets auth >>= (λ subkey. Ok (record { session_key = key; authenticator = auth; subkey = subkey }))))
        (λ a. refusing (decision v now message.body.value (presented_as (record { ap = ap; part = part }) a)))
        ≡ by_result of_ap r (go_authenticator ap part key)
    authenticator_given ap part key (Ok auth) = subkey_given ap part key auth (subkey_of part key message.body.octets auth)
    authenticator_given ap part key (Err rule) = refl

    key_given : (ap : ApReq) (part : EncTicketPart) (r : Result Key ApRefusal)
        → by_result Refuses (by_ap r >>= (λ key. by_ap (authenticator_of TgsReqAuthenticator key ap.authenticator) >>= (λ auth. subkey_of part key message.body.octets auth >>= (λ subkey. Ok (record { session_key = key; authenticator = auth; subkey = subkey })))))
        (λ a. refusing (decision v now message.body.value (presented_as (record { ap = ap; part = part }) a)))
        ≡ by_result of_ap r (go_key ap part)
    key_given ap part (Ok key) = authenticator_given ap part key (authenticator_of TgsReqAuthenticator key ap.authenticator)
    key_given ap part (Err rule) = refl

    part_given : (ap : ApReq) (r : Result EncTicketPart ApRefusal)
        → by_presented v now message (by_ticket o message (by_ap r >>= (λ part. Ok (record { ap = ap; part = part }))))
        ≡ by_result of_ap r (go_part ap)
    part_given ap (Ok part) =
        by_shown (record { ap = ap; part = part }) (authenticated o message (record { ap = ap; part = part }))
        ∙ key_given ap part (session_key_of v.realm part)
    part_given ap (Err rule) = refl

    ap_given : (r : Result ApReq TgsRefusal)
        → by_presented v now message (by_ticket o message (r >>= (λ ap. shown_ticket o message.body.value ap >>= (λ part. Ok (record { ap = ap; part = part })))))
        ≡ by_result Refuses r go_ap
    ap_given (Ok ap) = part_given ap (shown_by (held_key o message.body.value ap.ticket) ap)
    ap_given (Err rule) = refl

    -- so the list decides as the stages do
    pub ruled : ruling o v now message ≡ by_presented v now message (presented o message)
    ruled = ap_stage (value_ap_req (tgs_data message)) ∙ sym (ap_given (ap_req_of message))
