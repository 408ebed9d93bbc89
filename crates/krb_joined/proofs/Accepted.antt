-- A service with the key of an issued ticket accepts what its client presents.
use Rattle.std.proofs.Common.{◌≡◌, ℕ, ℤ, pos, ◌+ℤ◌, ◌-ℤ◌, ◌≤ℤ◌, Bool, true, false, not, ◌&&◌, ◌||◌, cond, List, [], ◌∷◌, length, Option, Some, None, Result, Ok, refl, sym, ap, ◌∙◌, is_some, is_none, arith}
use Rattle.std.specs.Prelude.{IfSome, int_lt, nat_eq, option_and_then, option_map, ⊤}
use Rattle.std.specs.Ordering.{eq_by_cmp, int_eq}
use Rattle.std.specs.Cmp.Lexicographic.{bytes_decides, pointwise}
use Rattle.std.proofs.lemmas.Bool.Decides.{Decides-int_eq}
use Rattle.std.proofs.lemmas.Int.{ints}
use Rattle.cred_files.specs.Keytab.{entry_for, is_numbered, is_of, is_typed, newer, newest, passes}
use Rattle.cred_files.specs.declared.keytab_entry.KeytabEntry.{KeytabEntry}
use Rattle.enctypes.specs.Etype.{key_len, number}
use Rattle.enctypes.specs.Key.{IsKey}
use Rattle.enctypes.specs.declared.etype.Etype.{Etype}
use Rattle.enctypes.specs.KeyUsage.{usage_number}
use Rattle.enctypes.specs.NumberedLaws.{own_number}
use Rattle.enctypes.specs.declared.key.Key.{Key}
use Rattle.enctypes.specs.declared.key_usage.KeyUsage.TheVariants.{ApReqAuthenticator}
use Rattle.enctypes.specs.declared.key_usage.KeyUsage.TheVariants.{Ticket as TicketUsage}
use Rattle.krb_types.specs.ApReq.{ApReq}
use Rattle.krb_fields.specs.ApOption.{ap_option_number}
use Rattle.krb_fields.specs.Flags.{has_bit}
use Rattle.krb_fields.specs.Name.{Components, name_cmp, tied_exactly}
use Rattle.krb_fields.specs.Skew.{skew}
use Rattle.krb_fields.specs.declared.ap_option.ApOption.TheVariants.{MutualRequired, UseSessionKey}
use Rattle.krb_fields.specs.declared.moment.Moment.{Moment}
use Rattle.krb_types.specs.Authenticator.{Authenticator, authenticator}
use Rattle.krb_types.specs.EncTicketPart.{EncTicketPart, enc_ticket_part}
use Rattle.rule_lists.specs.Refusals.{first_holding, unless_refused, unless_found}
use Rattle.replay.specs.declared.verdict.Verdict.{Verdict}
use Rattle.encrypted_data.specs.Encrypted.{decrypted}
use Rattle.encrypted_data.specs.KeyLaws.{key_again}
use Rattle.encrypted_data.specs.Keys.{type_numbered}
use Rattle.kdc_replies.specs.Issue.{Issue, issued_ticket, issued_ticket_part}
use Rattle.client_core.specs.Presenting.{subkey_part}
use Rattle.client_core.specs.ServiceRequests.{ap_authenticator, ap_options, asks_ap}
use Rattle.client_core.specs.declared.service_asked.ServiceAsked.{ServiceAsked}
use Rattle.ap_accept.specs.Accepts.{Answer, accepted, accepts, answer_by, recorded_by, recorded_of, request_of}
use Rattle.ap_req.specs.Authenticators.{authenticator_of, session_key_of, subkey_in}
use Rattle.ap_req.specs.Keytab.{held_in, service_of, ticket_key}
use Rattle.ap_req.specs.Tickets.{opened_with, shown_ticket}
use Rattle.ap_accept.specs.Authenticators.{subkey_of}
use Rattle.ap_accept.specs.Presented.{presented, presented_as}
use Rattle.ap_accept.specs.PresentedLaws.{all_found}
use Rattle.ap_accept.specs.Reply.{asks_reply}
use Rattle.ap_accept.specs.StageLaws.{accepts_staged, recorded_staged}
use Rattle.ap_accept.specs.Stages.{if_presented, refusal_by, seen_by, seen_if, staged_if, unless_seen}
use Rattle.ap_req.specs.Validity.{ticket_terms}
use Rattle.ap_accept.specs.Validity.{validity_rules}
use Rattle.ap_accept.specs.declared.presented.Presented.{Presented}
use Rattle.ap_req.specs.declared.refusal.ApRefusal.{ApRefusal}
use Rattle.ap_req.specs.declared.refusal.ApRefusal.TheVariants.{AuthenticatorNotOpened, BadKeyVersion, BadMatch, BadMessageType, BadSessionKey, BadSubkey, BadVersion, BoundAddress, ForeignClient, NoKey, NotForUs, NotYetValid, SessionKeyAsked, TicketExpired, TicketNotOpened}
use Rattle.ap_accept.specs.declared.state.State.{State}
use Rattle.krb_joined.specs.Credential.{issued_credential, issued_session}
use Rattle.krb_joined.specs.Joined.{MayBeAccepted}

-- ---- bytes equal themselves

same_octets : (octets : List ℕ) → pointwise nat_eq octets octets ≡ true
same_octets octets = (bytes_decides octets octets).1 refl

same_name : (name : Components) → eq_by_cmp name_cmp name name ≡ true
same_name name = (tied_exactly name name).1 refl

same_number : (n : ℤ) → int_eq n n ≡ true
same_number n = (Decides-int_eq n n).1 refl

-- ---- options

no_session_key : (b : Bool) → has_bit (ap_options b) (ap_option_number UseSessionKey) ≡ false
no_session_key true = refl
no_session_key false = refl

asked_for : (b : Bool) → has_bit (ap_options b) (ap_option_number MutualRequired) ≡ b
asked_for true = refl
asked_for false = refl

-- ---- the keytab

by_tests : (a b : Bool) (e : KeytabEntry) (o w : Option KeytabEntry) → (a ≡ true → b ≡ true) → (is_some o ≡ true → is_some w ≡ true) → is_some (cond a (Some (newer e o)) o) ≡ true → is_some (cond b (Some (newer e w)) w) ≡ true
by_tests true true e o w here later s = refl
by_tests true false e o w here later s = absurd (let k : false ≡ true = here refl in cc)
by_tests false true e o w here later s = refl
by_tests false false e o w here later s = later s

-- an entry that passes a test passes a weaker one
newest_weaker : (test weaker : KeytabEntry → Bool) → ((e : KeytabEntry) → test e ≡ true → weaker e ≡ true) → (entries : List KeytabEntry) → is_some (newest test entries) ≡ true → is_some (newest weaker entries) ≡ true
unfolding newest
newest_weaker test weaker implies [] some = some
newest_weaker test weaker implies (e ∷ es) some = by_tests (test e) (weaker e) e (newest test es) (newest weaker es) (implies e) (newest_weaker test weaker implies es) some

of_both : (a b : Bool) → (a && b) ≡ true → a ≡ true
of_both true b e = refl
of_both false b e = e

any_type : (service : Components) (etype : Option Etype) (version : Option ℕ) (e : KeytabEntry) → passes service etype version e ≡ true → passes service None None e ≡ true
any_type service etype version e h = ap (λ (b : Bool). b && true) (of_both _ _ h)

both_ways : (a b c : Bool) → (a && (b && c)) ≡ true → (a && (b && true)) ≡ true
both_ways true true c h = refl
both_ways true false c h = h
both_ways false b c h = h

any_version : (service : Components) (etype : Option Etype) (version : Option ℕ) (e : KeytabEntry) → passes service etype version e ≡ true → passes service etype None e ≡ true
any_version service etype version e h = both_ways (is_of service e) (is_typed etype e.key) (is_numbered version e.version) h

key_there : (o : Option KeytabEntry) (key : Key) → option_map (λ e. e.key) o ≡ Some key → is_some o ≡ true
key_there (Some e) key h = refl
key_there None key h = absurd cc

-- ---- what is presented

subkey_read : (o : Option Key) → IfSome o IsKey → subkey_in (subkey_part o) ≡ Some o
subkey_read (Some key) valid = ap (λ (found : Option Key). option_map Some found) (key_again key valid.size)
subkey_read None valid = refl

-- a number is not below one that is no greater
not_below : (a b : ℤ) → b ≤ℤ a → int_lt a b ≡ false
not_below a b le = grind (arith, ints)

module _ (issue : Issue) (state : State) (sent : Moment) (asked : ServiceAsked) (confounder : List ℕ) where
  abbrev ap_req : ApReq
  ap_req = asks_ap (issued_credential issue).client (issued_session issue) sent asked confounder

  abbrev pub auth : Authenticator
  auth = ap_authenticator (issued_credential issue).client sent asked

  abbrev part : EncTicketPart
  part = issued_ticket_part issue

  abbrev key : Key
  key = issue.grant.session_key

  abbrev pub p : Presented
  p = presented_as ap_req part key auth asked.subkey

  module _ (held : ticket_key state.keytab (issued_ticket issue) ≡ Some issue.service_key.key) where
    entry : is_some (newest (passes (service_of (issued_ticket issue)) (Some issue.service_key.key.etype) (Some issue.service_key.version)) state.keytab) ≡ true
    entry = key_there _ issue.service_key.key
        (ap (λ (o : Option Etype). option_map (λ e. e.key) (entry_for state.keytab (service_of (issued_ticket issue)) o (Some (pos issue.service_key.version)))) (sym (own_number issue.service_key.key.etype)) ∙ held)

    service_held : is_some (newest (passes (service_of (issued_ticket issue)) None None) state.keytab) ≡ true
    service_held = newest_weaker _ _ (any_type (service_of (issued_ticket issue)) (Some issue.service_key.key.etype) (Some issue.service_key.version)) state.keytab entry

    type_held : is_some (entry_for state.keytab (service_of (issued_ticket issue)) (type_numbered (issued_ticket issue).enc_part.etype) None) ≡ true
    type_held =
        ap (λ (o : Option Etype). is_some (entry_for state.keytab (service_of (issued_ticket issue)) o None)) (own_number issue.service_key.key.etype)
        ∙ newest_weaker _ _ (any_version (service_of (issued_ticket issue)) (Some issue.service_key.key.etype) (Some issue.service_key.version)) state.keytab entry

    abbrev ticket_by : Bool → Bool → Bool → Bool → Option EncTicketPart → Result EncTicketPart ApRefusal
    ticket_by asks service type version opened =
        unless_refused (first_holding ((false, BadVersion) ∷ (false, BadMessageType) ∷ (asks, SessionKeyAsked) ∷ (not service, NotForUs) ∷ (not type || false, NoKey) ∷ (version, BadKeyVersion) ∷ [])) opened TicketNotOpened

    pub ticket_is : decrypted enc_ticket_part issue.service_key.key (usage_number TicketUsage) (issued_ticket issue).enc_part ≡ Some part → shown_ticket (held_in state.keytab ap_req.ticket) ap_req ≡ Ok part
    ticket_is opens =
        let found = ap (λ (k : Option Key). opened_with enc_ticket_part (usage_number TicketUsage) k (issued_ticket issue).enc_part.cipher) held ∙ opens in
        λ i. ticket_by (no_session_key asked.mutual_required i) (service_held i) (type_held i) (is_none (held i)) (found i)

  abbrev session_by : Bool → Option Key → Result Key ApRefusal
  session_by same found = unless_refused (first_holding ((not same, ForeignClient) ∷ (false, BoundAddress) ∷ [])) found BadSessionKey

  session_is : length key.bytes ≡ key_len key.etype → session_key_of issue.grant.realm part ≡ Ok key
  session_is size = λ i. session_by (same_octets issue.grant.realm i) (key_again key size i)

  authenticator_is : decrypted authenticator key (usage_number ApReqAuthenticator) ap_req.authenticator ≡ Some auth → authenticator_of ApReqAuthenticator key ap_req.authenticator ≡ Ok auth
  authenticator_is opens = λ i. unless_found (cond (same_number (number key.etype) i) (opens i) None) AuthenticatorNotOpened

  abbrev subkey_by : Bool → Bool → Option (Option Key) → Result (Option Key) ApRefusal
  subkey_by same_realm same_client found = unless_refused (first_holding ((not same_realm || not same_client, BadMatch) ∷ [])) found BadSubkey

  subkey_is : IfSome asked.subkey IsKey → subkey_of part auth ≡ Ok asked.subkey
  subkey_is valid = λ i. subkey_by (same_octets issue.grant.realm i) (same_name issue.grant.client.components i) (subkey_read asked.subkey valid i)

  -- what the client must know of the ticket, and the service of ticket and authenticator
  pub presented_is : ticket_key state.keytab (issued_ticket issue) ≡ Some issue.service_key.key → decrypted enc_ticket_part issue.service_key.key (usage_number TicketUsage) (issued_ticket issue).enc_part ≡ Some part
      → length key.bytes ≡ key_len key.etype → decrypted authenticator key (usage_number ApReqAuthenticator) ap_req.authenticator ≡ Some auth → IfSome asked.subkey IsKey → presented state.keytab ap_req ≡ Ok p
  presented_is held opens size opened valid =
      all_found ap_req state.keytab part key auth asked.subkey
      (ticket_is held opens) (session_is size) (authenticator_is opened) (subkey_is valid)

  -- ---- the answer

  abbrev invalid_by : Bool → Bool → Bool → Option ApRefusal
  invalid_by early flagged late = first_holding ((early || flagged, NotYetValid) ∷ (late, TicketExpired) ∷ [])

  module _ (at : Moment) (may : MayBeAccepted issue state at.sec sent) where
    valid_is : first_holding (validity_rules (ticket_terms part) at.sec) ≡ None
    valid_is = λ i. invalid_by (not_below (at.sec +ℤ pos skew) issue.grant.times.start may.started i) (may.valid i) (not_below issue.grant.times.end (at.sec -ℤ pos skew) may.not_ended i)

    pub answer_is : (own octets : List ℕ) → request_of octets ≡ Some ap_req → presented state.keytab ap_req ≡ Ok p → (accepts state at own octets).answer ≡ Ok (accepted own asked.mutual_required p)
    answer_is own octets read opened =
        ap (λ (a : Answer). a.answer) (accepts_staged state at own octets)
        ∙ (ap (λ (o : Option ApReq). (staged_if state at.sec own o).answer) read
        ∙ (ap (λ (r : Result Presented ApRefusal). (if_presented state at.sec own (asks_reply ap_req) r).answer) opened
        ∙ (ap (λ (v : Verdict ⊤). (unless_seen state at.sec own (asks_reply ap_req) p (refusal_by v)).answer) may.fresh
        ∙ (λ i. answer_by own (asked_for asked.mutual_required i) (valid_is i) (Some p)))))

    -- and its authenticator is recorded
    pub recorded_is : (octets : List ℕ) → request_of octets ≡ Some ap_req → presented state.keytab ap_req ≡ Ok p → recorded_by state at.sec octets ≡ Some p
    recorded_is octets read opened =
        ap (λ (o : Option ApReq). option_and_then (recorded_of state at.sec) o) read
        ∙ (recorded_staged state at.sec ap_req
        ∙ (ap (λ (r : Result Presented ApRefusal). seen_if state at.sec r) opened
        ∙ ap (λ (v : Verdict ⊤). seen_by p (refusal_by v)) may.fresh))
