-- The result for the credential of an issued ticket, after the client has made an AP-REQ from it.
use Rattle.std.proofs.Common.{◌≡◌, ℕ, Bool, true, false, List, Option, Some, None, is_some, Result, Ok, Err, refl, sym, ap, subst, ◌∙◌}
use Rattle.std.specs.Prelude.{IfSome}
use Rattle.cred_files.specs.declared.credential.Credential.{Credential}
use Rattle.enctypes.specs.Key.{IsKey}
use Rattle.enctypes.specs.KeyUsage.{usage_number}
use Rattle.enctypes.specs.declared.key.Key.{Key}
use Rattle.enctypes.specs.declared.key_usage.KeyUsage.TheVariants.{ApReqAuthenticator}
use Rattle.krb_types.specs.ApReq.{ap_req}
use Rattle.krb_elements.specs.Laws.{whole_ok}
use Rattle.krb_fields.specs.declared.moment.Moment.{Moment}
use Rattle.krb_types.specs.Authenticator.{Authenticator, authenticator}
use Rattle.krb_types.specs.EncApRepPart.{EncApRepPart}
use Rattle.encrypted_data.specs.Encrypted.{decrypted}
use Rattle.kdc_replies.specs.Issue.{Issue}
use Rattle.encrypted_data.specs.Parts.{ok_of}
use Rattle.client_core.specs.Faults.{Fails}
use Rattle.client_core.specs.ServiceReplies.{reads_ap}
use Rattle.client_core.specs.ServiceRequests.{ap_authenticator, asks_ap}
use Rattle.client_core.specs.Sessions.{session, session_key}
use Rattle.client_core.specs.declared.fault.ReplyError.{ReplyError}
use Rattle.client_core.specs.declared.fault.ReplyError.TheVariants as client_faults
use Rattle.client_core.specs.declared.service_asked.ServiceAsked.{ServiceAsked}
use Rattle.client_core.specs.declared.sessions.Session.{Session}
use Rattle.ap_accept.specs.Accepts.{IsAnswer, accepted, accepts, recorded_by, request_of}
use Rattle.ap_accept.specs.Presented.{presented}
use Rattle.ap_accept.specs.Reply.{IsApReply, reply_if, reply_part}
use Rattle.ap_accept.specs.declared.accepted.Accepted.{Accepted}
use Rattle.ap_accept.specs.declared.fault.ApFault.{ApFault}
use Rattle.ap_accept.specs.declared.fault.ApFault.TheVariants as ap_faults
use Rattle.ap_accept.specs.declared.presented.Presented.{Presented}
use Rattle.ap_accept.specs.declared.state.State.{State}
use Rattle.krb_joined.specs.Credential.{IsCredentialOf, issued_credential, issued_session}
use Rattle.krb_joined.specs.Joined.{IsAccepted, IsHeard, IsJoined, IsUnheard, MayBeAccepted, moment_part}
use Rattle.krb_joined.specs.declared.path_end.PathEnd.{PathEnd}
use Rattle.krb_joined.specs.declared.path_end.PathEnd.TheVariants.{NoReply, NotTaken, NotPresentable, NotAccepted, NotAnswered, Memory}
use Rattle.krb_joined.proofs.Accepted.{answer_is, auth, p, presented_is, recorded_is}
use Rattle.krb_joined.proofs.Answered.{answer_taken}

ok_same : {A E : Type 0} (x y : A) (r : Result A E) → r ≡ Ok x → r ≡ Ok y → x ≡ y
ok_same x y r e f = let k = sym e ∙ f in cc

some_same : {A : Type 0} (x y : A) → Some x ≡ Some y → x ≡ y
some_same x y e = cc

-- an AP-REP that the client can read fails only if memory runs out
unread : (fault : ReplyError) (part : EncApRepPart) (r : Result EncApRepPart ReplyError) → r ≡ Ok part → Fails fault r → fault ≡ client_faults.Memory
unread client_faults.Memory part r e h = refl
unread client_faults.NotAReply part r e h = absurd (let k = sym h ∙ e in cc)
unread (client_faults.Refused refusal) part r e h = absurd (let k = sym h ∙ e in cc)
unread (client_faults.Mismatch what) part r e h = absurd (let k = sym h ∙ e in cc)
unread client_faults.CannotOpen part r e h = absurd (let k = sym h ∙ e in cc)
unread client_faults.CountTooLarge part r e h = absurd (let k = sym h ∙ e in cc)

unheard : (key : Key) (own : List ℕ) (a : Authenticator) (sent : Moment) (reply : Option (List ℕ)) (fault : ReplyError) → a.ctime ≡ sent.sec → a.cusec ≡ sent.usec → IfSome reply (λ octets. IsApReply key own a octets)
    → IsUnheard key sent reply fault → fault ≡ client_faults.Memory
unheard key own a sent (Some octets) fault second microsecond is h = unread fault (reply_part a) (reads_ap key sent octets) (answer_taken key own a octets sent second microsecond is) h
unheard key own a sent None fault second microsecond is h = absurd h

-- what the client reads from the AP-REP
heard_if : (key : Key) (own : List ℕ) (a : Authenticator) (sent : Moment) (reply : Option (List ℕ)) → a.ctime ≡ sent.sec → a.cusec ≡ sent.usec → IfSome reply (λ octets. IsApReply key own a octets)
    → IfSome reply (λ octets. reads_ap key sent octets ≡ Ok (moment_part sent))
heard_if key own a sent (Some octets) second microsecond is =
    answer_taken key own a octets sent second microsecond is ∙ (λ i. Ok (record { ctime = second i; cusec = microsecond i; subkey = None; seq_number = None }))
heard_if key own a sent None second microsecond is = tt

-- there is an AP-REP if it was asked for
reply_there : (wanted : Bool) (key : Key) (own : List ℕ) (a : Authenticator) → is_some (reply_if wanted key own a) ≡ wanted
reply_there true key own a = refl
reply_there false key own a = refl

module _ (issue : Issue) (state : State) (credential : Credential) (sent at : Moment) (asked : ServiceAsked) (confounder own octets made : List ℕ) (same : octets ≡ made)
    (of : IsCredentialOf issue credential) (may : MayBeAccepted issue state at.sec sent) (valid : IfSome asked.subkey IsKey)
    (spelled : IfSome (session credential) (λ s. ap_req.Spells (asks_ap credential.client s sent asked confounder) made))
    (opens : IfSome (session credential) (λ s. decrypted authenticator s.key (usage_number ApReqAuthenticator) (asks_ap credential.client s sent asked confounder).authenticator ≡ Some (ap_authenticator credential.client sent asked))) where
  own_spelled : ap_req.Spells (asks_ap (issued_credential issue).client (issued_session issue) sent asked confounder) octets
  own_spelled =
      subst (λ (l : List ℕ). ap_req.Spells (asks_ap (issued_credential issue).client (issued_session issue) sent asked confounder) l) (sym same)
      (subst (λ (c : Credential). ap_req.Spells (asks_ap c.client (issued_session issue) sent asked confounder) made) of.is
      (subst (λ (o : Option Session). IfSome o (λ s. ap_req.Spells (asks_ap credential.client s sent asked confounder) made)) of.session spelled))

  own_opens : decrypted authenticator issue.grant.session_key (usage_number ApReqAuthenticator) (asks_ap (issued_credential issue).client (issued_session issue) sent asked confounder).authenticator ≡ Some (auth issue state sent asked confounder)
  own_opens =
      subst (λ (c : Credential). decrypted authenticator issue.grant.session_key (usage_number ApReqAuthenticator) (asks_ap c.client (issued_session issue) sent asked confounder).authenticator ≡ Some (ap_authenticator c.client sent asked)) of.is
      (subst (λ (o : Option Session). IfSome o (λ s. decrypted authenticator s.key (usage_number ApReqAuthenticator) (asks_ap credential.client s sent asked confounder).authenticator ≡ Some (ap_authenticator credential.client sent asked))) of.session opens)

  read : request_of octets ≡ Some (asks_ap (issued_credential issue).client (issued_session issue) sent asked confounder)
  read = ap ok_of ((whole_ok ap_req.Spells ap_req.at ap_req.laws.element.reading).again (asks_ap (issued_credential issue).client (issued_session issue) sent asked confounder) octets own_spelled)

  opened : presented state.keytab (asks_ap (issued_credential issue).client (issued_session issue) sent asked confounder) ≡ Ok (p issue state sent asked confounder)
  opened = presented_is issue state sent asked confounder may.key of.service_reads of.size own_opens valid

  ruled : (accepts state at own octets).answer ≡ Ok (accepted own asked.mutual_required (p issue state sent asked confounder))
  ruled = answer_is issue state sent asked confounder at may own octets read opened

  -- the service refuses the request only if memory runs out
  pub refused_so : (fault : ApFault) → IsAnswer (Err fault) (accepts state at own octets).answer → fault ≡ ap_faults.Memory
  refused_so ap_faults.NotAnApReq h = absurd (let k = sym h ∙ ruled in cc)
  refused_so (ap_faults.Refused refusal) h = absurd (let k = sym h ∙ ruled in cc)
  refused_so ap_faults.Memory h = refl

  -- ---- the answer

  found : recorded_by state at.sec octets ≡ Some (p issue state sent asked confounder)
  found = recorded_is issue state sent asked confounder at may octets read opened

  -- the session key decrypts the AP-REP
  answers : (a : Accepted) → IfSome (recorded_by state at.sec octets) (λ p. IfSome a.ap_rep (λ reply. IsApReply p.session_key own p.authenticator reply))
      → IfSome a.ap_rep (λ reply. IsApReply issue.grant.session_key own (auth issue state sent asked confounder) reply)
  answers a reply = subst (λ (o : Option Presented). IfSome o (λ p. IfSome a.ap_rep (λ reply. IsApReply p.session_key own p.authenticator reply))) found reply

  -- the service accepts what was granted and what was sent
  joined : (a : Accepted) → IsAnswer (Ok a) (accepts state at own octets).answer → IfSome a.ap_rep (λ reply. IsApReply issue.grant.session_key own (auth issue state sent asked confounder) reply) → IsAccepted issue asked sent a
  joined a h reply =
      let is : a ≡ accepted own asked.mutual_required (p issue state sent asked confounder) = ok_same a (accepted own asked.mutual_required (p issue state sent asked confounder)) (accepts state at own octets).answer h ruled in
      record {
        client = ap (λ (x : Accepted). x.client) is;
        session_key = ap (λ (x : Accepted). x.session_key) is;
        ticket = ap (λ (x : Accepted). x.ticket) is;
        subkey = ap (λ (x : Accepted). x.subkey) is;
        seq_number = ap (λ (x : Accepted). x.seq_number) is;
        checksum = ap (λ (x : Accepted). x.cksum) is;
        replied = ap (λ (x : Accepted). is_some x.ap_rep) is ∙ reply_there asked.mutual_required issue.grant.session_key own (auth issue state sent asked confounder);
        heard = heard_if issue.grant.session_key own (auth issue state sent asked confounder) sent a.ap_rep refl refl reply;
      }

  -- and the client accepts its reply
  pub accepted_so : (a : Accepted) (heard : Result Accepted PathEnd) (key : Key) → session_key credential ≡ Some key → IsAnswer (Ok a) (accepts state at own octets).answer
      → IfSome (recorded_by state at.sec octets) (λ p. IfSome a.ap_rep (λ reply. IsApReply p.session_key own p.authenticator reply)) → IsHeard key sent a heard → IsJoined issue asked sent heard
  accepted_so a (Ok b) key e h reply heard = subst (λ (x : Accepted). IsAccepted issue asked sent x) (sym heard.0) (joined a h (answers a reply))
  accepted_so a (Err (NotAnswered fault)) key e h reply heard =
      let shared : issue.grant.session_key ≡ key = some_same issue.grant.session_key key (sym of.key ∙ e) in
      unheard key own (auth issue state sent asked confounder) sent a.ap_rep fault refl refl
      (subst (λ (k : Key). IfSome a.ap_rep (λ reply. IsApReply k own (auth issue state sent asked confounder) reply)) shared (answers a reply)) heard
  accepted_so a (Err NoReply) key e h reply heard = absurd heard
  accepted_so a (Err (NotTaken fault)) key e h reply heard = absurd heard
  accepted_so a (Err NotPresentable) key e h reply heard = absurd heard
  accepted_so a (Err (NotAccepted fault)) key e h reply heard = absurd heard
  accepted_so a (Err Memory) key e h reply heard = absurd heard
