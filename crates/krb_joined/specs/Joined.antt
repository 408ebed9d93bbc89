-- The rest of an issued ticket's path: the service that it is for accepts the client.
use Rattle.std.specs.Prelude.{◌≡◌, ◌⊎◌, ⊤, false, ℕ, ℤ, pos, ◌+ℤ◌, ◌-ℤ◌, ◌≤ℤ◌, List, Option, Some, None, is_some}
use Rattle.std.specs.Prelude.{Result, Ok, Err, IfSome, IsOk, option_map}
use Rattle.std.specs.Result.{result_ok}
use Rattle.krb_fields.specs.Flags.{has_bit}
use Rattle.krb_fields.specs.Skew.{skew}
use Rattle.krb_fields.specs.TicketFlag.{ticket_flag_number}
use Rattle.krb_fields.specs.declared.moment.Moment.{Moment}
use Rattle.krb_fields.specs.declared.ticket_flag.TicketFlag.TheVariants.{Invalid}
use Rattle.krb_types.specs.ApReq.{ap_req}
use Rattle.krb_elements.specs.Codec.{written}
use Rattle.kdc_replies.specs.Issue.{Issue, issued_ticket, issued_ticket_part}
use Rattle.kdc_state.specs.declared.state.State as kdc_states
use Rattle.replay.specs.ReplayCache.{verdict}
use Rattle.replay.specs.declared.verdict.Verdict.TheVariants.{Fresh}
use Rattle.ap_req.specs.Keytab.{service_of, ticket_key}
use Rattle.ap_req.specs.Validity.{ticket_terms}
use Rattle.ap_accept.specs.Accepts.{Answer, IsAfter, IsAnswer, accepts}
use Rattle.ap_accept.specs.State.{cache_of}
use Rattle.ap_accept.specs.declared.accepted.Accepted.{Accepted}
use Rattle.ap_accept.specs.declared.state.State.{State}
use Rattle.ap_accept.specs.declared.fault.ApFault.{ApFault}
use Rattle.ap_accept.specs.declared.fault.ApFault.TheVariants as ap_faults
use Rattle.client_core.specs.Faults.{Fails}
use Rattle.client_core.specs.Presenting.{number_part}
use Rattle.client_core.specs.ServiceReplies.{reads_ap}
use Rattle.client_core.specs.ServiceRequests.{asks_ap}
use Rattle.client_core.specs.Sessions.{is_presentable, session, session_key}
use Rattle.client_core.specs.declared.asked.Asked.{Asked}
use Rattle.client_core.specs.declared.fault.ReplyError.{ReplyError}
use Rattle.client_core.specs.declared.fault.ReplyError.TheVariants as client_faults
use Rattle.client_core.specs.declared.service_asked.ServiceAsked.{ServiceAsked}
use Rattle.cred_files.specs.declared.credential.Credential.{Credential}
use Rattle.enctypes.specs.declared.key.Key.{Key}
use Rattle.krb_types.specs.EncApRepPart.{EncApRepPart}
use Rattle.krb_joined.specs.Credential.{issued_credential}
use Rattle.krb_joined.specs.Reading.{reads_reply}
use Rattle.krb_joined.specs.declared.path_end.PathEnd.{PathEnd}
use Rattle.krb_joined.specs.declared.presenting.Sealing.{Sealing}
use Rattle.krb_joined.specs.declared.reading.Reader.{Reader}
use Rattle.krb_joined.specs.declared.path_end.PathEnd.TheVariants.{NoReply, NotTaken, NotPresentable, NotAccepted}
use Rattle.krb_joined.specs.declared.path_end.PathEnd.TheVariants.{NotAnswered, Memory}

-- What must hold at the service, at the second `now`, for an AP-REQ sent at the moment `sent`. The keytab entry that
-- the acceptor picks holds the key that encrypted the ticket. The ticket is valid by flag and times. The
-- authenticator's time is new in this client's replay cache at this service.
pub record MayBeAccepted (issue : Issue) (state : State) (now : ℤ) (sent : Moment) : Type 0 where
  pub key : ticket_key state.keytab (issued_ticket issue) ≡ Some issue.service_key.key
  pub valid : has_bit issue.grant.flags (ticket_flag_number Invalid) ≡ false
  pub started : issue.grant.times.start ≤ℤ (now +ℤ pos skew)
  pub not_ended : (now -ℤ pos skew) ≤ℤ issue.grant.times.end
  pub fresh : verdict (cache_of state (service_of (issued_ticket issue)) issue.grant.client.components) now
      (sent.sec, sent.usec) state.options.remembered ≡ Fresh

-- the authenticator's time and nothing else: what a service encrypts into the AP-REP
abbrev pub moment_part : Moment → EncApRepPart
moment_part sent = record { ctime = sent.sec; cusec = sent.usec; subkey = None; seq_number = None }

-- The service learns what was granted (the client, the session key, and the ticket's flags and times) and what the
-- client sent at this moment. There is an AP-REP exactly if the client asked for one, and the client accepts it.
pub record IsAccepted (issue : Issue) (wanted : ServiceAsked) (sent : Moment) (accepted : Accepted) : Type 0 where
  pub client : accepted.client ≡ record { realm = issue.grant.realm; name = issue.grant.client }
  pub session_key : accepted.session_key ≡ issue.grant.session_key
  pub ticket : accepted.ticket ≡ ticket_terms (issued_ticket_part issue)
  pub subkey : accepted.subkey ≡ wanted.subkey
  pub seq_number : accepted.seq_number ≡ number_part wanted.seq_number
  pub checksum : accepted.cksum ≡ wanted.checksum
  pub replied : is_some accepted.ap_rep ≡ wanted.mutual_required
  pub heard : IfSome accepted.ap_rep (λ octets. reads_ap issue.grant.session_key sent octets ≡ Ok (moment_part sent))

-- If the service is asked, it doesn't refuse the client, and the client doesn't reject its reply, unless memory runs
-- out. If it is not asked, memory ran out, the client rejected the KDC's reply (see `IsEnded`), or the credential in it
-- can't be presented.
abbrev pub IsJoined : Issue → ServiceAsked → Moment → Result Accepted PathEnd → Type 0
IsJoined issue wanted sent (Ok accepted) = IsAccepted issue wanted sent accepted
IsJoined issue wanted sent (Err (NotAccepted fault)) = fault ≡ ap_faults.Memory
IsJoined issue wanted sent (Err (NotAnswered fault)) = fault ≡ client_faults.Memory
IsJoined issue wanted sent (Err NoReply) = ⊥
IsJoined issue wanted sent (Err (NotTaken fault)) = ⊤
IsJoined issue wanted sent (Err NotPresentable) = is_presentable (issued_credential issue) ≡ false
IsJoined issue wanted sent (Err Memory) = ⊤

-- the client's rules reject the reply with this error, or memory runs out
abbrev pub IsUntaken : Option (List ℕ) → Asked → Reader → ReplyError → Type 0
IsUntaken (Some octets) asked reader fault = Fails fault (reads_reply reader asked octets)
IsUntaken None asked reader fault = ⊥

-- the credential in the reply, if the client's rules accept it
abbrev pub taken_of : Option (List ℕ) → Asked → Reader → Option Credential
taken_of (Some octets) asked reader = result_ok (reads_reply reader asked octets)
taken_of None asked reader = None

-- the client got a credential that it can't present
abbrev pub IsUnpresentable : Option Credential → Type 0
IsUnpresentable (Some credential) = is_presentable credential ≡ false
IsUnpresentable None = ⊥

-- If the path ends before the service is asked, the KDC sent no reply, or one that the client rejects, or one whose
-- credential can't be presented.
abbrev pub IsEnded : Option (List ℕ) → Asked → Reader → PathEnd → Type 0
IsEnded reply asked reader NoReply = reply ≡ None
IsEnded reply asked reader (NotTaken fault) = IsUntaken reply asked reader fault
IsEnded reply asked reader NotPresentable = IsUnpresentable (taken_of reply asked reader)
IsEnded reply asked reader (NotAccepted fault) = ⊤
IsEnded reply asked reader (NotAnswered fault) = ⊤
IsEnded reply asked reader Memory = ⊤

-- an end at the KDC, or at the client as it reads the KDC's reply
abbrev pub IsBefore : PathEnd → Type 0
IsBefore (NotAccepted fault) = ⊥
IsBefore (NotAnswered fault) = ⊥
IsBefore NoReply = ⊤
IsBefore (NotTaken fault) = ⊤
IsBefore NotPresentable = ⊥
IsBefore Memory = ⊤

-- an end after that
abbrev pub IsLater : PathEnd → Type 0
IsLater (NotAccepted fault) = ⊤
IsLater (NotAnswered fault) = ⊤
IsLater NoReply = ⊥
IsLater (NotTaken fault) = ⊥
IsLater NotPresentable = ⊤
IsLater Memory = ⊤

-- the client accepts the AP-REP, if there is one
abbrev pub IsAnswered : Key → Moment → Option (List ℕ) → Type 0
IsAnswered key sent (Some octets) = IsOk (reads_ap key sent octets)
IsAnswered key sent None = ⊤

-- For any credential, no matter who issued it: it can't be presented, or the client accepted the AP-REP before anything
-- counts as accepted.
abbrev pub IsPresented : Credential → Moment → Result Accepted PathEnd → Type 0
IsPresented credential sent (Ok accepted) = IfSome (session_key credential) (λ key. IsAnswered key sent accepted.ap_rep)
IsPresented credential sent (Err NotPresentable) = is_presentable credential ≡ false
IsPresented credential sent (Err (NotAccepted fault)) = ⊤
IsPresented credential sent (Err (NotAnswered fault)) = ⊤
IsPresented credential sent (Err NoReply) = ⊤
IsPresented credential sent (Err (NotTaken fault)) = ⊤
IsPresented credential sent (Err Memory) = ⊤

-- this is the credential in the reply by the client's rules
abbrev pub IsRead : Option (List ℕ) → Asked → Reader → Credential → Type 0
IsRead (Some octets) asked reader credential = reads_reply reader asked octets ≡ Ok credential
IsRead None asked reader credential = ⊥

-- the service sent an AP-REP, and the client rejects it with this error
abbrev pub IsUnheard : Key → Moment → Option (List ℕ) → ReplyError → Type 0
IsUnheard key sent (Some octets) fault = Fails fault (reads_ap key sent octets)
IsUnheard key sent None fault = ⊥

abbrev pub IsHeard : Key → Moment → Accepted → Result Accepted PathEnd → Type 0
IsHeard key sent accepted (Ok heard) = (heard ≡ accepted) × IsAnswered key sent accepted.ap_rep
IsHeard key sent accepted (Err (NotAnswered fault)) = IsUnheard key sent accepted.ap_rep fault
IsHeard key sent accepted (Err fault) = ⊥

-- ---- the service's part

abbrev pub key_of : Option Credential → Option Key
key_of (Some credential) = session_key credential
key_of None = None

-- The service's answer to the AP-REQ that the client makes from its credential, with the service's own confounder, if
-- there is a credential that yields a session.
abbrev pub ruled : State → ServiceAsked → Sealing → Sealing → Option Credential → Option Answer
ruled state wanted presenting accepting (Some credential) = option_map (λ s.
    accepts state accepting.at accepting.confounder
    (written ap_req (asks_ap credential.client s presenting.at wanted presenting.confounder))) (session credential)
ruled state wanted presenting accepting None = None

abbrev pub IsRefused : ApFault → Option Answer → Type 0
IsRefused fault (Some ruling) = IsAnswer (Err fault) ruling.answer
IsRefused fault None = ⊥

-- the service accepted the request, and the client rejects the AP-REP with this error
abbrev pub IsUnheardBy : Option Key → Moment → ReplyError → Option (Result Accepted ApFault) → Type 0
IsUnheardBy (Some key) sent fault (Some (Ok accepted)) = IsUnheard key sent accepted.ap_rep fault
IsUnheardBy _ _ _ _ = ⊥

-- The result is the one that the service's rules prescribe. The key is the session key that the client holds.
abbrev pub IsRuled : Option Key → Moment → Option Answer → Result Accepted PathEnd → Type 0
IsRuled key sent ruling (Ok accepted) = option_map (λ r. r.answer) ruling ≡ Some (Ok accepted)
IsRuled key sent ruling (Err (NotAccepted fault)) = IsRefused fault ruling
IsRuled key sent ruling (Err (NotAnswered fault)) = IsUnheardBy key sent fault (option_map (λ r. r.answer) ruling)
IsRuled key sent ruling (Err NoReply) = ⊤
IsRuled key sent ruling (Err (NotTaken fault)) = ⊤
IsRuled key sent ruling (Err NotPresentable) = ⊤
IsRuled key sent ruling (Err Memory) = ⊤

abbrev pub IsRefusedAfter : ApFault → State → State → Option Answer → Type 0
IsRefusedAfter fault old new (Some ruling) = IsAfter (Err fault) old new ruling.state
IsRefusedAfter fault old new None = ⊥

-- The service's state afterwards is the one that its rules prescribe if it was asked, and otherwise the old one. It
-- records an accepted authenticator even if the client rejects its reply.
abbrev pub IsServed : State → State → Option Answer → Result Accepted PathEnd → Type 0
IsServed old new ruling (Ok accepted) = option_map (λ r. r.state) ruling ≡ Some new
IsServed old new ruling (Err (NotAccepted fault)) = IsRefusedAfter fault old new ruling
IsServed old new ruling (Err (NotAnswered fault)) = option_map (λ r. r.state) ruling ≡ Some new
IsServed old new ruling (Err NoReply) = new ≡ old
IsServed old new ruling (Err (NotTaken fault)) = new ≡ old
IsServed old new ruling (Err NotPresentable) = new ≡ old
IsServed old new ruling (Err Memory) = new ≡ old

-- ---- the KDC's state

-- it is the one that the KDC's rules prescribe, or the old one if memory ran out
abbrev pub IsNextState : kdc_states.State → kdc_states.State → kdc_states.State → Result Credential PathEnd → Type 0
IsNextState old new ruling (Ok credential) = new ≡ ruling
IsNextState old new ruling (Err NoReply) = new ≡ ruling
IsNextState old new ruling (Err (NotTaken fault)) = new ≡ ruling
IsNextState old new ruling (Err NotPresentable) = new ≡ ruling
IsNextState old new ruling (Err (NotAccepted fault)) = new ≡ ruling
IsNextState old new ruling (Err (NotAnswered fault)) = new ≡ ruling
IsNextState old new ruling (Err Memory) = new ≡ old

-- the same for a whole path, on which the client may have run out of memory
abbrev pub IsNextStateOn : kdc_states.State → kdc_states.State → kdc_states.State → Result Accepted PathEnd → Type 0
IsNextStateOn old new ruling (Ok accepted) = new ≡ ruling
IsNextStateOn old new ruling (Err NoReply) = new ≡ ruling
IsNextStateOn old new ruling (Err (NotTaken fault)) = new ≡ ruling
IsNextStateOn old new ruling (Err NotPresentable) = new ≡ ruling
IsNextStateOn old new ruling (Err (NotAccepted fault)) = new ≡ ruling
IsNextStateOn old new ruling (Err (NotAnswered fault)) = new ≡ ruling
IsNextStateOn old new ruling (Err Memory) = (new ≡ old) ⊎ (new ≡ ruling)
