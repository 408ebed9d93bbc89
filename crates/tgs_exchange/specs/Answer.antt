-- The answers of the TGS exchange, and what it stores for them.
use Rattle.std.specs.Prelude.{ℕ, ⊤, ◌≡◌, ◌⊎◌, Bool, true, false, ◌&&◌, nat_eq, nat_lt, if◌then◌else◌}
use Rattle.std.specs.Prelude.{List, length, Option, Some, None}
use Rattle.std.specs.Cmp.Lexicographic.{pointwise}
use Rattle.enctypes.specs.KeyUsage.{usage_number}
use Rattle.krb_elements.specs.Codec.{written}
use Rattle.krb_fields.specs.declared.numbers.TheConstants.{TGS_REP, ENC_TGS_REP_PART}
use Rattle.krb_fields.specs.declared.moment.Moment.{Moment}
use Rattle.krb_types.specs.KdcRep.{KdcRep, kdc_rep}
use Rattle.krb_types.specs.EncKdcRepPart.{EncKdcRepPart}
use Rattle.krb_types.specs.EncTicketPart.{EncTicketPart}
use Rattle.krb_types.specs.KrbError.{KrbError, krb_error}
use Rattle.krb_types.specs.ReqBody.{ReqBody}
use Rattle.kdc_replies.specs.ErrorReply.{error_reply, too_big}
use Rattle.kdc_replies.specs.Grant.{reply_part, ticket_part}
use Rattle.kdc_replies.specs.Incoming.{Incoming}
use Rattle.kdc_replies.specs.Reply.{NamesKey, OpensAlike}
use Rattle.replay.specs.declared.keep.Bears.{Bears}
use Rattle.replay.specs.declared.keep.Bears.TheVariants.{Ticket, Error}
use Rattle.replay.specs.declared.keep.Kept.{Kept}
use Rattle.replay.specs.Kept.{nothing_kept}
use Rattle.tgs_opening.specs.Refusal.{code_of}
use Rattle.tgs_opening.specs.declared.presented.Presented.{Presented}
use Rattle.tgs_opening.specs.declared.refusal.TgsRefusal.{TgsRefusal}
use Rattle.ap_req.specs.declared.refusal.ApRefusal.TheVariants.{Repeated}
use Rattle.tgs_opening.specs.declared.refusal.TgsRefusal.TheVariants.{Ap}
use Rattle.tgs_exchange.specs.View.{TgsView}
use Rattle.tgs_exchange.specs.Decision.{decision}
use Rattle.tgs_exchange.specs.Issue.{grant_by, reply_key_of, tgs_rep}
use Rattle.tgs_exchange.specs.declared.decision.Decision.{Decision}
use Rattle.tgs_exchange.specs.declared.decision.Decision.TheVariants.{Refuses, Records, Repeats, Issues}
use Rattle.tgs_exchange.specs.declared.terms.Admission.{Admission}

-- the bytes of the reply, and what is stored of request and reply for the authenticator; with `None` it is not recorded
pub record TgsAnswer : Type 0 where
  pub reply : List ℕ
  pub kept : Option Kept

-- ---- errors

abbrev pub tgs_error : List ℕ → Moment → ReqBody → TgsRefusal → KrbError
tgs_error realm at body refusal = error_reply realm at (code_of refusal) body.sname None

-- a refusal that records nothing
abbrev pub refused : TgsView → Moment → ReqBody → TgsRefusal → TgsAnswer
refused v at body refusal = record { reply = written krb_error (tgs_error v.realm at body refusal); kept = None }

-- the error in place of a reply that is too long: nothing is recorded
abbrev pub refused_room : TgsView → Moment → ReqBody → TgsAnswer
refused_room v at body = record { reply = written krb_error (too_big v.realm at body); kept = None }

-- ---- a repeated authenticator

abbrev pub is_ticket : Bears → Bool
is_ticket Ticket = true
is_ticket Error = false

-- the stored reply, unless it has a ticket and is longer than the room
abbrev pub kept_reply : TgsView → Incoming → ReqBody → Kept → TgsAnswer
kept_reply v incoming body kept =
    if is_ticket kept.bears && nat_lt incoming.room (length kept.reply) then refused_room v incoming.at body
    else record { reply = kept.reply; kept = None }

-- the same request gets the stored reply, and another one is refused
abbrev pub repeated : TgsView → Incoming → ReqBody → Kept → TgsAnswer
repeated v incoming body kept =
    if pointwise nat_eq incoming.octets kept.request then kept_reply v incoming body kept
    else refused v incoming.at body (Ap Repeated)

-- ---- a new authenticator

-- a request and its reply, or nothing for a request of more bytes than this
abbrev pub kept_of : ℕ → List ℕ → Bears → List ℕ → Kept
kept_of longest request bears octets =
    if nat_lt longest (length request) then nothing_kept
    else record { request = request; reply = octets; bears = bears }

abbrev pub recording : TgsView → List ℕ → Bears → List ℕ → TgsAnswer
recording v request bears octets = record { reply = octets; kept = Some (kept_of v.limits.kept request bears octets) }

-- a reply with a ticket that is longer than the room leaves no trace
abbrev pub within_room : TgsView → Incoming → ReqBody → List ℕ → TgsAnswer
within_room v incoming body octets =
    if nat_lt incoming.room (length octets) then refused_room v incoming.at body
    else recording v incoming.octets Ticket octets

-- ---- answers

abbrev pub answer_by : TgsView → Incoming → ReqBody → Presented → Decision Kept → TgsAnswer
answer_by v incoming body p (Refuses refusal) = refused v incoming.at body refusal
answer_by v incoming body p (Records refusal) =
    recording v incoming.octets Error (written krb_error (tgs_error v.realm incoming.at body refusal))
answer_by v incoming body p (Repeats kept) = repeated v incoming body kept
answer_by v incoming body p (Issues admission) =
    within_room v incoming body (written (kdc_rep TGS_REP) (tgs_rep v incoming.at incoming.random body p admission))

abbrev pub tgs_answer : TgsView → Incoming → ReqBody → Presented → TgsAnswer
tgs_answer v incoming body p = answer_by v incoming body p (decision v incoming.at.sec body p)

-- ---- the messages that the bytes encode

-- the stored reply, or an error in its place
abbrev pub RepeatSpelled : TgsView → Moment → ReqBody → Kept → List ℕ → Type 0
RepeatSpelled v at body kept octets =
    (octets ≡ kept.reply)
    ⊎ (krb_error.Spells (too_big v.realm at body) octets
    ⊎ krb_error.Spells (tgs_error v.realm at body (Ap Repeated)) octets)

-- an error if the request was refused; otherwise the TGS-REP, or the error in its place
abbrev pub SpelledBy : TgsView → Moment → List ℕ → ReqBody → Presented → Decision Kept → List ℕ → Type 0
SpelledBy v at random body p (Refuses refusal) octets = krb_error.Spells (tgs_error v.realm at body refusal) octets
SpelledBy v at random body p (Records refusal) octets = krb_error.Spells (tgs_error v.realm at body refusal) octets
SpelledBy v at random body p (Repeats kept) octets = RepeatSpelled v at body kept octets
SpelledBy v at random body p (Issues admission) octets =
    (kdc_rep TGS_REP).Spells (tgs_rep v at random body p admission) octets
    ⊎ krb_error.Spells (too_big v.realm at body) octets

abbrev pub Spelled : TgsView → Moment → List ℕ → ReqBody → Presented → List ℕ → Type 0
Spelled v at random body p octets = SpelledBy v at random body p (decision v at.sec body p) octets

-- ---- one ticket, two keys

-- The reply key decrypts the TGS-REP to what the service's key finds in the ticket. That key is the one in the
-- service's row that the ticket names.
abbrev pub OpensTo : TgsView → Presented → Admission → KdcRep TGS_REP → EncKdcRepPart → EncTicketPart → Type 0
OpensTo v p admission reply part ticket =
    OpensAlike TGS_REP ENC_TGS_REP_PART (reply_key_of p).key (usage_number (reply_key_of p).usage)
    admission.terms.service.key.key
    reply part ticket
    × NamesKey v.service reply.ticket.enc_part admission.terms.service.key.key

-- both find what was granted
abbrev pub OpensFor : TgsView → Moment → List ℕ → ReqBody → Presented → Admission → Type 0
OpensFor v at random body p admission =
    OpensTo v p admission (tgs_rep v at random body p admission)
    (reply_part (grant_by v random body p admission) body.nonce at.sec)
    (ticket_part (grant_by v random body p admission))

abbrev pub OpensBy : TgsView → Moment → List ℕ → ReqBody → Presented → Decision Kept → Type 0
OpensBy v at random body p (Refuses refusal) = ⊤
OpensBy v at random body p (Records refusal) = ⊤
OpensBy v at random body p (Repeats kept) = ⊤
OpensBy v at random body p (Issues admission) = OpensFor v at random body p admission

abbrev pub Opens : TgsView → Moment → List ℕ → ReqBody → Presented → Type 0
Opens v at random body p = OpensBy v at random body p (decision v at.sec body p)

-- if a ticket is issued, the bytes sent encode its reply, which is decrypted as above, or the error in its place
abbrev pub SentBy : TgsView → Moment → List ℕ → ReqBody → Presented → Decision Kept → List ℕ → Type 0
SentBy v at random body p (Refuses refusal) octets = ⊤
SentBy v at random body p (Records refusal) octets = ⊤
SentBy v at random body p (Repeats kept) octets = ⊤
SentBy v at random body p (Issues admission) octets =
    ((kdc_rep TGS_REP).Spells (tgs_rep v at random body p admission) octets × OpensFor v at random body p admission)
    ⊎ krb_error.Spells (too_big v.realm at body) octets

abbrev pub Sent : TgsView → Moment → List ℕ → ReqBody → Presented → List ℕ → Type 0
Sent v at random body p octets = SentBy v at random body p (decision v at.sec body p) octets
