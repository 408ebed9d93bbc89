-- The reply to a request for which a ticket is issued bears that ticket.
use Rattle.std.proofs.Common.{◌≡◌, ◌≤◌, ℕ, List, length, Option, Some, None, Result, Ok, Err, IfOk, IfSome, refl, sym}
use Rattle.std.proofs.Common.{subst}
use Rattle.as_exchange.specs.IssuedLaws as as_exchange
use Rattle.tgs_exchange.specs.IssuedLaws as tgs_exchange
use Rattle.kdc_replies.specs.Issue.{Issue, IsIssuedOrError}
use Rattle.krb_fields.specs.declared.moment.Moment.{Moment}
use Rattle.kdc_core.specs.Answer.{IsReply, IsContentsReply, IsSentTo, OneTicketTwoKeys, ContentsOpen, ReplyOpens}
use Rattle.kdc_core.specs.Answer.{SentOf, ContentsSpelled}
use Rattle.kdc_core.specs.Contents.{contents}
use Rattle.kdc_core.specs.Issued.{IsTicketReply, issued, contents_issue}
use Rattle.kdc_core.specs.Request.{Request}
use Rattle.kdc_core.specs.View.{View, as_view, tgs_view}
use Rattle.kdc_core.specs.Held.{Contents}
use Rattle.kdc_core.specs.Held.Contents.{NoRequest, AsReq, RefusedTgsReq, TgsReq}

module _ (v : View) (at : Moment) (random octets : List ℕ) where
  sent_so : (held : Contents) → ContentsSpelled v at random held octets → ContentsOpen v at random held
      → SentOf v at random held octets
  sent_so NoRequest spelled opens = tt
  sent_so (AsReq message) spelled opens =
      as_exchange.reply_is_sent (as_view v) at random octets message spelled opens
  sent_so (RefusedTgsReq message rejected) spelled opens = tt
  sent_so (TgsReq message p) spelled opens =
      tgs_exchange.reply_is_sent (tgs_view v) at random octets message.body.value p spelled opens

  module _ (long : 32 ≤ length random) (issue : Issue) where
    issued_so : (held : Contents) → SentOf v at random held octets
        → contents_issue v at random held ≡ Some issue → IsIssuedOrError issue octets
    issued_so NoRequest sent e = absurd cc
    issued_so (AsReq message) sent e =
        as_exchange.reply_is_issued (as_view v) at random octets long issue message sent e
    issued_so (RefusedTgsReq message rejected) sent e = absurd cc
    issued_so (TgsReq message p) sent e =
        tgs_exchange.reply_is_issued (tgs_view v) at random octets message.body.value p long issue sent e

    -- The reply to a request for which a ticket is issued bears that ticket, or is an error because there was no room
    -- for it.
    pub reply_is_issued : (request : Option Request) → OneTicketTwoKeys v at random request (Some octets)
        → issued v at random request ≡ Some issue → IsIssuedOrError issue octets
    reply_is_issued request sent e = issued_so (contents v request) sent e

module _ (v : View) (at : Moment) (random : List ℕ) where
  sent_to : (held : Contents) (reply : Option (List ℕ)) → IsContentsReply v at random reply held
      → ContentsOpen v at random held → IsSentTo v at random reply held
  sent_to held (Some octets) spelled opens = sent_so v at random octets held spelled opens
  sent_to held None nothing opens = nothing

  -- What a call sends encodes the answer, and is decrypted as the answer is.
  pub replies_sent : {A E : Type 0} (octets_of : A → Option (List ℕ)) (request : Option Request) (r : Result A E)
      → IfOk r (λ a. IsReply v at random request (octets_of a)) → IfOk r (λ a. ReplyOpens v at random request)
      → IfOk r (λ a. OneTicketTwoKeys v at random request (octets_of a))
  replies_sent octets_of request (Ok a) spelled opens = sent_to (contents v request) (octets_of a) spelled opens
  replies_sent octets_of request (Err e) spelled opens = tt

  module _ (long : 32 ≤ length random) where
    replied : (held : Contents) (reply : Option (List ℕ)) → IsSentTo v at random reply held
        → IfSome (contents_issue v at random held) (λ issue. IsTicketReply issue reply)
    replied held (Some octets) sent = by_issue (contents_issue v at random held) refl
      where
        by_issue : (o : Option Issue) → contents_issue v at random held ≡ o
            → IfSome o (λ issue. IsIssuedOrError issue octets)
        by_issue (Some issue) e = issued_so v at random octets long issue held sent e
        by_issue None e = tt
    replied held None nothing =
        subst (λ (h : Contents). IfSome (contents_issue v at random h) (λ issue. ⊥)) (sym nothing) tt

    -- If a ticket is issued for a request, what a call sends bears that ticket, or is an error in its place.
    pub replies_issued : {A E : Type 0} (octets_of : A → Option (List ℕ)) (request : Option Request) (r : Result A E)
        → IfOk r (λ a. OneTicketTwoKeys v at random request (octets_of a))
        → IfOk r (λ a. IfSome (issued v at random request) (λ issue. IsTicketReply issue (octets_of a)))
    replies_issued octets_of request (Ok a) sent = replied (contents v request) (octets_of a) sent
    replies_issued octets_of request (Err e) sent = tt
