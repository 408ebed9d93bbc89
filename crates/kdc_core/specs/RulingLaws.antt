-- The answer to a TGS-REQ follows the one list of its rules.
use Rattle.std.proofs.Common.{◌≡◌, Bool, true, false, Option, Some, None, Result, Ok, Err, refl, sym, ap, subst}
use Rattle.std.specs.Prelude.{◌&&◌, nat_eq, nat_lt, length, if◌then◌else◌}
use Rattle.std.specs.Cmp.Lexicographic.{pointwise}
use Rattle.kdc_replies.specs.Incoming.{Incoming}
use Rattle.krb_types.specs.KdcReq.{Received}
use Rattle.krb_types.specs.ReqBody.{ReqBody}
use Rattle.krb_types.specs.declared.kdc_req.Exchange.{Exchange}
use Rattle.krb_types.specs.declared.kdc_req.Exchange.TheVariants.{As as OfAs, Tgs as OfTgs}
use Rattle.replay.specs.declared.keep.Kept.{Kept}
use Rattle.tgs_exchange.specs.Answer.{TgsAnswer, answer_by, is_ticket, kept_reply, refused, refused_room, repeated}
use Rattle.tgs_exchange.specs.Decision.{decision}
use Rattle.tgs_exchange.specs.Issued.{issued_by}
use Rattle.tgs_exchange.specs.Outcome.{outcome_by}
use Rattle.tgs_exchange.specs.RefusalsLaws.{by_presented, refusing, ruled}
use Rattle.tgs_exchange.specs.View.{TgsView}
use Rattle.tgs_exchange.specs.declared.decision.Decision.{Decision}
use Rattle.tgs_exchange.specs.declared.decision.Decision.TheVariants.{Refuses, Records, Repeats, Issues}
use Rattle.ap_req.specs.declared.refusal.ApRefusal.TheVariants.{Repeated}
use Rattle.tgs_opening.specs.Opening.{presented}
use Rattle.tgs_opening.specs.declared.presented.Presented.{Presented}
use Rattle.tgs_opening.specs.declared.refusal.TgsRefusal.TheVariants.{Ap}
use Rattle.tgs_opening.specs.declared.rejection.OpeningRefusal.{OpeningRefusal}
use Rattle.kdc_core.specs.Audit.{contents_audit, incoming_audit}
use Rattle.kdc_core.specs.Answer.{contents_answer, incoming_answer, of_tgs, stamped}
use Rattle.kdc_core.specs.Contents.{contents, message_contents, tgs_contents}
use Rattle.kdc_core.specs.Issued.{issued, contents_issue}
use Rattle.kdc_core.specs.Request.{Request, request_of}
use Rattle.kdc_core.specs.Ruling.{Follows, IsRuled, if_tgs, tgs_ruling}
use Rattle.kdc_core.specs.View.{View, opening_view, tgs_view}
use Rattle.kdc_core.specs.declared.audit.AuditRecord.TheVariants.{Tgs}

either : (b : Bool) (x y : TgsAnswer) → x.kept ≡ None → y.kept ≡ None → (if b then x else y).kept ≡ None
either true x y e f = e
either false x y e f = f

-- a repeat stores nothing
repeat_keeps : (v : TgsView) (q : Incoming) (body : ReqBody) (kept : Kept) → (repeated v q body kept).kept ≡ None
repeat_keeps v q body kept =
    either (pointwise nat_eq q.octets kept.request) (kept_reply v q body kept) (refused v q.at body (Ap Repeated))
    (either (is_ticket kept.bears && nat_lt q.room (length kept.reply)) (refused_room v q.at body)
    (record { reply = kept.reply; kept = None }) refl refl) refl

module _ (v : View) (q : Incoming) (message : Received) where
  -- the reply, the audit record and the ticket that are made from a decision follow it
  decided_follows : (p : Presented) (d : Decision Kept)
      → Follows v q message (refusing d) (of_tgs v q.at.sec p (answer_by (tgs_view v) q message.body.value p d))
      (Tgs (Some p.ticket.cname) message.body.value.sname (outcome_by (tgs_view v) q message.body.value p d))
      (issued_by (tgs_view v) q.at q.random message.body.value p d)
  decided_follows p (Refuses rule) = (refl, refl)
  decided_follows p (Records rule) = (refl, refl, refl)
  decided_follows p (Repeats kept) =
      (refl, ap (λ k. stamped v.cache q.at.sec p k) (repeat_keeps (tgs_view v) q message.body.value kept))
  decided_follows p (Issues admission) = refl

  presented_follows : (r : Result Presented OpeningRefusal)
      → Follows v q message (by_presented (tgs_view v) q.at.sec message r)
      (contents_answer v q (tgs_contents message r))
      (contents_audit v q (tgs_contents message r)) (contents_issue v q.at q.random (tgs_contents message r))
  presented_follows (Ok p) = decided_follows p (decision (tgs_view v) q.at.sec message.body.value p)
  presented_follows (Err rejected) = (refl, refl)

  tgs_follows : Follows v q message (tgs_ruling v q.at.sec message)
      (contents_answer v q (tgs_contents message (presented (opening_view v) message)))
      (contents_audit v q (tgs_contents message (presented (opening_view v) message)))
      (contents_issue v q.at q.random (tgs_contents message (presented (opening_view v) message)))
  tgs_follows =
      subst (λ (r : Option (Decision Kept)). Follows v q message r
      (contents_answer v q (tgs_contents message (presented (opening_view v) message)))
      (contents_audit v q (tgs_contents message (presented (opening_view v) message)))
      (contents_issue v q.at q.random (tgs_contents message (presented (opening_view v) message))))
      (sym (ruled (tgs_view v) q.at.sec message v.tgs)) (presented_follows (presented (opening_view v) message))

module _ (v : View) (q : Incoming) where
  exchange_follows : (exchange : Exchange) (message : Received)
      → if_tgs exchange (Follows v q message (tgs_ruling v q.at.sec message)
      (contents_answer v q (message_contents v exchange message))
      (contents_audit v q (message_contents v exchange message))
      (contents_issue v q.at q.random (message_contents v exchange message)))
  exchange_follows OfAs message = tt
  exchange_follows OfTgs message = tgs_follows v q message

  request_follows : (request : Option Request)
      → IsRuled v q (contents_answer v q (contents v request)) (contents_audit v q (contents v request))
      (contents_issue v q.at q.random (contents v request)) request
  request_follows (Some request) = exchange_follows request.exchange request.message
  request_follows None = tt

  pub is_ruled : IsRuled v q (incoming_answer v q) (incoming_audit v q) (issued v q.at q.random (request_of q.octets))
      (request_of q.octets)
  is_ruled = request_follows (request_of q.octets)
