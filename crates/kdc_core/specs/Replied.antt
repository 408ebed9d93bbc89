-- What is known of the reply to the contents of a request, before the state changes.
use Rattle.std.specs.Prelude.{◌≡◌, ℕ, List, Option}
use Rattle.kdc_replies.specs.Incoming.{Incoming}
use Rattle.kdc_state.specs.declared.state.State.{State}
use Rattle.kdc_core.specs.Audit.{AuditRecord, AuditSpelled, contents_audit}
use Rattle.kdc_core.specs.After.{after_reply, seen_left}
use Rattle.kdc_core.specs.Answer.{IsContentsReply, ContentsOpen, contents_answer, keep}
use Rattle.kdc_core.specs.Contents.{names_answered}
use Rattle.kdc_core.specs.Held.{Contents}
use Rattle.kdc_core.specs.NewlySeen.{contents_seen}
use Rattle.kdc_core.specs.View.{named_view}
use Rattle.kdc_core.specs.declared.mark.Mark.{Mark}

-- the bytes of the reply and the change to make, if there is a reply, and the audit record
pub record IsReplied (state : State) (q : Incoming) (held : Contents) (octets : Option (List ℕ))
    (mark : Option (Option Mark)) (audit : AuditRecord) : Type 0 where
  -- the reply is the one that the rules prescribe
  pub reply : octets ≡ (contents_answer (named_view state (names_answered held)) q held).reply
  -- so is the state once the change is made
  pub left : after_reply state mark
      ≡ keep state (names_answered held).client (contents_answer (named_view state (names_answered held)) q held).kept
  -- the audit record is the one that the same rules give
  pub audit_is : audit ≡ contents_audit (named_view state (names_answered held)) q held
  -- the change records the authenticator that the same rules record, if any
  pub seen : seen_left mark ≡ contents_seen (named_view state (names_answered held)) q held
  -- the bytes encode the message that the rules prescribe, or are a stored reply
  pub spelled : IsContentsReply (named_view state (names_answered held)) q.at q.random octets held
  -- they encode what the audit record says
  pub outcome : AuditSpelled (named_view state (names_answered held)) q octets held
  -- if a ticket is issued, both keys decrypt its reply
  pub opens : ContentsOpen (named_view state (names_answered held)) q.at q.random held
