-- The KDC issues tickets only to clients, and for services, in good standing.
use Rattle.std.proofs.Common.{ℕ, List, IfSome, subst, sym}
use Rattle.as_exchange.specs.StandingLaws as as_exchange
use Rattle.tgs_exchange.specs.StandingLaws as tgs_exchange
use Rattle.kdc_replies.specs.GoodStanding.{AreInGoodStanding}
use Rattle.krb_fields.specs.declared.moment.Moment.{Moment}
use Rattle.kdc_state.specs.declared.state.State.{State}
use Rattle.kdc_core.specs.Contents.{contents, names_answered}
use Rattle.kdc_core.specs.ContentsLaws.{AreNamesOf, are_names_of}
use Rattle.kdc_core.specs.Issued.{issued, contents_issue}
use Rattle.kdc_core.specs.Request.{request_of}
use Rattle.kdc_core.specs.View.{Named, as_view, named, tgs_view, view, named_view}
use Rattle.kdc_core.specs.Held.{Contents}
use Rattle.kdc_core.specs.Held.Contents.{NoRequest, AsReq, RefusedTgsReq, TgsReq}

module _ (state : State) (at : Moment) (random : List ℕ) where
  -- what is issued with the rows of these names
  abbrev Stand : Named → Contents → Type 0
  Stand names held = IfSome (contents_issue (named_view state names) at random held)
      (λ _. AreInGoodStanding state.database.realm names.service (named_view state names).client
      (named_view state names).service at.sec)

  standing_of : (names : Named) (held : Contents) → AreNamesOf names held → Stand names held
  standing_of names NoRequest names_are = tt
  standing_of names (AsReq message) names_are =
      subst (λ (n : Named). Stand n (AsReq message)) (sym names_are)
      (as_exchange.issued_standing (as_view (named_view state (names_answered (AsReq message)))) message at random)
  standing_of names (RefusedTgsReq message rejected) names_are = tt
  standing_of names (TgsReq message p) names_are =
      subst (λ (n : Named). Stand n (TgsReq message p)) (sym names_are)
      (tgs_exchange.issued_standing (tgs_view (named_view state (names_answered (TgsReq message p)))) message.body.value
      p at random)

  -- the client and the service of the ticket that is issued for a request are in good standing
  pub issued_standing : (bytes : List ℕ)
      → IfSome (issued (view state bytes) at random (request_of bytes))
      (λ _. AreInGoodStanding state.database.realm (named state bytes).service (view state bytes).client (view state bytes).service at.sec)
  issued_standing bytes =
      standing_of (named state bytes) (contents (view state bytes) (request_of bytes)) (are_names_of state (request_of bytes))
