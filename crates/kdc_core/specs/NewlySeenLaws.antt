-- The authenticator that a request records, by the names that its contents give.
use Rattle.std.proofs.Common.{◌≡◌, Option, None, Result, IfOk, refl, sym, subst}
use Rattle.kdc_replies.specs.Incoming.{Incoming}
use Rattle.replay.specs.declared.seen.Seen.{Seen}
use Rattle.kdc_state.specs.declared.state.State.{State}
use Rattle.kdc_core.specs.Answer.{contents_answer, incoming_answer}
use Rattle.kdc_core.specs.Contents.{contents, names_answered}
use Rattle.kdc_core.specs.ContentsLaws.{AreNamesOf, are_names_of}
use Rattle.kdc_core.specs.NewlySeen.{contents_seen, incoming_seen}
use Rattle.kdc_core.specs.Request.{request_of}
use Rattle.kdc_core.specs.View.{Named, View, named, view, named_view}
use Rattle.kdc_core.specs.Held.{Contents}
use Rattle.kdc_core.specs.Held.Contents.{NoRequest, AsReq, RefusedTgsReq, TgsReq}

module _ {A E : Type 0} (state : State) (incoming : Incoming) (r : Result A E) where
  abbrev Records : (A → Option Seen) → Named → Contents → Type 0
  Records seen names held = IfOk r (λ a. seen a ≡ contents_seen (named_view state names) incoming held)

  newly_seen_by : (seen : A → Option Seen) (names : Named) (held : Contents) → AreNamesOf names held
      → Records seen (names_answered held) held → Records seen names held
  newly_seen_by seen names NoRequest names_are h = h
  newly_seen_by seen names (AsReq message) names_are h = h
  newly_seen_by seen names (RefusedTgsReq message rejected) names_are h = h
  newly_seen_by seen names (TgsReq message p) names_are h =
      subst (λ (n : Named). Records seen n (TgsReq message p)) (sym names_are) h

-- for what was read from the bytes
module _ {A E : Type 0} (state : State) (incoming : Incoming) (r : Result A E) (held : Contents)
    (is : held ≡ contents (view state incoming.octets) (request_of incoming.octets)) where
  pub newly_seen_answered : (seen : A → Option Seen) → Records state incoming r seen (names_answered held) held
      → IfOk r (λ a. seen a ≡ incoming_seen (view state incoming.octets) incoming)
  newly_seen_answered seen h =
      subst (λ (h : Contents). Records state incoming r seen (named state incoming.octets) h) is
      (newly_seen_by state incoming r seen (named state incoming.octets) held
      (subst (λ (h : Contents). AreNamesOf (named state incoming.octets) h) (sym is)
      (are_names_of state (request_of incoming.octets))) h)

-- ---- a request without a reply records nothing

none_newly_seen_of : (v : View) (incoming : Incoming) (held : Contents) → (contents_answer v incoming held).reply ≡ None
    → contents_seen v incoming held ≡ None
none_newly_seen_of v incoming NoRequest none = refl
none_newly_seen_of v incoming (AsReq message) none = refl
none_newly_seen_of v incoming (RefusedTgsReq message rejected) none = refl
none_newly_seen_of v incoming (TgsReq message p) none = absurd cc

pub none_newly_seen : (v : View) (incoming : Incoming) → (incoming_answer v incoming).reply ≡ None
    → incoming_seen v incoming ≡ None
none_newly_seen v incoming = none_newly_seen_of v incoming (contents v (request_of incoming.octets))
