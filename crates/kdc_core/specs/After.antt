-- What a request changes in its client's replay cache, and the state afterwards.
use Rattle.std.specs.Prelude.{◌≡◌, ⊤, false, Option, Some, None}
use Rattle.std.specs.FinMap as map
use Rattle.krb_fields.specs.PrincipalName.{Name}
use Rattle.krb_fields.specs.declared.moment.Moment.{Moment}
use Rattle.replay.specs.ReplayCache.{recorded}
use Rattle.replay.specs.Stamp.{is_beyond_clock_skew}
use Rattle.replay.specs.declared.failures.Failures.{Failures}
use Rattle.replay.specs.declared.keep.Kept.{Kept}
use Rattle.replay.specs.declared.seen.Seen.{Seen}
use Rattle.kdc_state.specs.declared.state.State.{State}
use Rattle.kdc_state.specs.State.{cache_of, with_cache}
use Rattle.tgs_opening.specs.declared.presented.Presented.{Presented}
use Rattle.kdc_core.specs.declared.mark.Mark.{Mark}
use Rattle.kdc_core.specs.declared.mark.Mark.TheVariants.{Counted, Stamped}

-- a named client whose failures change
abbrev pub failures_mark : Option Name → Option Failures → Option Mark
failures_mark (Some name) (Some failures) = Some (Counted name failures)
failures_mark (Some name) None = None
failures_mark None failures = None

-- an authenticator to record, with what is stored for it
abbrev pub authenticator_mark : Moment → Presented → Option Kept → Option Mark
authenticator_mark at p (Some kept) = Some (Stamped p.ticket.cname at p.authenticator.ctime p.authenticator.cusec kept)
authenticator_mark at p None = None

-- the authenticator that it records, if any
abbrev pub marked_seen : Option Mark → Option Seen
marked_seen (Some (Counted client failures)) = None
marked_seen (Some (Stamped client at ctime cusec kept)) =
    Some (record { client = client; ctime = ctime; cusec = cusec })
marked_seen None = None

-- without a reply none is recorded
abbrev pub seen_left : Option (Option Mark) → Option Seen
seen_left (Some mark) = marked_seen mark
seen_left None = None

abbrev pub after_mark : State → Mark → State
after_mark state (Counted client failures) =
    with_cache state client.components (record (cache_of state client.components) { failures = failures })
after_mark state (Stamped client at ctime cusec kept) =
    with_cache state client.components (recorded (cache_of state client.components) at.sec (ctime, cusec) kept)

abbrev pub after : State → Option Mark → State
after state (Some mark) = after_mark state mark
after state None = state

-- without a reply the state doesn't change
abbrev pub after_reply : State → Option (Option Mark) → State
after_reply state (Some mark) = after state mark
after_reply state None = state

-- an authenticator may be recorded only if it is within the clock skew and no repeat
abbrev pub MayStay : State → Mark → Type 0
MayStay state (Counted client failures) = ⊤
MayStay state (Stamped client at ctime cusec kept) =
    (is_beyond_clock_skew (cache_of state client.components).floor at.sec ctime ≡ false)
    × (map.get (cache_of state client.components).pairs (ctime, cusec) ≡ None)
