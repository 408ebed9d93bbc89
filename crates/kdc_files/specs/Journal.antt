-- What a server's journal is handed, and which actions wait for it.
use Rattle.std.specs.Prelude.{Bool, true, false, not, ◌||◌, List, map, Option, Some, None}
use Rattle.krb_fields.specs.declared.moment.Moment.{Moment}
use Rattle.replay.specs.declared.seen.Seen.{Seen}
use Rattle.kdc_hub.specs.declared.event.Action.{Action}
use Rattle.kdc_hub.specs.declared.event.Action.TheVariants.{SendTo, Pass, Write, Close}
use Rattle.kdc_hub.specs.History.{reply_of_action, seen_by}

-- an authenticator that the KDC remembers, with the moment of its request
pub record Handed : Type 0 where
  pub at : Moment
  pub seen : Seen

abbrev pub handed_at : Moment → List Seen → List Handed
handed_at at all = map (λ seen. record { at = at; seen = seen }) all

-- what is handed over for an action: the authenticator that the request made the KDC remember, if it did
abbrev pub handed_by : Moment → Action → List Handed
handed_by at action = handed_at at (seen_by (reply_of_action action))

abbrev pub has_reply : Action → Bool
has_reply (SendTo peer reply) = true
has_reply (Pass peer) = false
has_reply (Write conn reply) = true
has_reply (Close conn reason) = false

-- where there is no journal, nothing is missing
abbrev pub is_whole_if : {J : Type 0} → (J → Bool) → Option J → Bool
is_whole_if is_whole (Some journal) = is_whole journal
is_whole_if is_whole None = true

abbrev pub is_there_if : {J : Type 0} → (J → Bool) → Option J → Bool
is_there_if is_there (Some journal) = is_there journal
is_there_if is_there None = false

-- whether a journal has kept all that it was handed; of an action without a reply nothing is asked
abbrev pub is_kept : {J : Type 0} → (J → Bool) → J → Action → Bool
is_kept is_whole journal action = not (has_reply action) || is_whole journal
