-- The answers to the messages of a connection.
use Rattle.std.specs.Prelude.{ℕ, zero, suc, Bool, true, false, List, [], ◌∷◌, Option, Some, None}
use Rattle.rand_core.specs.Stream.{Stream, fill_bytes}
use Rattle.framing.specs.declared.fault.FrameFault.{FrameFault}
use Rattle.framing.specs.Splitting.{Splitting, handed_out}
use Rattle.krb_fields.specs.declared.moment.Moment.{Moment}
use Rattle.kdc_hub.specs.declared.event.Action.{Action}
use Rattle.kdc_hub.specs.declared.event.Action.TheVariants.{Write, Close}
use Rattle.kdc_hub.specs.declared.event.CloseReason.TheVariants.{NoRequest, BadLength}
use Rattle.kdc_core.specs.declared.reply.Reply.{Reply}
use Rattle.kdc_hub.specs.Issuing.{Issuing, after, reply_of, too_long}

-- the actions, the issuer afterwards, and whether the connection stays open
pub record StreamStep : Type 0 where
  pub actions : List Action
  pub issuing : Issuing
  pub stays : Bool

-- the greatest size in bytes of a reply with a ticket on a connection
abbrev pub stream_room : ℕ
stream_room = 131072

-- after the last message: an incomplete one, or a bad length
abbrev pub ending_step : Issuing → Moment → ℕ → Option FrameFault → StreamStep
ending_step i at conn None = record { actions = []; issuing = i; stays = true }
ending_step i at conn (Some fault) = record {
  actions = Write conn (too_long i.kdc at) ∷ Close conn BadLength ∷ [];
  issuing = i;
  stays = false;
}

-- a request without a reply ends the connection
abbrev pub reply_then : ℕ → Option Reply → Issuing → StreamStep → StreamStep
reply_then conn (Some reply) i others = record others { actions = Write conn reply ∷ others.actions }
reply_then conn None i others = record { actions = Close conn NoRequest ∷ []; issuing = i; stays = false }

unfoldable pub messages_step : Issuing → Moment → ℕ → Option FrameFault → List (List ℕ) → StreamStep
messages_step i at conn fault [] = ending_step i at conn fault
messages_step i at conn fault (request ∷ requests) =
    reply_then conn (reply_of i at stream_room request) (after i at stream_room request)
    (messages_step (after i at stream_room request) at conn fault requests)

-- the action that answers one request
abbrev pub action_for : ℕ → Option Reply → Action
action_for conn (Some reply) = Write conn reply
action_for conn None = Close conn NoRequest

-- all that a stream has ready
abbrev pub stream_step : Issuing → Moment → ℕ → Splitting → StreamStep
stream_step i at conn s = messages_step i at conn (handed_out s).fault (handed_out s).messages

-- the issuer after this many of the requests, up to the first that gets no reply
abbrev pub after_reply : Option Reply → Issuing → Issuing → Issuing
after_reply (Some reply) i others = others
after_reply None i others = i

unfoldable pub after_some : ℕ → Issuing → Moment → List (List ℕ) → Issuing
after_some zero i at requests = i
after_some (suc n) i at [] = i
after_some (suc n) i at (request ∷ requests) =
    after_reply (reply_of i at stream_room request) (after i at stream_room request)
    (after_some n (after i at stream_room request) at requests)

-- the generator after this many draws of 64 bytes
unfoldable pub drawn : ℕ → Stream → Stream
drawn zero random = random
drawn (suc n) random = drawn n (fill_bytes 64 random).1
