-- The bytes of a reply, and the authenticator that its request records.
use Rattle.std.specs.Prelude.{◌≡◌, ℕ, ⊤, List, Option, Some, None, Result, Ok, Err, option_map}
use Rattle.replay.specs.declared.seen.Seen.{Seen}
use Rattle.kdc_core.specs.declared.reply.Reply.{Reply}

-- the bytes to send, if there is a reply
abbrev pub sent_bytes : Option Reply → Option (List ℕ)
sent_bytes = option_map (λ reply. reply.message)

-- the authenticator that is reported as recorded: without a reply none
abbrev pub reported_seen : Option Reply → Option Seen
reported_seen (Some reply) = reply.newly_seen
reported_seen None = None

-- a call gives the bytes of another's reply, or fails as that does
abbrev pub IsReplyIn : {V E : Type 0} → (V → List ℕ) → Result (Option Reply) E → Result (Option V) E → Type 0
IsReplyIn items (Ok given) (Ok reply) = option_map items reply ≡ sent_bytes given
IsReplyIn items (Ok given) (Err error) = ⊥
IsReplyIn items (Err error) (Ok reply) = ⊥
IsReplyIn items (Err error) (Err other) = ⊤
