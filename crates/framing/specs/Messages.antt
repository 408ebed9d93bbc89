-- The messages of a whole stream.
use Rattle.std.specs.Prelude.{◌≡◌, ℕ, zero, suc, ◌+◌, ◌<◌, ◌≤◌, List, [], ◌∷◌, ◌++◌, length, drop, Option, Some, None}
use Rattle.std.specs.Prelude.{Ok, Err}
use Rattle.std.specs.List.{All, flat_map}
use Rattle.framing.specs.declared.fault.FrameFault.{FrameFault}
use Rattle.framing.specs.Stream.{Front, framed, front, high_bit}

-- a stream's messages, the bytes after the last one, and the error in the length there, if it is bad
pub record Cutting : Type 0 where
  pub messages : List (List ℕ)
  pub rest : List ℕ
  pub fault : Option FrameFault

abbrev pub IsMessage : ℕ → List ℕ → Type 0
IsMessage greatest message = (length message < high_bit) × (length message ≤ greatest)

-- less than a whole message, or this error
abbrev pub ending : Option FrameFault → Front
ending None = Ok None
ending (Some fault) = Err fault

-- The stream is these messages, followed by less than a whole message or by a bad length.
pub record Cuts (greatest : ℕ) (bytes : List ℕ) (c : Cutting) : Type 0 where
  pub whole : bytes ≡ flat_map framed c.messages ++ c.rest
  pub each : All (IsMessage greatest) c.messages
  pub ended : front greatest c.rest ≡ ending c.fault

abbrev pub only_rest : List ℕ → Option FrameFault → Cutting
only_rest rest fault = record { messages = []; rest = rest; fault = fault }

-- a message, followed by the cutting of the rest
abbrev pub message_then : List ℕ → Cutting → Cutting
message_then message c = record c { messages = message ∷ c.messages }

abbrev pub cut_at : List ℕ → Front → (List ℕ → Cutting) → Cutting
cut_at bytes (Ok (Some message)) others = message_then message (others (drop (4 + length message) bytes))
cut_at bytes (Ok None) others = only_rest bytes None
cut_at bytes (Err fault) others = only_rest bytes (Some fault)

-- up to this many messages
abbrev pub cut : ℕ → ℕ → List ℕ → Cutting
cut zero greatest bytes = only_rest bytes None
cut (suc n) greatest bytes = cut_at bytes (front greatest bytes) (λ rest. cut n greatest rest)

-- the cutting of a stream. It has fewer messages than bytes
unfoldable pub messages : ℕ → List ℕ → Cutting
messages greatest bytes = cut (length bytes) greatest bytes

-- Each stream has a cutting.
abbrev pub HasCutting : Type 0
HasCutting =
    (greatest : ℕ) (bytes : List ℕ) → All (λ octet. octet < 256) bytes → Cuts greatest bytes (messages greatest bytes)

-- No stream has two.
abbrev pub HasOneCutting : Type 0
HasOneCutting = (greatest : ℕ) (bytes : List ℕ) (c : Cutting) → Cuts greatest bytes c → c ≡ messages greatest bytes

-- Cutting undoes framing.
abbrev pub CutsWhatWasFramed : Type 0
CutsWhatWasFramed =
    (greatest : ℕ) (all : List (List ℕ)) → All (IsMessage greatest) all
    → messages greatest (flat_map framed all) ≡ record { messages = all; rest = []; fault = None }
