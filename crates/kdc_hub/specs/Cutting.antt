-- Runs whose pieces are cut differently.
use Rattle.std.specs.Prelude.{◌≡◌, ℕ, List, ◌∷◌, ◌++◌, None}
use Rattle.std.specs.Ordering.{nat_cmp}
use Rattle.std.specs.FinMap as map
use Rattle.std.specs.List.{flat_map}
use Rattle.framing.specs.Splitting.{Splitting}
use Rattle.krb_fields.specs.declared.moment.Moment.{Moment}
use Rattle.kdc_hub.specs.declared.event.Event.TheVariants.{Bytes}
use Rattle.kdc_hub.specs.Hub.{HubState}
use Rattle.kdc_hub.specs.Logged.{Entry, Log, logged}
use Rattle.kdc_hub.specs.Works.{Happening, all_works, entries}

-- The same connections are open. The bytes of an incomplete request on them may differ.
pub record SameOpen (a b : map.FinMap nat_cmp Splitting) : Type 0 where
  pub keys : (conn : ℕ) → map.contains_key a conn ≡ map.contains_key b conn
  pub len : map.len a ≡ map.len b

-- The same actions in the same order, and afterwards the same state, generator and open connections.
pub record SameReplies (a b : Log) : Type 0 where
  pub actions : flat_map (λ actions. actions) a.actions ≡ flat_map (λ actions. actions) b.actions
  pub issuing : a.hub.issuing ≡ b.hub.issuing
  pub connections : SameOpen a.hub.connections b.hub.connections

-- Runs that complete the same work give the same replies.
abbrev pub RepliesAreSame : Type 0
RepliesAreSame = (start : HubState) (es fs : List Happening) → all_works start es ≡ all_works start fs
    → SameReplies (logged start (entries es)) (logged start (entries fs))

-- The same actions in the same order, and afterwards the same hub.
pub record SameRun (a b : Log) : Type 0 where
  pub actions : flat_map (λ actions. actions) a.actions ≡ flat_map (λ actions. actions) b.actions
  pub hub : a.hub ≡ b.hub

-- a piece that arrives, with enough memory
abbrev pub piece_at : Moment → ℕ → List ℕ → Entry
piece_at at conn piece = record { at = at; event = Bytes conn piece; stop = None }

-- Anywhere in a run, a piece may arrive in two parts.
abbrev pub IsSameInTwoPieces : Type 0
IsSameInTwoPieces = (start : HubState) (earlier later : List Entry) (at : Moment) (conn : ℕ) (first second : List ℕ)
    → SameRun (logged start (earlier ++ piece_at at conn (first ++ second) ∷ later))
    (logged start (earlier ++ piece_at at conn first ∷ piece_at at conn second ∷ later))
