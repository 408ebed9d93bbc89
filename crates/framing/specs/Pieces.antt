-- A stream that comes in pieces.
use Rattle.std.specs.Prelude.{◌≡◌, ℕ, List, [], ◌∷◌, ◌++◌, None}
use Rattle.std.specs.List.{flat_map}
use Rattle.framing.specs.Messages.{messages}
use Rattle.framing.specs.Splitting.{Splitting, fed, handed_out, left, started}

-- the messages of these pieces, each returned once it is whole
abbrev pub messages_in_pieces : Splitting → List (List ℕ) → List (List ℕ)
messages_in_pieces s [] = []
messages_in_pieces s (piece ∷ pieces) =
    (handed_out (fed s piece)).messages ++ messages_in_pieces (left (fed s piece)) pieces

-- the state after them
abbrev pub left_after_pieces : Splitting → List (List ℕ) → Splitting
left_after_pieces s [] = s
left_after_pieces s (piece ∷ pieces) = left_after_pieces (left (fed s piece)) pieces

-- One piece may come as two. The bytes after an error are not messages and may differ.
pub record IsSameInTwo (s : Splitting) (first second : List ℕ) : Type 0 where
  pub same_messages : (handed_out (fed s (first ++ second))).messages
      ≡ (handed_out (fed s first)).messages ++ (handed_out (fed (left (fed s first)) second)).messages
  pub same_fault : (handed_out (fed s (first ++ second))).fault ≡ (handed_out (fed (left (fed s first)) second)).fault
  pub same_left : (handed_out (fed s first)).fault ≡ None
      → left (fed s (first ++ second)) ≡ left (fed (left (fed s first)) second)

-- A whole stream's messages and error are those of any pieces in which it comes.
pub record IsSameInPieces (greatest : ℕ) (pieces : List (List ℕ)) : Type 0 where
  pub same_messages : messages_in_pieces (started greatest) pieces
      ≡ (messages greatest (flat_map (λ piece. piece) pieces)).messages
  pub same_fault : (left_after_pieces (started greatest) pieces).fault
      ≡ (messages greatest (flat_map (λ piece. piece) pieces)).fault
