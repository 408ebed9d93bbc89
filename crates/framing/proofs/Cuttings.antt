-- The cutting of a whole stream.
use Rattle.std.proofs.Common.{◌≡◌, ℕ, zero, suc, ◌+◌, ◌≤◌, ◌<◌, List, [], ◌∷◌, ◌++◌, length, drop, Option, Some, None, Ok, Err, refl, sym, ap, ◌∙◌, arith, length-drop, append_assoc}
use Rattle.std.specs.List.{All, flat_map}
use Rattle.std.proofs.lemmas.List.{append-nil, nil_from_length}
use Rattle.std.proofs.lemmas.List.Elements.{All-nil, All-cons, All-head, All-tail, All-drop}
use Rattle.framing.specs.declared.fault.FrameFault.{FrameFault}
use Rattle.framing.specs.Stream.{Front, framed, front}
use Rattle.framing.specs.Messages.{Cutting, Cuts, CutsWhatWasFramed, HasCutting, HasOneCutting, IsMessage, cut, cut_at, ending, message_then, messages, only_rest}
use Rattle.framing.proofs.Fronts.{message_within, front-framed, drop-framed, framed_then}

pub front_nil : (g : ℕ) → front g [] ≡ Ok None
unfolding front
front_nil g = refl

-- One step of the cutting.

cut-nil : (n g : ℕ) → cut n g [] ≡ only_rest [] None
cut-nil zero g = refl
cut-nil (suc n) g = rw (front_nil g) refl

-- the rest after a message is shorter
pub shorter : (g : ℕ) (b m : List ℕ) (n : ℕ) → front g b ≡ Ok (Some m) → length b ≤ suc n → length (drop (4 + length m) b) ≤ n
shorter g b m n e h = omega (arith, length-drop (4 + length m) b, message_within g b m e)

-- two cuttings that agree on the rest agree
agree : (g : ℕ) (b : List ℕ) (f h : List ℕ → Cutting) (at : Front) → front g b ≡ at → ((m : List ℕ) → front g b ≡ Ok (Some m) → f (drop (4 + length m) b) ≡ h (drop (4 + length m) b))
    → cut_at b (front g b) f ≡ cut_at b (front g b) h
agree g b f h (Ok (Some m)) e same = rw e (ap (message_then m) (same m e))
agree g b f h (Ok None) e same = rw e refl
agree g b f h (Err fault) e same = rw e refl

-- with enough steps, their number doesn't matter
enough : (n k g : ℕ) (b : List ℕ) → length b ≤ n → length b ≤ k → cut n g b ≡ cut k g b
enough zero zero g b hn hk = refl
enough zero (suc k) g b hn hk = rw (nil_from_length b (omega (arith, hn))) (sym (cut-nil (suc k) g))
enough (suc n) zero g b hn hk = rw (nil_from_length b (omega (arith, hk))) (cut-nil (suc n) g)
enough (suc n) (suc k) g b hn hk = agree g b (λ rest. cut n g rest) (λ rest. cut k g rest) (front g b) refl
    (λ m e. enough n k g (drop (4 + length m) b) (shorter g b m n e hn) (shorter g b m k e hk))

messages_by : (n g : ℕ) (b : List ℕ) → length b ≤ n → messages g b ≡ cut n g b
unfolding messages
messages_by n g b h = enough (length b) n g b (omega arith) h

pub messages-message : (g : ℕ) (b m : List ℕ) → front g b ≡ Ok (Some m) → messages g b ≡ message_then m (messages g (drop (4 + length m) b))
messages-message g b m e =
    messages_by (suc (length b)) g b (omega arith) ∙ ap (λ f. cut_at b f (λ rest. cut (length b) g rest)) e
    ∙ ap (message_then m) (sym (messages_by (length b) g (drop (4 + length m) b) (shorter g b m (length b) e (omega arith))))

pub messages-ending : (g : ℕ) (b : List ℕ) (fault : Option FrameFault) → front g b ≡ ending fault → messages g b ≡ only_rest b fault
messages-ending g b fault e = messages_by (suc (length b)) g b (omega arith) ∙ ap (λ f. cut_at b f (λ rest. cut (length b) g rest)) e ∙ at_ending fault where
  at_ending : (fault : Option FrameFault) → cut_at b (ending fault) (λ rest. cut (length b) g rest) ≡ only_rest b fault
  at_ending None = refl
  at_ending (Some fault) = refl

-- A stream has one cutting.

one_more : (g : ℕ) (b m : List ℕ) (c : Cutting) → (b ≡ framed m ++ drop (4 + length m) b) × IsMessage g m → Cuts g (drop (4 + length m) b) c → Cuts g b (message_then m c)
one_more g b m c h others = record {
  whole = h.0 ∙ ap (λ t. framed m ++ t) others.whole ∙ sym (append_assoc (framed m) (flat_map framed c.messages) c.rest);
  each = All-cons (IsMessage g) m c.messages h.1 others.each;
  ended = others.ended;
}

no_more : (g : ℕ) (b : List ℕ) (fault : Option FrameFault) → front g b ≡ ending fault → Cuts g b (only_rest b fault)
no_more g b fault e = record { whole = refl; each = All-nil (IsMessage g); ended = e }

cut_cuts : (n g : ℕ) (b : List ℕ) → length b ≤ n → All (λ octet. octet < 256) b → Cuts g b (cut n g b)
cut_cuts zero g b h octets = rw (nil_from_length b (omega (arith, h))) (no_more g [] None (front_nil g))
cut_cuts (suc n) g b h octets = at_front (front g b) refl (λ m e. cut_cuts n g (drop (4 + length m) b) (shorter g b m n e h) (All-drop (λ octet. octet < 256) (4 + length m) b octets)) where
  at_front : (f : Front) → front g b ≡ f → ((m : List ℕ) → front g b ≡ Ok (Some m) → Cuts g (drop (4 + length m) b) (cut n g (drop (4 + length m) b))) → Cuts g b (cut (suc n) g b)
  at_front (Ok (Some m)) e others = rw e (one_more g b m _ (framed_then g b m octets e) (others m e))
  at_front (Ok None) e others = rw e (no_more g b None e)
  at_front (Err fault) e others = rw e (no_more g b (Some fault) e)

pub has_cutting : HasCutting
unfolding messages
has_cutting g b octets = cut_cuts (length b) g b (omega arith) octets

messages-framed : (g : ℕ) (all : List (List ℕ)) (rest : List ℕ) (fault : Option FrameFault) → All (IsMessage g) all → front g rest ≡ ending fault
    → messages g (flat_map framed all ++ rest) ≡ record { messages = all; rest = rest; fault = fault }
messages-framed g [] rest fault each e = messages-ending g rest fault e
messages-framed g (m ∷ ms) rest fault each e =
    rw (append_assoc (framed m) (flat_map framed ms) rest)
    (messages-message g (framed m ++ (flat_map framed ms ++ rest)) m (front-framed g m (flat_map framed ms ++ rest) (All-head (IsMessage g) m ms each))
    ∙ ap (λ b. message_then m (messages g b)) (drop-framed m (flat_map framed ms ++ rest))
    ∙ ap (message_then m) (messages-framed g ms rest fault (All-tail (IsMessage g) m ms each) e))

pub has_one_cutting : HasOneCutting
has_one_cutting g b c h = sym (ap (messages g) h.whole ∙ messages-framed g c.messages c.rest c.fault h.each h.ended)

pub cuts_what_was_framed : CutsWhatWasFramed
cuts_what_was_framed g all each = ap (messages g) (sym (append-nil (flat_map framed all))) ∙ messages-framed g all [] None each (front_nil g)
