-- A stream that comes in pieces.
use Rattle.std.proofs.Common.{◌≡◌, ◌≢◌, ℕ, zero, suc, ◌+◌, ◌≤◌, List, [], ◌∷◌, ◌++◌, length, drop, Option, Some, None, Ok, Err, refl, sym, ap, ◌∙◌, arith, append_assoc}
use Rattle.std.specs.List.{flat_map}
use Rattle.std.proofs.lemmas.List.{append-nil, drop-append-le, nil_from_length}
use Rattle.framing.specs.declared.fault.FrameFault.{FrameFault}
use Rattle.framing.specs.Stream.{Front, front}
use Rattle.framing.specs.Messages.{Cutting, ending, message_then, messages, only_rest}
use Rattle.framing.specs.Splitting.{Splitting, fed, handed_out, left, started}
use Rattle.framing.specs.Pieces.{IsSameInPieces, IsSameInTwo, left_after_pieces, messages_in_pieces}
use Rattle.framing.proofs.Fronts.{message_within, front_more, fault_more}
use Rattle.framing.proofs.Cuttings.{front_nil, messages-ending, messages-message, shorter}

-- a splitter that has returned the messages of this cutting
at_end : ℕ → Cutting → Splitting
at_end g c = record { greatest = g; bytes = c.rest; fault = c.fault }

-- Feeding it continues this cutting to that of a longer stream.
record GoesOn (g : ℕ) (c longer : Cutting) (more : List ℕ) : Type 0 where
  pub same_messages : longer.messages ≡ c.messages ++ (handed_out (fed (at_end g c) more)).messages
  pub same_fault : longer.fault ≡ (handed_out (fed (at_end g c) more)).fault
  pub same_rest : c.fault ≡ None → longer.rest ≡ (handed_out (fed (at_end g c) more)).rest

behind_message : (g : ℕ) (m : List ℕ) (c longer : Cutting) (more : List ℕ) → GoesOn g c longer more → GoesOn g (message_then m c) (message_then m longer) more
unfolding at_end
behind_message g m c longer more on = record { same_messages = ap (λ ms. m ∷ ms) on.same_messages; same_fault = on.same_fault; same_rest = on.same_rest }

behind_rest : (g : ℕ) (b more : List ℕ) → GoesOn g (only_rest b None) (messages g (b ++ more)) more
unfolding at_end
behind_rest g b more = record { same_messages = refl; same_fault = refl; same_rest = λ _. refl }

behind_fault : (g : ℕ) (b more : List ℕ) (fault : FrameFault) → GoesOn g (only_rest b (Some fault)) (only_rest (b ++ more) (Some fault)) more
unfolding at_end
behind_fault g b more fault = record { same_messages = refl; same_fault = refl; same_rest = λ e. absurd cc }

goes_on : (n g : ℕ) (b more : List ℕ) → length b ≤ n → GoesOn g (messages g b) (messages g (b ++ more)) more
goes_on zero g b more h = rw (nil_from_length b (omega (arith, h)), messages-ending g [] None (front_nil g)) (behind_rest g [] more)
goes_on (suc n) g b more h = at_front (front g b) refl (λ m e. goes_on n g (drop (4 + length m) b) more (shorter g b m n e h)) where
  at_front : (f : Front) → front g b ≡ f → ((m : List ℕ) → front g b ≡ Ok (Some m) → GoesOn g (messages g (drop (4 + length m) b)) (messages g (drop (4 + length m) b ++ more)) more)
      → GoesOn g (messages g b) (messages g (b ++ more)) more
  at_front (Ok (Some m)) e others =
      let longer : messages g (b ++ more) ≡ message_then m (messages g (drop (4 + length m) b ++ more)) =
      messages-message g (b ++ more) m (front_more g b m more e) ∙ ap (λ t. message_then m (messages g t)) (drop-append-le (4 + length m) b more (message_within g b m e)) in
      rw (messages-message g b m e, longer) (behind_message g m _ _ more (others m e))
  at_front (Ok None) e others = rw (messages-ending g b None e) (behind_rest g b more)
  at_front (Err fault) e others = rw (messages-ending g b (Some fault) e, messages-ending g (b ++ more) (Some fault) (fault_more g b more fault e)) (behind_fault g b more fault)

-- One piece in two parts.

left_by : (o : Option FrameFault) (g : ℕ) (c longer : Cutting) (more : List ℕ) → c.fault ≡ o → GoesOn g c longer more → c.fault ≡ None → at_end g longer ≡ left (fed (at_end g c) more)
unfolding at_end
left_by None g c longer more e on h = rw (on.same_rest h, on.same_fault, h) refl
left_by (Some fault) g c longer more e on h = absurd cc

two_by : (o : Option FrameFault) (g : ℕ) (b p q : List ℕ) → IsSameInTwo (record { greatest = g; bytes = b; fault = o }) p q
unfolding at_end
two_by None g b p q =
    let on : GoesOn g (messages g (b ++ p)) (messages g (b ++ (p ++ q))) q = rw (← append_assoc b p q) (goes_on (length (b ++ p)) g (b ++ p) q (omega arith)) in record {
      same_messages = on.same_messages;
      same_fault = on.same_fault;
      same_left = left_by (messages g (b ++ p)).fault g (messages g (b ++ p)) (messages g (b ++ (p ++ q))) q refl on;
    }
two_by (Some fault) g b p q = record { same_messages = refl; same_fault = refl; same_left = λ e. absurd cc }

pub same_in_two : (s : Splitting) (p q : List ℕ) → IsSameInTwo s p q
same_in_two s p q = two_by s.fault s.greatest s.bytes p q

-- Any pieces.

IsSettled : Splitting → Type 0
IsSettled s = handed_out s ≡ only_rest s.bytes s.fault

settled_end : (n g : ℕ) (b : List ℕ) → length b ≤ n → IsSettled (at_end g (messages g b))
unfolding at_end IsSettled
settled_end zero g b h = rw (nil_from_length b (omega (arith, h)), messages-ending g [] None (front_nil g)) (messages-ending g [] None (front_nil g))
settled_end (suc n) g b h = at_front (front g b) refl (λ m e. settled_end n g (drop (4 + length m) b) (shorter g b m n e h)) where
  at_front : (f : Front) → front g b ≡ f → ((m : List ℕ) → front g b ≡ Ok (Some m) → IsSettled (at_end g (messages g (drop (4 + length m) b)))) → IsSettled (at_end g (messages g b))
  at_front (Ok (Some m)) e others = rw (messages-message g b m e) (others m e)
  at_front (Ok None) e others = rw (messages-ending g b None e) (messages-ending g b None e)
  at_front (Err fault) e others = rw (messages-ending g b (Some fault) e) refl

settled_by : (o : Option FrameFault) (g : ℕ) (b : List ℕ) → IsSettled (left (record { greatest = g; bytes = b; fault = o }))
unfolding at_end IsSettled
settled_by None g b = settled_end (length b) g b (omega arith)
settled_by (Some fault) g b = refl

settled_left : (s : Splitting) → IsSettled (left s)
settled_left s = settled_by s.fault s.greatest s.bytes

joined : List (List ℕ) → List ℕ
joined pieces = flat_map (λ piece. piece) pieces

fed_nothing : (o : Option FrameFault) (g : ℕ) (b : List ℕ) → fed (record { greatest = g; bytes = b; fault = o }) [] ≡ record { greatest = g; bytes = b; fault = o }
fed_nothing None g b = rw (append-nil b) refl
fed_nothing (Some fault) g b = refl

same_messages : (s : Splitting) (pieces : List (List ℕ)) → IsSettled s → messages_in_pieces s pieces ≡ (handed_out (fed s (joined pieces))).messages
unfolding joined IsSettled
same_messages s [] settled = sym (ap (λ (t : Splitting). (handed_out t).messages) (fed_nothing s.fault s.greatest s.bytes) ∙ ap (λ (c : Cutting). c.messages) settled)
same_messages s (p ∷ pieces) settled =
    ap (λ ms. (handed_out (fed s p)).messages ++ ms) (same_messages (left (fed s p)) pieces (settled_left (fed s p))) ∙ sym (same_in_two s p (joined pieces)).same_messages

same_fault : (s : Splitting) (pieces : List (List ℕ)) → IsSettled s → (left_after_pieces s pieces).fault ≡ (handed_out (fed s (joined pieces))).fault
unfolding joined IsSettled
same_fault s [] settled = sym (ap (λ (t : Splitting). (handed_out t).fault) (fed_nothing s.fault s.greatest s.bytes) ∙ ap (λ (c : Cutting). c.fault) settled)
same_fault s (p ∷ pieces) settled = same_fault (left (fed s p)) pieces (settled_left (fed s p)) ∙ sym (same_in_two s p (joined pieces)).same_fault

pub same_in_pieces : (g : ℕ) (pieces : List (List ℕ)) → IsSameInPieces g pieces
unfolding joined IsSettled
same_in_pieces g pieces =
    let settled : IsSettled (started g) = messages-ending g [] None (front_nil g) in
    record { same_messages = same_messages (started g) pieces settled; same_fault = same_fault (started g) pieces settled }

-- What is returned next, if no error was returned before.

pub hands_message : (s t : Splitting) (m : List ℕ) → s.fault ≡ None → front s.greatest s.bytes ≡ Ok (Some m) → t ≡ record s { bytes = drop (4 + length m) s.bytes } → handed_out s ≡ message_then m (handed_out t)
hands_message s t m none e is = rw (is, none) (messages-message s.greatest s.bytes m e)

pub left_message : (s t : Splitting) (m : List ℕ) → s.fault ≡ None → front s.greatest s.bytes ≡ Ok (Some m) → t ≡ record s { bytes = drop (4 + length m) s.bytes } → left t ≡ left s
left_message s t m none e is = rw (hands_message s t m none e is, is) refl

pub has_message : (s : Splitting) (m : List ℕ) → s.fault ≡ None → front s.greatest s.bytes ≡ Ok (Some m) → (handed_out s).messages ≢ []
has_message s m none e h = let some = hands_message s (record s { bytes = drop (4 + length m) s.bytes }) m none e refl in cc

pub hands_ending : (s : Splitting) (fault : Option FrameFault) → s.fault ≡ None → front s.greatest s.bytes ≡ ending fault → handed_out s ≡ only_rest s.bytes fault
hands_ending s fault none e = rw none (messages-ending s.greatest s.bytes fault e)

pub left_none : (s : Splitting) → s.fault ≡ None → front s.greatest s.bytes ≡ Ok None → s ≡ left s
left_none s none e = rw (hands_ending s None none e, ← none) refl
