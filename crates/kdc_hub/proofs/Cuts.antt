-- Cutting a piece in two at one moment.
use Rattle.std.proofs.Common.{◌≡◌, ℕ, Bool, true, false, List, [], ◌∷◌, ◌++◌, Option, Some, None, refl, sym, ap, ◌∙◌, append_assoc}
use Rattle.std.specs.Ordering.{nat_cmp}
use Rattle.std.specs.FinMap as map
use Rattle.std.specs.List.{flat_map}
use Rattle.std.proofs.lemmas.List.{append-nil}
use Rattle.framing.specs.declared.fault.FrameFault.{FrameFault}
use Rattle.framing.specs.Splitting.{Splitting, fed, handed_out, left}
use Rattle.framing.specs.Messages.{Cutting, only_rest}
use Rattle.framing.specs.Pieces.{IsSameInTwo}
use Rattle.krb_fields.specs.declared.moment.Moment.{Moment}
use Rattle.kdc_hub.specs.declared.event.Action.{Action}
use Rattle.kdc_hub.specs.declared.event.Event.TheVariants.{Bytes}
use Rattle.kdc_core.specs.declared.reply.Reply.{Reply}
use Rattle.kdc_hub.specs.Issuing.{Issuing, after, reply_of}
use Rattle.kdc_hub.specs.StreamStep.{StreamStep, reply_then, messages_step, stream_step, stream_room}
use Rattle.kdc_hub.specs.Hub.{HubState, Step, brings, brought, with_stream, hub_step}
use Rattle.kdc_hub.specs.Logged.{Entry, logged, step_of}
use Rattle.kdc_hub.specs.Cutting.{SameRun, piece_at}
use Rattle.kdc_hub.proofs.Streams.{before}
use Rattle.kdc_hub.proofs.Tables.{is_there, is_gone, set_anew, taken_out}

-- the requests that follow these, if the connection stays open
abbrev going_on : Bool → StreamStep → StreamStep → StreamStep
going_on true first others = before first.actions others
going_on false first others = first

step_more : (i : Issuing) (at : Moment) (conn : ℕ) (fault : Option FrameFault) (ms ns : List (List ℕ))
    → messages_step i at conn fault (ms ++ ns) ≡ going_on (messages_step i at conn None ms).stays (messages_step i at conn None ms) (messages_step (messages_step i at conn None ms).issuing at conn fault ns)
unfolding messages_step
step_more i at conn fault [] ns = refl
step_more i at conn fault (m ∷ ms) ns = at_reply (reply_of i at stream_room m) (step_more (after i at stream_room m) at conn fault ms ns)
  where
    with_first : (r : Reply) (b : Bool) (a others : StreamStep) → reply_then conn (Some r) (after i at stream_room m) (going_on b a others) ≡ going_on b (reply_then conn (Some r) (after i at stream_room m) a) others
    with_first r true a others = refl
    with_first r false a others = refl

    at_reply : (r : Option Reply)
        → messages_step (after i at stream_room m) at conn fault (ms ++ ns) ≡ going_on (messages_step (after i at stream_room m) at conn None ms).stays (messages_step (after i at stream_room m) at conn None ms) (messages_step (messages_step (after i at stream_room m) at conn None ms).issuing at conn fault ns)
        → reply_then conn r (after i at stream_room m) (messages_step (after i at stream_room m) at conn fault (ms ++ ns))
        ≡ going_on (reply_then conn r (after i at stream_room m) (messages_step (after i at stream_room m) at conn None ms)).stays (reply_then conn r (after i at stream_room m) (messages_step (after i at stream_room m) at conn None ms))
        (messages_step (reply_then conn r (after i at stream_room m) (messages_step (after i at stream_room m) at conn None ms)).issuing at conn fault ns)
    at_reply (Some r) e = ap (reply_then conn (Some r) (after i at stream_room m)) e ∙ with_first r _ _ _
    at_reply None e = refl

-- a bad length ends the connection
faulty_closes : (i : Issuing) (at : Moment) (conn : ℕ) (fault : FrameFault) (ms : List (List ℕ)) → (messages_step i at conn (Some fault) ms).stays ≡ false
unfolding messages_step
faulty_closes i at conn fault [] = refl
faulty_closes i at conn fault (m ∷ ms) = at_reply (reply_of i at stream_room m) (faulty_closes (after i at stream_room m) at conn fault ms)
  where
    at_reply : (r : Option Reply) → (messages_step (after i at stream_room m) at conn (Some fault) ms).stays ≡ false → (reply_then conn r (after i at stream_room m) (messages_step (after i at stream_room m) at conn (Some fault) ms)).stays ≡ false
    at_reply (Some r) e = e
    at_reply None e = refl

-- a splitter that returned a fault hands out only that fault
fault_alone : (o : Option FrameFault) (g : ℕ) (b q : List ℕ) (fault : FrameFault) → o ≡ Some fault → handed_out (fed (record { greatest = g; bytes = b; fault = o }) q) ≡ only_rest b (Some fault)
fault_alone None g b q fault e = absurd cc
fault_alone (Some other) g b q fault e = ap (only_rest b) e

module _ (hub : HubState) (at : Moment) (conn : ℕ) (s : Splitting) (p q : List ℕ) (two : IsSameInTwo s p q) where
  first : StreamStep
  first = stream_step hub.issuing at conn (fed s p)

  second_cut : Cutting
  second_cut = handed_out (fed (left (fed s p)) q)

  -- the messages of both pieces are those of the first and then those of the second
  both_cut : stream_step hub.issuing at conn (fed s (p ++ q)) ≡ messages_step hub.issuing at conn second_cut.fault ((handed_out (fed s p)).messages ++ second_cut.messages)
  unfolding second_cut
  both_cut =
      ap (messages_step hub.issuing at conn (handed_out (fed s (p ++ q))).fault) two.same_messages
      ∙ ap (λ f. messages_step hub.issuing at conn f ((handed_out (fed s p)).messages ++ second_cut.messages)) two.same_fault

  -- if the first piece ends in no fault
  no_fault : (handed_out (fed s p)).fault ≡ None → stream_step hub.issuing at conn (fed s (p ++ q)) ≡ going_on first.stays first (stream_step first.issuing at conn (fed (left (fed s p)) q))
  unfolding first second_cut
  no_fault e =
      let plain : messages_step hub.issuing at conn None (handed_out (fed s p)).messages ≡ stream_step hub.issuing at conn (fed s p) = ap (λ f. messages_step hub.issuing at conn f (handed_out (fed s p)).messages) (sym e) in
      both_cut
      ∙ step_more hub.issuing at conn second_cut.fault (handed_out (fed s p)).messages second_cut.messages
      ∙ ap (λ (a : StreamStep). going_on a.stays a (stream_step a.issuing at conn (fed (left (fed s p)) q))) plain

  with_fault : (fault : FrameFault) → (handed_out (fed s p)).fault ≡ Some fault → stream_step hub.issuing at conn (fed s (p ++ q)) ≡ first
  unfolding first second_cut
  with_fault fault e =
      let alone = fault_alone (left (fed s p)).fault (left (fed s p)).greatest (left (fed s p)).bytes q fault e in
      both_cut
      ∙ ap (λ (c : Cutting). messages_step hub.issuing at conn c.fault ((handed_out (fed s p)).messages ++ c.messages)) alone
      ∙ ap (messages_step hub.issuing at conn (Some fault)) (append-nil (handed_out (fed s p)).messages)
      ∙ ap (λ f. messages_step hub.issuing at conn f (handed_out (fed s p)).messages) (sym e)

  closes : (fault : FrameFault) → (handed_out (fed s p)).fault ≡ Some fault → first.stays ≡ false
  unfolding first
  closes fault e = ap (λ f. (messages_step hub.issuing at conn f (handed_out (fed s p)).messages).stays) e ∙ faulty_closes hub.issuing at conn fault (handed_out (fed s p)).messages

  -- the result of both pieces
  record IsBoth (b : Bool) : Type 0 where
    pub whole : stream_step hub.issuing at conn (fed s (p ++ q)) ≡ going_on b first (stream_step first.issuing at conn (fed (left (fed s p)) q))
    pub same_left : b ≡ true → left (fed s (p ++ q)) ≡ left (fed (left (fed s p)) q)

  is_both : (o : Option FrameFault) → (handed_out (fed s p)).fault ≡ o → IsBoth first.stays
  unfolding first
  is_both None e = record { whole = no_fault e; same_left = λ _. two.same_left e }
  is_both (Some fault) e = rw (closes fault e) record { whole = with_fault fault e; same_left = λ h. absurd cc }

  -- one step and two have the same result
  Both : Step → Step → Type 0
  Both one two = (one.actions ≡ two.actions ++ (hub_step two.hub at (Bytes conn q)).actions) × (one.hub ≡ (hub_step two.hub at (Bytes conn q)).hub)

  second : (table : map.FinMap nat_cmp Splitting) (i : Issuing) (o : Option Splitting) → map.get table conn ≡ o
      → hub_step (record { issuing = i; connections = table }) at (Bytes conn q) ≡ brings (record { issuing = i; connections = table }) at conn q o
  second table i o e = ap (brings (record { issuing = i; connections = table }) at conn q) e

  with_stream_anew : (b : Bool) (x y z : Splitting) (i j : Issuing) → y ≡ z → with_stream b hub conn y i ≡ with_stream b (record { issuing = j; connections = map.insert hub.connections conn x }) conn z i
  with_stream_anew true x y z i j e = ap (λ (m : map.FinMap nat_cmp Splitting). let h : HubState = record { issuing = i; connections = m } in h) (ap (map.insert hub.connections conn) e ∙ sym (set_anew hub.connections conn x z))
  with_stream_anew false x y z i j e = ap (λ (m : map.FinMap nat_cmp Splitting). let h : HubState = record { issuing = i; connections = m } in h) (sym (taken_out hub.connections conn x))

  by_stays : (b : Bool) → first.stays ≡ b → IsBoth b → Both (brought hub conn (fed s (p ++ q)) (stream_step hub.issuing at conn (fed s (p ++ q)))) (record { actions = first.actions; hub = with_stream b hub conn (left (fed s p)) first.issuing })
  unfolding Both
  by_stays true stays both =
      let there = second (map.insert hub.connections conn (left (fed s p))) first.issuing (Some (left (fed s p))) (is_there hub.connections conn (left (fed s p))) in
      let others : StreamStep = stream_step first.issuing at conn (fed (left (fed s p)) q) in (
        ap (λ (r : StreamStep). r.actions) both.whole ∙ ap (λ (h : Step). first.actions ++ h.actions) (sym there),
        ap (λ (r : StreamStep). with_stream r.stays hub conn (left (fed s (p ++ q))) r.issuing) both.whole
            ∙ with_stream_anew others.stays (left (fed s p)) (left (fed s (p ++ q))) (left (fed (left (fed s p)) q)) others.issuing first.issuing (both.same_left refl)
            ∙ ap (λ (h : Step). h.hub) (sym there),
      )
  by_stays false stays both =
      let gone = second (map.remove hub.connections conn) first.issuing None (is_gone hub.connections conn) in (
        ap (λ (r : StreamStep). r.actions) both.whole ∙ sym (append-nil first.actions) ∙ ap (λ (h : Step). first.actions ++ h.actions) (sym gone),
        ap (λ (r : StreamStep). with_stream r.stays hub conn (left (fed s (p ++ q))) r.issuing) both.whole
            ∙ ap (λ b. with_stream b hub conn (left (fed s (p ++ q))) first.issuing) stays
            ∙ ap (λ (h : Step). h.hub) (sym gone),
      )

  brought_both : Both (brought hub conn (fed s (p ++ q)) (stream_step hub.issuing at conn (fed s (p ++ q)))) (brought hub conn (fed s p) (stream_step hub.issuing at conn (fed s p)))
  unfolding first
  brought_both = by_stays first.stays refl (is_both (handed_out (fed s p)).fault refl)

-- a piece whose connection is open, or isn't
in_two : ((s : Splitting) (first second : List ℕ) → IsSameInTwo s first second) → (hub : HubState) (at : Moment) (conn : ℕ) (p q : List ℕ) (o : Option Splitting) → map.get hub.connections conn ≡ o
    → ((brings hub at conn (p ++ q) o).actions ≡ (brings hub at conn p o).actions ++ (hub_step (brings hub at conn p o).hub at (Bytes conn q)).actions)
    × ((brings hub at conn (p ++ q) o).hub ≡ (hub_step (brings hub at conn p o).hub at (Bytes conn q)).hub)
unfolding Both
in_two law hub at conn p q None e = rw e (refl, refl)
in_two law hub at conn p q (Some s) e = brought_both hub at conn s p q (law s p q)

pub two_steps : ((s : Splitting) (first second : List ℕ) → IsSameInTwo s first second) → (hub : HubState) (at : Moment) (conn : ℕ) (p q : List ℕ)
    → ((hub_step hub at (Bytes conn (p ++ q))).actions ≡ (hub_step hub at (Bytes conn p)).actions ++ (hub_step (hub_step hub at (Bytes conn p)).hub at (Bytes conn q)).actions)
    × ((hub_step hub at (Bytes conn (p ++ q))).hub ≡ (hub_step (hub_step hub at (Bytes conn p)).hub at (Bytes conn q)).hub)
two_steps law hub at conn p q = in_two law hub at conn p q (map.get hub.connections conn) refl

-- anywhere in a run
pub same_run : ((s : Splitting) (first second : List ℕ) → IsSameInTwo s first second) → (start : HubState) (earlier later : List Entry) (at : Moment) (conn : ℕ) (p q : List ℕ)
    → SameRun (logged start (earlier ++ piece_at at conn (p ++ q) ∷ later)) (logged start (earlier ++ piece_at at conn p ∷ piece_at at conn q ∷ later))
same_run law start [] later at conn p q =
    let two = two_steps law start at conn p q in record {
      actions =
          ap (λ (a : List Action). a ++ flat_map (λ (l : List Action). l) (logged (hub_step start at (Bytes conn (p ++ q))).hub later).actions) two.0
          ∙ ap (λ (h : HubState). ((hub_step start at (Bytes conn p)).actions ++ (hub_step (hub_step start at (Bytes conn p)).hub at (Bytes conn q)).actions) ++ flat_map (λ (l : List Action). l) (logged h later).actions) two.1
          ∙ append_assoc (hub_step start at (Bytes conn p)).actions _ _;
      hub = ap (λ (h : HubState). (logged h later).hub) two.1;
    }
same_run law start (entry ∷ earlier) later at conn p q =
    let others = same_run law (step_of start entry).hub earlier later at conn p q in record {
      actions = ap (λ (l : List Action). (step_of start entry).actions ++ l) others.actions;
      hub = others.hub;
    }
