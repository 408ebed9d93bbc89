-- A run so far, and how it continues.
use Rattle.std.proofs.Common.{◌≡◌, ℕ, ◌+◌, List, [], ◌∷◌, ◌++◌, None, Some, IfSome, refl, sym, ap, subst, ◌∙◌, inl, inr, append-nil, append_assoc}
use Rattle.std.specs.Prelude.{Option}
use Rattle.std.proofs.KnownBytes.{Appends-nil, Appends-trans, Appends-kept}
use Rattle.std.specs.Io.KnownBytes.{Appends, IsAtEnd, Keeps}
use Rattle.kdcd.specs.Input.{TakesLine, IsBeyond}
use Rattle.kdcd.specs.Script.{lines_of, fault_text, EndsRun, IsFaultText, IsRun, RunsText, IsScript, PrintsScript, PrintsText, PrintsUpToFault}
use Rattle.kdc_state.specs.declared.state.State.{State}

-- what was printed so far, followed by what the remaining bytes will print, is what the whole input prints
abbrev pub HasRun : Option (List ℕ) → Option (List ℕ) → Option (List ℕ) → Option (List ℕ) → Option State → ℕ → ℕ → Type 0
HasRun None left old new kdc number before = Unit {0}
HasRun (Some octets) None old new kdc number before = ⊥
HasRun (Some octets) (Some left) old new kdc number before =
    (printed : List ℕ) × Appends old new printed
    × ((later : List ℕ) (status : ℕ) → IsRun kdc number before (lines_of left) later status → IsScript octets (printed ++ later) status)

pub run_begins : (a w : Option (List ℕ)) → HasRun a a w w None 0 0
run_begins None w = tt
run_begins (Some octets) w = ([], Appends-nil w, λ later status run. run)

pub run_goes_on : (a b c w v u : Option (List ℕ)) (kdc after : Option State) (number before following next : ℕ) (text shown : List ℕ)
    → HasRun a b w v kdc number before → TakesLine b c before next text → following ≡ number + 1 → shown ≡ text → PrintsText kdc shown after v u
    → HasRun a c w u after following next
run_goes_on None b c w v u kdc after number before following next text shown run takes counted same prints = tt
run_goes_on (Some octets) None c w v u kdc after number before following next text shown run takes counted same prints = absurd run
run_goes_on (Some octets) (Some left) None w v u kdc after number before following next text shown run takes counted same prints = absurd takes
run_goes_on (Some octets) (Some left) (Some rest) w v u kdc after number before following next text shown run takes counted same prints =
    let printed = run.0 in
    let first = prints.0 in (
      printed ++ first,
      Appends-trans w v u printed first run.1 prints.2,
      λ later status goes. subst (λ (l : List ℕ). IsScript octets l status) (sym (append_assoc printed first later))
          (run.2 (first ++ later) status (subst (λ (ls : List (List ℕ)). IsRun kdc number before ls (first ++ later) status) (sym takes.1)
          (inr (
            after,
            first,
            later,
            takes.2,
            subst (λ (t : List ℕ). RunsText kdc t after first) (same ∙ takes.3) prints.1,
            subst (λ (n : ℕ). IsRun after (number + 1) n (lines_of rest) later status) takes.4
                (subst (λ (n : ℕ). IsRun after n next (lines_of rest) later status) counted goes),
            refl,
          )))),
    )

pub run_ends : (a b w v u : Option (List ℕ)) (kdc : Option State) (number before : ℕ)
    → HasRun a b w v kdc number before → IsAtEnd b → Keeps v u → IfSome a (λ octets. PrintsScript octets w u 0)
run_ends None b w v u kdc number before run end kept = tt
run_ends (Some octets) None w v u kdc number before run end kept = absurd run
run_ends (Some octets) (Some left) w v u kdc number before run end kept = (
  run.0,
  subst (λ (l : List ℕ). IsScript octets l 0) (append-nil run.0)
      (run.2 [] 0 (subst (λ (l : List ℕ). IsRun kdc number before (lines_of l) [] 0) (sym end) (refl, refl))),
  Appends-kept w v u run.0 run.1 kept,
)

-- a line that ends the run
run_stops : (octets left line : List ℕ) (lines : List (List ℕ)) (w v : Option (List ℕ)) (kdc : Option State) (number before following : ℕ)
    → HasRun (Some octets) (Some left) w v kdc number before → lines_of left ≡ line ∷ lines → EndsRun kdc before line → following ≡ number + 1
    → PrintsUpToFault octets w v following
run_stops octets left line lines w v kdc number before following run is ends counted = (
  run.0,
  run.2 (fault_text following) 1 (subst (λ (ls : List (List ℕ)). IsRun kdc number before ls (fault_text following) 1) (sym is) (inl (ends, ap fault_text counted, refl))),
  run.1,
)

pub run_stops_beyond : (a b w v : Option (List ℕ)) (kdc : Option State) (number before following : ℕ)
    → HasRun a b w v kdc number before → IsBeyond b before → following ≡ number + 1 → IfSome a (λ octets. PrintsUpToFault octets w v following)
run_stops_beyond None b w v kdc number before following run beyond counted = tt
run_stops_beyond (Some octets) None w v kdc number before following run beyond counted = absurd run
run_stops_beyond (Some octets) (Some left) w v kdc number before following run beyond counted =
    run_stops octets left beyond.0 beyond.1 w v kdc number before following run beyond.2 (inl beyond.3) counted

pub run_stops_at_text : (a b c w v u : Option (List ℕ)) (kdc : Option State) (number before following next : ℕ) (text shown : List ℕ)
    → HasRun a b w v kdc number before → TakesLine b c before next text → following ≡ number + 1 → shown ≡ text → IsFaultText kdc shown → u ≡ v
    → IfSome a (λ octets. PrintsUpToFault octets w u following)
run_stops_at_text None b c w v u kdc number before following next text shown run takes counted same fault kept = tt
run_stops_at_text (Some octets) None c w v u kdc number before following next text shown run takes counted same fault kept = absurd run
run_stops_at_text (Some octets) (Some left) None w v u kdc number before following next text shown run takes counted same fault kept = absurd takes
run_stops_at_text (Some octets) (Some left) (Some rest) w v u kdc number before following next text shown run takes counted same fault kept =
    subst (λ (o : Option (List ℕ)). PrintsUpToFault octets w o following) (sym kept)
    (run_stops octets left takes.0 (lines_of rest) w v kdc number before following run takes.1
    (inr (subst (λ (t : List ℕ). IsFaultText kdc t) (same ∙ takes.3) fault)) counted)

-- the text of the fault was printed too
pub fault_is_printed : (a w v u : Option (List ℕ)) (number : ℕ) → IfSome a (λ octets. PrintsUpToFault octets w v number) → Appends v u (fault_text number)
    → IfSome a (λ octets. PrintsScript octets w u 1)
fault_is_printed None w v u number up text = tt
fault_is_printed (Some octets) w v u number up text = (up.0 ++ fault_text number, up.1, Appends-trans w v u up.0 (fault_text number) up.2 text)
