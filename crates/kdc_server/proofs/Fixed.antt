-- The life of a server whose rows never change, seen as one whose options say so.
use Rattle.std.proofs.Common.{◌≡◌, Bool, true, false, List, [], ◌∷◌, Option, Some, None, ℕ, refl, sym, ◌∙◌}
use Rattle.std.proofs.lemmas.Bool.{false≢true}
use Rattle.std.specs.Prelude.{is_some}
use Rattle.std.specs.List.{AllByRecursion}
use Rattle.kdc_hub.specs.declared.wires.WireCall.{WireCall}
use Rattle.kdc_hub.specs.declared.rows.Look.{Look}
use Rattle.kdc_hub.specs.declared.totals.Totals.{Totals}
use Rattle.kdc_hub.specs.Hub.{HubState}
use Rattle.kdc_hub.specs.Life.{IsLife, MayFind, Period}
use Rattle.kdc_hub.specs.Recorded.{is_fixed_if}

-- a source whose rows may change is there
pub there_if_changing : {S : Type 0} (is_fixed : S → Bool) (before after : Option S) (option : Bool) → is_fixed_if is_fixed after ≡ is_fixed_if is_fixed before
    → is_fixed_if is_fixed before ≡ option → option ≡ false → is_some after ≡ true
there_if_changing is_fixed before (Some source) option stays is asked = refl
there_if_changing is_fixed before None option stays is asked = absurd (false≢true (sym (stays ∙ is ∙ asked)))

module _ (source option : Bool) (fixed : option ≡ true → source ≡ true) where
  all_may_find : (periods : List Period) → AllByRecursion (λ period. MayFind source period.look) periods
      → AllByRecursion (λ period. MayFind option period.look) periods
  all_may_find [] all = tt
  all_may_find (period ∷ periods) all = (λ is. all.0 (fixed is), all_may_find periods all.1)

  pub life_of_option : (wire : Option (List WireCall)) (looks : Option (List Look)) (start : HubState) (lengths : List ℕ) (totals : Totals)
      (wire_after : Option (List WireCall)) (looks_after : Option (List Look)) (new : HubState)
      → IsLife wire source looks start lengths totals wire_after looks_after new → IsLife wire option looks start lengths totals wire_after looks_after new
  life_of_option wire looks start lengths totals wire_after looks_after new life = record {
    lived = record {
      periods = life.lived.periods;
      each = life.lived.each;
      many = life.lived.many;
      did = life.lived.did;
      found = life.lived.found;
      fixed = all_may_find life.lived.periods life.lived.fixed;
      hub = life.lived.hub;
      events = life.lived.events;
      faults = life.lived.faults;
      refused = life.lived.refused;
    };
    one_run = life.one_run;
    isolation = life.isolation;
    unaffected = life.unaffected;
    moved = life.moved;
    unseen = life.unseen;
    resumable = life.resumable;
    one_ticket = life.one_ticket;
  }
