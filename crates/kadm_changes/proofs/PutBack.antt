-- What a restore leaves, from the effects of its calls.
use Rattle.std.proofs.Common.{◌≡◌, ◌∙◌, ℕ, List, Bool, Option, ap, subst}
use Rattle.file_store.specs.World.{World}
use Rattle.principals.specs.Database.{Principals}
use Rattle.kadm_changes.specs.Realm.{KeepsRealm, tgs_policy}
use Rattle.kadm_changes.specs.Restoring.{HasOrNot, IsOfRealm, Restored, replaced_policy}
use Rattle.kadm_changes.specs.Worlds.{HoldsDatabase, IsReadBack, with_database}

pub restored : (before found locked seen checked after : Option World) (whole : Bool) (db path from : List ℕ) (new : Principals) (old : Option Principals)
    → found ≡ before → locked ≡ found → seen ≡ locked → checked ≡ seen → path ≡ db → HoldsDatabase before from new → HasOrNot locked db old
    → IsOfRealm old new → KeepsRealm whole seen (replaced_policy old) (tgs_policy new) → IsReadBack new → after ≡ with_database path new checked
    → Restored before whole db from after
restored before found locked seen checked after whole db path from new old first second third fourth at read replaced realm kept reads written = record {
  new = new;
  read = read;
  old = old;
  replaced = subst (λ world. HasOrNot world db old) (second ∙ first) replaced;
  realm = realm;
  kept = subst (λ world. KeepsRealm whole world (replaced_policy old) (tgs_policy new)) (third ∙ second ∙ first) kept;
  read_back = reads;
  written = written ∙ ap (λ world. with_database path new world) (fourth ∙ third ∙ second ∙ first) ∙ ap (λ named. with_database named new before) at;
}
