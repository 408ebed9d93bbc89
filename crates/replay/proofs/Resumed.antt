-- What a resumed cache stores for each pair.
use Rattle.std.proofs.Common.{Bool, true, false, cond, if◌then◌else◌, IfSome, List, [], ◌∷◌, Option, Some, sym, subst}
use Rattle.std.specs.FinMap as map
use Rattle.std.specs.FinMap.{get-empty, get-insert}
use Rattle.std.specs.Ordering.{eq_by_cmp}
use Rattle.krb_fields.specs.Name.{Components, name_cmp}
use Rattle.replay.specs.declared.keep.Kept.{Kept}
use Rattle.replay.specs.declared.seen.Resumption.{Resumption}
use Rattle.replay.specs.declared.seen.Seen.{Seen}
use Rattle.replay.specs.Kept.{nothing_kept}
use Rattle.replay.specs.Resumed.{stamp_seen, with_all_seen, with_seen}
use Rattle.replay.specs.Stamp.{Stamp, stamp_cmp}
use Rattle.replay.proofs.Stamps.{stamp_total}

module _ (P : Kept → Type 0) (of_nothing : P nothing_kept) where
  abbrev Are : map.FinMap stamp_cmp Kept → Type 0
  Are pairs = (stamp : Stamp) → IfSome (map.get pairs stamp) P

  inserted_are : (pairs : map.FinMap stamp_cmp Kept) (stamp : Stamp) → Are pairs → Are (map.insert pairs stamp nothing_kept)
  inserted_are pairs stamp are s =
      subst (λ (o : Option Kept). IfSome o P) (sym (get-insert stamp_total pairs stamp nothing_kept s)) (at (eq_by_cmp stamp_cmp s stamp))
    where
      at : (b : Bool) → IfSome (cond b (Some nothing_kept) (map.get pairs s)) P
      at true = of_nothing
      at false = are s

  one_seen_are : (pairs : map.FinMap stamp_cmp Kept) (seen : Seen) (b : Bool) → Are pairs
      → Are (if b then map.insert pairs (stamp_seen seen) nothing_kept else pairs)
  one_seen_are pairs seen true are = inserted_are pairs (stamp_seen seen) are
  one_seen_are pairs seen false are = are

  all_seen_are : (c : Components) (pairs : map.FinMap stamp_cmp Kept) (all : List Seen) → Are pairs → Are (with_all_seen c pairs all)
  all_seen_are c pairs [] are = are
  all_seen_are c pairs (seen ∷ others) are =
      all_seen_are c (with_seen c pairs seen) others
      (one_seen_are pairs seen (eq_by_cmp name_cmp c seen.client.components) are)

  pub resumed_are : (r : Resumption) (c : Components) → Are (with_all_seen c map.empty r.seen)
  resumed_are r c =
      all_seen_are c map.empty r.seen (λ stamp. subst (λ (o : Option Kept). IfSome o P) (sym (get-empty stamp_cmp stamp)) tt)
