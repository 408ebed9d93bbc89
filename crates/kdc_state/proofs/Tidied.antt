-- Each name's replay cache in a state that is tidied.
use Rattle.std.proofs.Common.{◌≡◌, Bool, true, false, cond, not, ℤ, Option, Some, None, option_map, refl, sym, ap, ◌∙◌}
use Rattle.std.specs.FinMap as map
use Rattle.std.specs.Option.{unwrap_or}
use Rattle.krb_fields.specs.Name.{Components, name_cmp, name_total}
use Rattle.krb_fields.specs.declared.moment.Moment.{Moment}
use Rattle.replay.specs.declared.keep.Kept.{Kept}
use Rattle.replay.specs.declared.cache.ReplayCache.{ReplayCache}
use Rattle.replay.specs.Tidied.{empty_cache, floor_on, is_empty, tidied}
use Rattle.replay.proofs.Tidying.{is_empty_cache, tidied_empty}
use Rattle.rule_lists.specs.Changed.{change_values}
use Rattle.rule_lists.specs.Values.{retain_values}
use Rattle.rule_lists.proofs.Changed.{get-change_values}
use Rattle.rule_lists.proofs.Values.{get-retain_values, passing}
use Rattle.kdc_state.specs.State.{cache_of, tidied_state}
use Rattle.kdc_state.specs.declared.state.State.{State}

module _ (state : State) (at : Moment) where
  abbrev change : ReplayCache Kept → ReplayCache Kept
  change m = tidied m at.sec

  abbrev is_used : ReplayCache Kept → Bool
  is_used m = not (is_empty (floor_on state.floor at.sec) m)

  -- an empty cache is the same whether it is stored or not
  if_stored : (m : ReplayCache Kept) (b : Bool) → is_empty (floor_on state.floor at.sec) m ≡ b
      → unwrap_or (cond (not b) (Some m) None) (empty_cache (floor_on state.floor at.sec)) ≡ m
  if_stored m true e = sym (is_empty_cache (floor_on state.floor at.sec) m e)
  if_stored m false e = refl

  of_stored : (o : Option (ReplayCache Kept)) → unwrap_or (passing is_used (option_map change o)) (empty_cache (floor_on state.floor at.sec)) ≡ tidied (unwrap_or o (empty_cache state.floor)) at.sec
  of_stored (Some m) = if_stored (change m) (is_empty (floor_on state.floor at.sec) (change m)) refl
  of_stored None = sym (tidied_empty state.floor at.sec)

  -- it is the cache that the name had, tidied
  pub cache_tidied : (name : Components) → cache_of (tidied_state state at) name ≡ tidied (cache_of state name) at.sec
  cache_tidied name =
      ap (λ o. unwrap_or o (empty_cache (floor_on state.floor at.sec)))
      (get-retain_values name_total (change_values state.caches change) is_used name ∙ ap (passing is_used) (get-change_values name_cmp change state.caches name))
      ∙ of_stored (map.get state.caches name)

  -- from the computed values: the floor, the changed caches, and those that are left
  pub made_tidy : (floor : ℤ) (changed left : map.FinMap name_cmp (ReplayCache Kept)) → floor ≡ floor_on state.floor at.sec → changed ≡ change_values state.caches change
      → left ≡ retain_values changed (λ m. not (is_empty floor m)) → (name : Components) → cache_of (record state { floor = floor; caches = left }) name ≡ tidied (cache_of state name) at.sec
  made_tidy floor changed left floor_is changed_is left_is name =
      let all : left ≡ (tidied_state state at).caches = left_is ∙ (λ i. retain_values (changed_is i) (λ m. not (is_empty (floor_is i) m))) in
      (λ i. unwrap_or (map.get (all i) name) (empty_cache (floor_is i))) ∙ cache_tidied name
