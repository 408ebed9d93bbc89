-- A request changes no row, no limit, and no replay cache but the named client's.
use Rattle.std.proofs.Common.{◌≡◌, ◌≢◌, Bool, true, false, cond, Option, Some, None, Result, Ok, Err, OnOk, OnErr, refl, ap, sym, ◌∙◌}
use Rattle.std.specs.FinMap as map
use Rattle.std.specs.FinMap.{get-insert}
use Rattle.std.specs.Option.{unwrap_or}
use Rattle.krb_fields.specs.Name.{Components, name_total, same_name}
use Rattle.replay.specs.declared.keep.Kept.{Kept}
use Rattle.replay.specs.declared.cache.ReplayCache.{ReplayCache}
use Rattle.kdc_state.specs.declared.state.State.{State}
use Rattle.replay.specs.Tidied.{empty_cache}
use Rattle.kdc_state.specs.State.{cache_of}
use Rattle.kdc_core.specs.Answer.{keep}

not_true : (b : Bool) → (b ≡ true → ⊥) → b ≡ false
not_true true f = absurd (f refl)
not_true false f = refl

module _ (state : State) where
  pub database_kept : (c : Option Components) (m : Option (ReplayCache Kept)) → (keep state c m).database ≡ state.database
  database_kept (Some c) (Some m) = refl
  database_kept (Some c) None = refl
  database_kept None m = refl

  pub limits_kept : (c : Option Components) (m : Option (ReplayCache Kept)) → (keep state c m).limits ≡ state.limits
  limits_kept (Some c) (Some m) = refl
  limits_kept (Some c) None = refl
  limits_kept None m = refl

  pub other_kept : (c : Option Components) (m : Option (ReplayCache Kept)) (n : Components) → c ≢ Some n → cache_of (keep state c m) n ≡ cache_of state n
  other_kept (Some c) (Some m) n h =
      ap (λ o. unwrap_or o (empty_cache state.floor)) (get-insert name_total state.caches c m n
      ∙ ap (λ b. cond b (Some m) (map.get state.caches n)) (not_true _ (λ e. h (ap Some (sym (same_name n c e))))))
  other_kept (Some c) None n h = refl
  other_kept None m n h = refl

-- a property of the state after a call that stores a cache or changes nothing
pub of_either : {A B X : Type 0} (r : Result A B) (old new after : State) (f : State → X) → OnOk r (new ≡ after) → OnErr r (new ≡ old) → f after ≡ f old → f new ≡ f old
of_either (Ok x) old new after f ok err same = ap f ok ∙ same
of_either (Err x) old new after f ok err same = ap f err
