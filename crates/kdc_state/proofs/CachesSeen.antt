-- Each name's replay cache in a state that resumes.
use Rattle.std.proofs.Common.{◌≡◌, Bool, true, false, cond, if◌then◌else◌, List, [], ◌∷◌, Some, refl, sym, ap, ◌∙◌}
use Rattle.std.specs.FinMap as map
use Rattle.std.specs.FinMap.{get-insert, get-empty}
use Rattle.std.specs.Option.{unwrap_or}
use Rattle.std.specs.Ordering.{eq_by_cmp}
use Rattle.krb_fields.specs.Name.{Components, name_cmp, name_total, same_name}
use Rattle.principal_rows.specs.declared.limits.Limits.{Limits}
use Rattle.principals.specs.Database.{Principals}
use Rattle.replay.specs.declared.keep.Kept.{Kept}
use Rattle.replay.specs.declared.cache.ReplayCache.{ReplayCache}
use Rattle.replay.specs.declared.seen.Resumption.{Resumption}
use Rattle.replay.specs.declared.seen.Seen.{Seen}
use Rattle.replay.specs.Kept.{nothing_kept}
use Rattle.replay.specs.Resumed.{resumed_cache, stamp_seen, with_all_seen, with_seen}
use Rattle.replay.specs.Tidied.{empty_cache}
use Rattle.kdc_state.specs.declared.state.State.{State}
use Rattle.kdc_state.specs.Resumed.{after_all_seen, after_seen, resumed_state}
use Rattle.kdc_state.specs.State.{cache_of}

-- the cache with one more authenticator, for which nothing is stored
abbrev pub seeing : Seen → ReplayCache Kept → ReplayCache Kept
seeing seen m = record m { pairs = map.insert m.pairs (stamp_seen seen) nothing_kept }

module _ (c : Components) where
  cache_seen : (state : State) (seen : Seen)
      → cache_of (after_seen state seen) c ≡ record (cache_of state c) { pairs = with_seen c (cache_of state c).pairs seen }
  cache_seen state seen =
      ap (λ o. unwrap_or o (empty_cache state.floor))
      (get-insert name_total state.caches seen.client.components (seeing seen (cache_of state seen.client.components)) c)
      ∙ by_test (eq_by_cmp name_cmp c seen.client.components) refl
    where
      by_test : (b : Bool) → eq_by_cmp name_cmp c seen.client.components ≡ b
          → unwrap_or (cond b (Some (seeing seen (cache_of state seen.client.components))) (map.get state.caches c)) (empty_cache state.floor)
          ≡ record (cache_of state c) { pairs = if b then map.insert (cache_of state c).pairs (stamp_seen seen) nothing_kept else (cache_of state c).pairs }
      by_test true same = ap (λ n. seeing seen (cache_of state n)) (sym (same_name c seen.client.components same))
      by_test false apart = refl

  cache_all_seen : (state : State) (all : List Seen)
      → cache_of (after_all_seen state all) c ≡ record (cache_of state c) { pairs = with_all_seen c (cache_of state c).pairs all }
  cache_all_seen state [] = refl
  cache_all_seen state (seen ∷ others) =
      cache_all_seen (after_seen state seen) others
      ∙ ap (λ (m : ReplayCache Kept). record m { pairs = with_all_seen c m.pairs others }) (cache_seen state seen)

  pub cache_resumed : (database : Principals) (limits : Limits) (r : Resumption)
      → cache_of (resumed_state database limits r) c ≡ resumed_cache r c
  cache_resumed database limits r =
      cache_all_seen (record { database = database; limits = limits; floor = r.floor; caches = map.empty }) r.seen
      ∙ ap (λ o. record (unwrap_or o (empty_cache {T = Kept} r.floor)) { pairs = with_all_seen c (unwrap_or o (empty_cache {T = Kept} r.floor)).pairs r.seen })
      (get-empty name_cmp c)

-- ---- rows and limits are those of the start

database_all_seen : (state : State) (all : List Seen) → (after_all_seen state all).database ≡ state.database
database_all_seen state [] = refl
database_all_seen state (seen ∷ others) = database_all_seen (after_seen state seen) others

limits_all_seen : (state : State) (all : List Seen) → (after_all_seen state all).limits ≡ state.limits
limits_all_seen state [] = refl
limits_all_seen state (seen ∷ others) = limits_all_seen (after_seen state seen) others

pub database_resumed : (database : Principals) (limits : Limits) (r : Resumption) → (resumed_state database limits r).database ≡ database
database_resumed database limits r = database_all_seen (record { database = database; limits = limits; floor = r.floor; caches = map.empty }) r.seen

pub limits_resumed : (database : Principals) (limits : Limits) (r : Resumption) → (resumed_state database limits r).limits ≡ limits
limits_resumed database limits r = limits_all_seen (record { database = database; limits = limits; floor = r.floor; caches = map.empty }) r.seen
