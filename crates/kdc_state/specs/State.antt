-- The state after an opening, each client's replay cache in it, and the state after a loss and after a tidying.
use Rattle.std.specs.Prelude.{not}
use Rattle.std.specs.Option.{unwrap_or}
use Rattle.std.specs.FinMap as map
use Rattle.krb_fields.specs.Name.{Components}
use Rattle.krb_fields.specs.declared.moment.Moment.{Moment}
use Rattle.principal_rows.specs.declared.limits.Limits.{Limits}
use Rattle.principals.specs.Database.{Principals}
use Rattle.replay.specs.declared.keep.Kept.{Kept}
use Rattle.replay.specs.declared.cache.ReplayCache.{ReplayCache}
use Rattle.replay.specs.declared.opening.Opening.{Opening}
use Rattle.replay.specs.declared.opening.Opening.TheVariants.{Restart}
use Rattle.rule_lists.specs.Changed.{change_values}
use Rattle.rule_lists.specs.Values.{retain_values}
use Rattle.kdc_state.specs.declared.state.State.{State}
use Rattle.replay.specs.Opening.{opening_floor}
use Rattle.replay.specs.Tidied.{empty_cache, floor_on, is_empty, tidied}

abbrev pub opened_state : Principals → Limits → Opening → State
opened_state database limits opening =
    record { database = database; limits = limits; floor = opening_floor opening; caches = map.empty }

-- a name without a stored cache has an empty one with the floor of the state
abbrev pub cache_of : State → Components → ReplayCache Kept
cache_of state name = unwrap_or (map.get state.caches name) (empty_cache state.floor)

-- the state with this cache stored for a name
abbrev pub with_cache : State → Components → ReplayCache Kept → State
with_cache state name cache = record state { caches = map.insert state.caches name cache }

-- after a loss each name has the cache of a restart at this moment
abbrev pub restarted : State → Moment → State
restarted state at = record state { floor = opening_floor (Restart at); caches = map.empty }

-- Each cache is tidied at this moment, and the floor is raised likewise. A cache that then equals that of a name
-- without a stored one is dropped.
abbrev pub tidied_state : State → Moment → State
tidied_state state at = record state {
  floor = floor_on state.floor at.sec;
  caches = retain_values (change_values state.caches (λ m. tidied m at.sec))
      (λ m. not (is_empty (floor_on state.floor at.sec) m));
}
