-- The state after a start that resumes with the authenticators that were seen before.
use Rattle.std.specs.Prelude.{List, [], ◌∷◌}
use Rattle.std.specs.FinMap as map
use Rattle.principal_rows.specs.declared.limits.Limits.{Limits}
use Rattle.principals.specs.Database.{Principals}
use Rattle.replay.specs.declared.seen.Resumption.{Resumption}
use Rattle.replay.specs.declared.seen.Seen.{Seen}
use Rattle.replay.specs.Kept.{nothing_kept}
use Rattle.replay.specs.Resumed.{stamp_seen}
use Rattle.kdc_state.specs.declared.state.State.{State}
use Rattle.kdc_state.specs.State.{cache_of, with_cache}

-- the seen authenticator is recorded for its client, with nothing stored for it
abbrev pub after_seen : State → Seen → State
after_seen state seen =
    with_cache state seen.client.components
    (record (cache_of state seen.client.components) {
      pairs = map.insert (cache_of state seen.client.components).pairs (stamp_seen seen) nothing_kept;
    })

-- all of these authenticators are recorded so
abbrev pub after_all_seen : State → List Seen → State
after_all_seen state [] = state
after_all_seen state (seen ∷ others) = after_all_seen (after_seen state seen) others

abbrev pub resumed_state : Principals → Limits → Resumption → State
resumed_state database limits r =
    after_all_seen (record { database = database; limits = limits; floor = r.floor; caches = map.empty }) r.seen
