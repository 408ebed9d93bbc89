-- The replay cache of a client after a start that resumes with the authenticators that were seen before.
use Rattle.std.specs.Prelude.{Bool, ◌||◌, int_lt, IsTrue, List, [], ◌∷◌, if◌then◌else◌}
use Rattle.std.specs.FinMap as map
use Rattle.std.specs.Option.{is_some}
use Rattle.std.specs.Ordering.{eq_by_cmp}
use Rattle.krb_fields.specs.Name.{Components, name_cmp}
use Rattle.replay.specs.declared.keep.Kept.{Kept}
use Rattle.replay.specs.declared.cache.ReplayCache.{ReplayCache}
use Rattle.replay.specs.declared.seen.Resumption.{Resumption}
use Rattle.replay.specs.declared.seen.Seen.{Seen}
use Rattle.replay.specs.Failures.{no_failures}
use Rattle.replay.specs.Kept.{nothing_kept}
use Rattle.replay.specs.Stamp.{Stamp, stamp_cmp}

abbrev pub stamp_seen : Seen → Stamp
stamp_seen seen = (seen.ctime, seen.cusec)

-- the pairs of the client c, and the seen authenticator if it is this client's
abbrev pub with_seen : Components → map.FinMap stamp_cmp Kept → Seen → map.FinMap stamp_cmp Kept
with_seen c pairs seen =
    if eq_by_cmp name_cmp c seen.client.components then map.insert pairs (stamp_seen seen) nothing_kept else pairs

-- the pairs of the client c, and all of the seen authenticators that are this client's
abbrev pub with_all_seen : Components → map.FinMap stamp_cmp Kept → List Seen → map.FinMap stamp_cmp Kept
with_all_seen c pairs [] = pairs
with_all_seen c pairs (seen ∷ others) = with_all_seen c (with_seen c pairs seen) others

-- the cache of the client c: no failures, the floor, and the client's authenticators that were seen
abbrev pub resumed_cache : Resumption → Components → ReplayCache Kept
resumed_cache r c = record { failures = no_failures; floor = r.floor; pairs = with_all_seen c map.empty r.seen }

-- ---- what it has to hold

-- whether an authenticator can't be found fresh any more: it is too old to be compared with the pairs, or is one of
-- them
abbrev pub is_spent : {T : Type 0} → ReplayCache T → Stamp → Bool
is_spent m stamp = int_lt stamp.0 m.floor || is_some (map.get m.pairs stamp)

-- what is spent in one cache is spent in the other
abbrev pub Holds : {T : Type 0} → ReplayCache T → ReplayCache T → Type 0
Holds m n = (stamp : Stamp) → IsTrue (is_spent m stamp) → IsTrue (is_spent n stamp)
