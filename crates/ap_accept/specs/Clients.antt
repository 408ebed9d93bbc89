-- The replay caches of a service's clients, and when their old entries are dropped.
use Rattle.std.specs.Prelude.{ℕ, ℤ, pos, ◌+◌, ◌-ℤ◌, ◌≤ℤ◌, ◌≡◌, ◌⊎◌, ⊤, Bool, ◌||◌, nat_le, int_lt, IsTrue, IsFalse}
use Rattle.std.specs.Prelude.{if◌then◌else◌}
use Rattle.std.specs.Option.{unwrap_or}
use Rattle.std.specs.FinMap as map
use Rattle.krb_fields.specs.Name.{Components, name_cmp}
use Rattle.krb_fields.specs.Skew.{skew}
use Rattle.rule_lists.specs.Values.{retain_values}
use Rattle.replay.specs.Failures.{no_failures}
use Rattle.replay.specs.ReplayCache.{verdict}
use Rattle.replay.specs.Stamp.{Stamp, is_from}
use Rattle.replay.specs.declared.cache.ReplayCache.{ReplayCache}
use Rattle.ap_accept.specs.declared.clients.Clients.{Clients}

-- the replay caches of a service's clients, by name
abbrev pub ReplayCaches : Type 0
ReplayCaches = map.FinMap name_cmp (ReplayCache ⊤)

-- the empty cache with this floor
abbrev pub empty_cache : ℤ → ReplayCache ⊤
empty_cache floor = record { failures = no_failures; floor = floor; pairs = map.empty }

-- the cache of a client without a stored one is empty
abbrev pub cache_among : ℤ → ReplayCaches → Components → ReplayCache ⊤
cache_among floor caches client = unwrap_or (map.get caches client) (empty_cache floor)

abbrev pub cache_in : Clients → Components → ReplayCache ⊤
cache_in clients client = cache_among clients.floor clients.caches client

-- the clients of a service that has accepted nothing since the acceptor started with this floor
abbrev pub opened_clients : ℤ → Clients
opened_clients floor = record { floor = floor; caches = map.empty }

abbrev pub with_cache : Clients → Components → ReplayCache ⊤ → Clients
with_cache clients client cache = record clients { caches = map.insert clients.caches client cache }

-- ---- dropping old entries

-- the cache refuses more than an empty one with this floor: its own floor is higher, or it has a pair at or above it
abbrev pub lasts : ℤ → ReplayCache ⊤ → Bool
lasts floor m = int_lt floor m.floor || nat_le 1 (map.len (map.retain_keys m.pairs (is_from floor)))

-- the service's floor raised to this one, without the caches that an empty one can replace
abbrev pub raised_to : ℤ → Clients → Clients
raised_to floor clients = record { floor = floor; caches = retain_values clients.caches (lasts floor) }

-- an hour, in seconds
abbrev pub hour : ℕ
hour = 3600

-- an hour plus the clock skew before now
abbrev pub floor_for : ℤ → ℤ
floor_for now = now -ℤ pos (skew + hour)

-- raises the floor to that, if it lies more than an hour below
abbrev pub drop_expired : ℤ → Clients → Clients
drop_expired now clients =
    if int_lt clients.floor (floor_for now -ℤ pos hour) then raised_to (floor_for now) clients else clients

-- from this second on, both caches give the same verdict on every authenticator
abbrev pub SaysTheSame : ℤ → ReplayCache ⊤ → ReplayCache ⊤ → Type 0
SaysTheSame second a b =
    (now : ℤ) (stamp : Stamp) (limit : ℕ) → second ≤ℤ now → verdict a now stamp limit ≡ verdict b now stamp limit

-- A call at this second dropped the cache, since the service's floor lay more than an hour too low, and an empty cache
-- with the raised floor refuses no less.
pub record IsDropped (now floor : ℤ) (old new : ReplayCache ⊤) : Type 0 where
  pub due : IsTrue (int_lt floor (floor_for now -ℤ pos hour))
  pub spent : IsFalse (lasts (floor_for now) old)
  pub empty : new ≡ empty_cache (floor_for now)

abbrev pub IsKeptOrDropped : ℤ → ℤ → ReplayCache ⊤ → ReplayCache ⊤ → Type 0
IsKeptOrDropped now floor old new = (new ≡ old) ⊎ IsDropped now floor old new
