-- How much the replay caches of all clients hold.
use Rattle.std.specs.Prelude.{ℕ, List}
use Rattle.std.specs.List.{sum_by}
use Rattle.std.specs.FinMap as map
use Rattle.krb_fields.specs.Name.{Components}
use Rattle.replay.specs.Sizes.{bytes_in}
use Rattle.replay.specs.declared.cache.ReplayCache.{ReplayCache}
use Rattle.replay.specs.declared.keep.Kept.{Kept}

abbrev pub pairs_of : List (Components × ReplayCache Kept) → ℕ
pairs_of caches = sum_by (λ entry. map.len entry.1.pairs) caches

abbrev pub bytes_of : List (Components × ReplayCache Kept) → ℕ
bytes_of caches = sum_by (λ entry. bytes_in entry.1.pairs) caches
