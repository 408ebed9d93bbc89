use Rattle.std.proofs.Common.{◌≡◌, ℕ, ◌-◌, List, ◌++◌}
use Rattle.std.specs.Int.{w32, to_be_bytes}
use Rattle.prf_kdf.specs.Hasher.{HoldsKeyBlock}
use Rattle.prf_kdf.specs.Hmac.{hmac_of_block}
use Rattle.prf_kdf.specs.Pbkdf2.{iterate, iterates_xor}
use Rattle.prf_kdf.proofs.pbkdf2.write_block.Given as goal

-- U `counter`, and the sum up to it
abbrev pub invariant-loop : goal.invariant-loop
invariant-loop g l =
    (block : List ℕ) → HoldsKeyBlock g.H.Hasher.Holds l.key.inner l.key.outer block →
    let prf = hmac_of_block g.H.Hasher.hash block in
    let first = prf (l.salt ++ to_be_bytes w32 l.index) in
    (l.last ≡ iterate prf first (l.counter - 1)) × (l.total ≡ iterates_xor prf first (l.counter - 1))
