use Rattle.std.proofs.Common.{ℕ, List, ◌++◌, take}
use Rattle.std.specs.List.{flat_map}
use Rattle.prf_kdf.proofs.hmac.absorb.Given as goal

-- the hasher has hashed the parts so far
abbrev pub invariant-loop-part : goal.invariant-loop-part
invariant-loop-part g l =
    (m : List ℕ) → g.H.Hasher.Holds l.fn.hasher m
    → g.H.Hasher.Holds l.hasher (m ++ flat_map (λ part. part.now) (take l.part-index l.parts))
