use Rattle.std.proofs.Common.{◌≡◌, ℕ, List, ◌++◌, take, drop, length, replicate, refl, sym, ap, ◌∙◌}
use Rattle.std.proofs.lemmas.List.{take_at, drop-replicate}
use Rattle.enctypes.specs.ShortOctets.{FillsFront, padded}
use Rattle.enctypes.proofs.short_octets.ShortOctets.new.Goals as goal

fills_front : (n : ℕ) (octets whole : List ℕ) → whole ≡ padded n octets → FillsFront n (length octets) whole
fills_front n octets whole is =
    let front : take (length octets) whole ≡ octets =
    ap (take (length octets)) is ∙ take_at octets _ (length octets) refl in
    record { size = ap length front; rest = ap (padded n) front ∙ sym is }

pub invariant_of-result : goal.invariant_of-result
invariant_of-result g c =
    let octets : List ℕ = c.args.octets.now in
    let n : ℕ = length octets in
    fills_front g.row.N octets _
    (ap (λ (l : List ℕ). l ++ drop n (replicate {A = ℕ} g.row.N 0)) c.copy_from_slice.ensures.after
    ∙ ap (λ (l : List ℕ). octets ++ l) (drop-replicate {X = ℕ} n g.row.N 0))
