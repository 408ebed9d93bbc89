use Rattle.std.proofs.Common.{rules, ◌≡◌, ◌+◌, pos, ◌+ℤ◌, arith, SFits, w64}
use Rattle.std.proofs.lemmas.Int.{to_z-of_z, ints}
use Rattle.krb_fields.specs.Skew.{skew}
use Rattle.replay.proofs.cache.ReplayCache.restarted.Goals as goal

pub returns : goal.returns
returns g c =
    let now : SFits w64 c.args.at.sec = search rules in
    let last : SFits w64 (c.args.at.sec +ℤ pos skew) = omega (arith, ints) in
    let next : SFits w64 ((c.args.at.sec +ℤ pos skew) +ℤ pos 1) = omega (arith, ints) in
    let floor : (c.args.at.sec +ℤ pos skew) +ℤ pos 1 ≡ c.args.at.sec +ℤ pos (skew + 1) = omega (arith, ints) in
    simp to_z-of_z (λ i. record { failures = c.none.ensures i; floor = floor i; pairs = c.new.ensures i })
