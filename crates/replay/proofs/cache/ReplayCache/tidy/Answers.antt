use Rattle.std.proofs.Common.{rules, pos, ◌-ℤ◌, arith, SFits, w64}
use Rattle.std.proofs.lemmas.Int.{to_z-of_z, ints}
use Rattle.krb_fields.specs.Skew.{skew}
use Rattle.replay.proofs.Raising.{tidies}
use Rattle.replay.proofs.cache.ReplayCache.tidy.Goals as goal

pub returns : goal.returns
returns g c =
    let floor : SFits w64 c.args.self.now.floor = search rules in
    let now : SFits w64 c.args.at.sec = search rules in
    let first : SFits w64 (c.args.at.sec -ℤ pos skew) = omega (arith, ints) in
    let start : SFits w64 c.max-start.result = search rules in
    let above : SFits w64 c.drop_before-above.result = search rules in
    let made : SFits w64 c.tidied_floor-self.result = search rules in
    simp to_z-of_z (tidies c.args.self.now c.args.at.sec c.max-start.result c.drop_before-above.result c.tidied_floor-self.result c.drop_before-above.new.self
    (simp to_z-of_z at c.max-start.ensures.value) (simp to_z-of_z at c.drop_before-above.ensures.floor) (simp to_z-of_z at c.drop_before-above.ensures.pairs) (simp to_z-of_z at c.tidied_floor-self.ensures))
