use Rattle.std.proofs.Common.{rules, pos, ◌-ℤ◌, ◌∙◌, arith, SFits, w64}
use Rattle.std.proofs.lemmas.Int.{to_z-of_z, ints}
use Rattle.krb_fields.specs.Skew.{skew}
use Rattle.replay.proofs.Recording.{records}
use Rattle.replay.proofs.cache.ReplayCache.record_seen.Goals as goal

pub returns-clause-ok : goal.returns-clause-ok
returns-clause-ok g c =
    let floor : SFits w64 c.args.self.now.floor = search rules in
    let ctime : SFits w64 c.args.ctime = search rules in
    let now : SFits w64 c.args.at.sec = search rules in
    let start : SFits w64 (c.args.at.sec -ℤ pos skew) = omega (arith, ints) in
    let raised : SFits w64 c.max-self.result = search rules in
    simp to_z-of_z (records c.args.self.now c.args.at.sec c.max-self.result (c.args.ctime, c.args.cusec) c.args.kept c.put.new.self c.free_dropped.new.self
    c.requires.timely (simp to_z-of_z at c.in_ok-put.ensures.ok) (simp to_z-of_z at c.max-self.ensures.value) (c.free_dropped.ensures ∙ simp to_z-of_z at c.drop_before.ensures.pairs))
