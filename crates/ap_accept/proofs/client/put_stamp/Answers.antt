use Rattle.std.proofs.Common.{rules, ◌≡◌, ℤ, to_z, of_z, w64, subst, OnOk}
use Rattle.std.specs.FinMap as map
use Rattle.ap_accept.proofs.client.put_stamp.Goals as goal

pub returns : goal.returns
returns c =
    let is : to_z w64 (of_z w64 c.args.stamp.now.0) ≡ c.args.stamp.now.0 = search rules in
    subst (λ (z : ℤ). OnOk c.put.result (c.put.new.self ≡ map.insert c.args.pairs.now (z, c.args.stamp.now.1) tt)) is c.put.ensures.ok
