use Rattle.std.proofs.Common.{rules, SFits, w64}
use Rattle.std.proofs.lemmas.Int.{to_z-of_z}
use Rattle.ap_accept.proofs.Listed.{shortened}
use Rattle.ap_accept.proofs.client.Client.shorten.Goals as goal

pub invariant_of-self : goal.invariant_of-self
invariant_of-self c =
    let fits : SFits w64 c.self.inside.cache.floor = search rules in
    shortened c.self.inside.cache c.self.inside.stamps.items c.drop_below.new.stamps.items c.self.invariant (simp to_z-of_z at c.drop_below.ensures)
