use Rattle.std.proofs.Common.{rules, ◌≡◌, false, sym, subst, SFits, w64}
use Rattle.std.specs.Prelude.{⊤}
use Rattle.std.proofs.lemmas.Int.{to_z-of_z}
use Rattle.replay.specs.Stamp.{is_beyond_clock_skew}
use Rattle.replay.specs.declared.cache.ReplayCache.{ReplayCache}
use Rattle.ap_accept.proofs.Listed.{record_listed}
use Rattle.ap_accept.proofs.client.Client.record_seen.Goals as goal

pub invariant_of-self-2 : goal.invariant_of-self-2
invariant_of-self-2 c =
    let fits : SFits w64 c.args.ctime = search rules in
    let is : c.self.inside.cache ≡ c.args.self.now = search rules in
    record_listed c.record_seen.new.self c.self.inside.cache c.args.at.sec (c.args.ctime, c.args.cusec) c.self.inside.stamps.items c.reserve.new.self.items c.push_reserved.new.self.items
    (subst (λ (m : ReplayCache ⊤). is_beyond_clock_skew m.floor c.args.at.sec c.args.ctime ≡ false) (sym is) c.requires.timely)
    c.self.invariant (simp to_z-of_z at c.in_ok-record_seen.ensures.ok) c.in_ok-reserve.ensures.items (simp to_z-of_z at c.push_reserved.ensures.items)
