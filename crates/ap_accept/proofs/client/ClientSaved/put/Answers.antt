use Rattle.std.proofs.Common.{rules, ◌≡◌, sym, ap, subst, ◌∙◌, SFits, w64}
use Rattle.std.specs.Prelude.{⊤}
use Rattle.std.proofs.lemmas.Int.{to_z-of_z}
use Rattle.replay.specs.declared.cache.ReplayCache.{ReplayCache}
use Rattle.ap_accept.specs.Saved.{both, cache, list, second, stamp, Puts}
use Rattle.ap_accept.specs.Stamps.{cache_with}
use Rattle.ap_accept.proofs.Putting.{both_puts, made_puts, on_ok}
use Rattle.ap_accept.proofs.client.ClientSaved.put.Goals as goal

pub returns : goal.returns
returns c =
    let floor = c.self.inside.cache.floor in
    let stamps = c.as_slice.result.now in
    let fits : SFits w64 c.self.inside.cache.floor = search rules in
    let is : c.self.inside.cache ≡ c.args.self.now = search rules in
    let value : cache_with floor stamps ≡ c.args.self.now = ap (cache_with floor) c.as_slice.ensures.value ∙ sym c.self.invariant ∙ is in
    on_ok c.put_list.result (λ q. subst (λ (m : ReplayCache ⊤). Puts cache m c.args.out.now.items c.put_list.new.out.items) value
    (made_puts (λ v. cache_with v.0 v.1) (both second (list stamp)) (floor, stamps) c.args.out.now.items c.put_list.new.out.items
    (both_puts second (list stamp) floor stamps c.args.out.now.items c.put_second.new.out.items c.put_list.new.out.items (simp to_z-of_z at c.in_ok-put_second.ensures) q))) c.put_list.ensures
