use Rattle.std.proofs.Common.{rules, ◌≡◌, ap, subst, ◌∙◌, SFits, w64}
use Rattle.std.specs.FinMap as map
use Rattle.std.proofs.lemmas.Int.{to_z-of_z}
use Rattle.principal_rows.specs.NameMap.{pairs}
use Rattle.ap_accept.specs.Saved.{both, cache, clients, clients_with, entry, list, second, Puts}
use Rattle.ap_accept.specs.declared.clients.Clients.{Clients}
use Rattle.ap_accept.proofs.Listed.{entries_back}
use Rattle.ap_accept.proofs.Putting.{both_puts, made_puts, on_ok}
use Rattle.ap_accept.proofs.clients.ClientsSaved.put.Goals as goal

pub returns : goal.returns
returns c =
    let floor = c.args.self.now.floor in
    let entries = c.entries.result.now in
    let fits : SFits w64 c.args.self.now.floor = search rules in
    let caches : map.from_entries (pairs entries) ≡ c.args.self.now.caches = ap map.from_entries c.entries.ensures ∙ entries_back c.args.self.now.caches in
    let value : clients_with floor entries ≡ c.args.self.now = λ i. record { floor = floor; caches = caches i } in
    on_ok c.put_list.result (λ q. subst (λ (k : Clients). Puts clients k c.args.out.now.items c.put_list.new.out.items) value
    (made_puts (λ v. clients_with v.0 v.1) (both second (list (entry cache))) (floor, entries) c.args.out.now.items c.put_list.new.out.items
    (both_puts second (list (entry cache)) floor entries c.args.out.now.items c.put_second.new.out.items c.put_list.new.out.items (simp to_z-of_z at c.in_ok-put_second.ensures) q))) c.put_list.ensures
