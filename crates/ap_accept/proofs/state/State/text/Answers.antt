use Rattle.std.proofs.Common.{rules, ◌≡◌, List, ℕ, ℤ, [], ap, subst, ◌∙◌, SFits, w64}
use Rattle.std.specs.FinMap as map
use Rattle.std.proofs.lemmas.Int.{to_z-of_z}
use Rattle.principal_rows.specs.NameMap.{pairs}
use Rattle.ap_accept.specs.Saved.{both, clients, entry, held, list, mark, second, word, Puts}
use Rattle.principal_rows.specs.declared.name_map.Entry.{Entry}
use Rattle.ap_accept.specs.declared.clients.Clients.{Clients}
use Rattle.ap_accept.specs.declared.saving.Held.{Held}
use Rattle.ap_accept.proofs.Listed.{entries_back}
use Rattle.ap_accept.proofs.Putting.{both_puts, made_puts}
use Rattle.ap_accept.proofs.Resuming.{held_of}
use Rattle.ap_accept.proofs.state.State.text.Goals as goal

pub returns : goal.returns
returns c =
    let floor = c.args.self.now.floor in
    let entries = c.entries.result.now in
    let begun = c.new-text.result.items in
    let marked = c.put_word.new.out.items in
    let floored = c.put_second.new.out.items in
    let out = c.put_list.new.out.items in
    let fits : SFits w64 c.args.self.now.floor = search rules in
    let services : map.from_entries (pairs entries) ≡ c.args.self.now.services = ap map.from_entries c.entries.ensures ∙ entries_back c.args.self.now.services in
    let to : ℕ × (ℤ × List (Entry Clients)) → Held = λ v. record { mark = v.0; floor = v.1.0; services = map.from_entries (pairs v.1.1) } in
    let value : to (mark, (floor, entries)) ≡ held_of c.args.self.now = λ i. record { mark = mark; floor = floor; services = services i } in
    let all : Puts held (to (mark, (floor, entries))) begun out =
    made_puts to (both word (both second (list (entry clients)))) (mark, (floor, entries)) begun out
    (both_puts word (both second (list (entry clients))) mark (floor, entries) begun marked out c.in_ok-put_word.ensures
    (both_puts second (list (entry clients)) floor entries marked floored out (simp to_z-of_z at c.in_ok-put_second.ensures) c.in_ok-put_list.ensures)) in
    subst (λ (h : Held). Puts held h [] out) value (subst (λ (l : List ℕ). Puts held (to (mark, (floor, entries))) l out) c.new-text.ensures.items all)
