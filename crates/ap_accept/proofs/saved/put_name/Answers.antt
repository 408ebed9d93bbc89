use Rattle.std.proofs.Common.{rules, List, ℕ, subst, SFits, w32}
use Rattle.std.proofs.lemmas.Int.{to_z-of_z}
use Rattle.cred_files.specs.Format.{signed32}
use Rattle.ap_accept.specs.Saved.{both, list, name, octets, Puts}
use Rattle.ap_accept.proofs.Putting.{both_puts, made_puts, on_ok}
use Rattle.ap_accept.proofs.saved.put_name.Goals as goal

pub returns : goal.returns
returns c =
    let number = c.args.value.now.name_type in
    let components = c.as_slice.result.now in
    let fits : SFits w32 c.args.value.now.name_type = search rules in
    on_ok c.put_list.result (λ q. subst (λ (cs : List (List ℕ)). Puts name (record { name_type = number; components = cs }) c.args.out.now.items c.put_list.new.out.items) c.as_slice.ensures
    (made_puts (λ v. record { name_type = v.0; components = v.1 }) (both signed32.form.at (list octets)) (number, components) c.args.out.now.items c.put_list.new.out.items
    (both_puts signed32.form.at (list octets) number components c.args.out.now.items c.put_i32.new.out.items c.put_list.new.out.items (simp to_z-of_z at c.in_ok-put_i32.ensures) q))) c.put_list.ensures
