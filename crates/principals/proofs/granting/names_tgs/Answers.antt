use Rattle.std.proofs.Common.{rules, ◌≡◌, ◌&&◌, codes, List, ℕ, [], ◌∷◌, sym, ap, ◌∙◌, bytes_eq}
use Rattle.std.specs.Ordering.{eq_by_cmp}
use Rattle.krb_fields.specs.Name.{name_cmp}
use Rattle.krb_fields.specs.Granting.{tgs_principal}
use Rattle.principals.proofs.Tgs.{tgs_two}
use Rattle.principals.proofs.granting.names_tgs.Goals as goal

pub returns : goal.returns
returns c =
    let first : c.iter-components.result ≡ c.in-Some.service ∷ c.next.new.self = search rules in
    let second : c.next.new.self ≡ c.in-Some-next.instance ∷ c.next-2.new.self = search rules in
    let last : c.next-2.new.self ≡ [] = search rules in
    let whole : c.args.name.now.components ≡ c.in-Some.service ∷ c.in-Some-next.instance ∷ [] =
    sym c.iter-components.ensures ∙ first ∙ ap (λ (l : List (List ℕ)). c.in-Some.service ∷ l)
    (second ∙ ap (λ (l : List (List ℕ)). c.in-Some-next.instance ∷ l) last) in
    c.is_pair.ensures
    ∙ (λ i. bytes_eq (c.as_slice.ensures i) (codes "krbtgt") && bytes_eq (c.as_slice-2.ensures i) c.args.realm.now)
    ∙ sym (tgs_two c.in-Some.service c.in-Some-next.instance c.args.realm.now)
    ∙ sym (ap (λ (l : List (List ℕ)). eq_by_cmp name_cmp l (tgs_principal c.args.realm.now)) whole)
