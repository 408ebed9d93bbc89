-- Names within the limits are short.
use Rattle.std.proofs.Common.{ℕ, ◌*◌, ◌≤◌, List, [], ◌∷◌, length, arith}
use Rattle.std.specs.Prelude.{All}
use Rattle.std.proofs.lemmas.List.Elements.{All-head, All-tail}
use Rattle.krb_elements.specs.TextLengthLaws.{most_items}
use Rattle.krb_fields.specs.NameLimits.{IsComponent, IsWithinLimits}
use Rattle.krb_fields.specs.NameLimitsLaws.{component_facts, name_facts}
use Rattle.krb_fields.specs.PrincipalName.{Name, name, name_form}

components_bounded : (components : List (List ℕ)) → All IsComponent components
    → most_items length components ≤ 261 * length components
components_bounded [] all = omega arith
components_bounded (c ∷ cs) all =
    omega (
      arith,
      (component_facts c (All-head IsComponent c cs all)).1,
      components_bounded cs (All-tail IsComponent c cs all),
    )

-- an upper bound on the length of a name's text
pub name_most : (n : Name) → IsWithinLimits n.components → name.most n ≤ 5000
unfolding name_form
name_most n is =
    let facts = name_facts n.components is in
    omega (arith, components_bounded n.components facts.2, facts.1)

pub name_short : (n : Name) → IsWithinLimits n.components → length (name.text n) ≤ 5000
name_short n is = omega (arith, name.bounded n, name_most n is)
