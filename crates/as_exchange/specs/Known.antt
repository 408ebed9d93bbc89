-- The sizes of names that have rows.
use Rattle.std.proofs.Common.{ℕ, ◌*◌, ◌<◌, ◌≤◌, List, [], ◌∷◌, length, arith}
use Rattle.std.specs.Prelude.{IfSome, All}
use Rattle.std.specs.List.{concat}
use Rattle.std.proofs.lemmas.List.{length-append}
use Rattle.std.proofs.lemmas.List.Elements.{All-head, All-tail}
use Rattle.krb_fields.specs.Name.{Components}
use Rattle.krb_fields.specs.NameLimits.{IsComponent, IsWithinLimits}
use Rattle.krb_fields.specs.NameLimitsLaws.{component_facts, name_facts}
use Rattle.krb_fields.specs.PrincipalName.{name}
use Rattle.krb_fields.specs.Salt.{default_salt}
use Rattle.krb_types.specs.ReqBody.{ReqBody}
use Rattle.as_exchange.specs.View.{AsView}

-- the realm is short, names that have rows are within the limits, and so is the text of the service's name
pub record IsKnown (v : AsView) (body : ReqBody) : Type 0 where
  pub realm : length v.realm ≤ 255
  pub client : IfSome v.client (λ row. IfSome body.cname (λ n. IsWithinLimits n.components))
  pub service : IfSome v.service (λ row. IfSome body.sname (λ n. IsWithinLimits n.components))
  pub sname : IfSome body.sname (λ n. length (name.text n) < 2147483648)

joined_short : (components : Components) → All IsComponent components
    → length (concat components) ≤ 255 * length components
joined_short [] all = omega arith
joined_short (c ∷ cs) all =
    omega (
      arith,
      length-append c (concat cs),
      (component_facts c (All-head IsComponent c cs all)).1,
      joined_short cs
          (All-tail IsComponent c cs all),
    )

-- the salt of a name within the limits
pub salt_short : (realm : List ℕ) (components : Components) → length realm ≤ 255 → IsWithinLimits components
    → length (default_salt realm components) ≤ 8192
salt_short realm components short is =
    let facts = name_facts components is in
    omega (arith, length-append realm (concat components), joined_short components facts.2, facts.1, short)
