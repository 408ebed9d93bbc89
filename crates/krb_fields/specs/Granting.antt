-- The name of the ticket-granting service of a realm.
use Rattle.std.specs.Prelude.{ℕ, codes, List, [], ◌∷◌}
use Rattle.krb_fields.specs.Name.{Components}
use Rattle.krb_fields.specs.PrincipalName.{Name}
use Rattle.krb_fields.specs.declared.numbers.TheConstants.{NT_SRV_INST}

-- krbtgt/REALM (RFC 4120, section 7.3)
abbrev pub tgs_principal : List ℕ → Components
tgs_principal realm = codes "krbtgt" ∷ realm ∷ []

-- with the name-type NT-SRV-INST (RFC 4120, sections 6.2 and 7.3)
abbrev pub tgs_name : List ℕ → Name
tgs_name realm = record { name_type = NT_SRV_INST; components = tgs_principal realm }
