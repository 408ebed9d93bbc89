-- The authenticator of an AP-REQ (RFC 4120, section 3.2.3).
use Rattle.std.specs.Prelude.{List, [], ◌∷◌, Option, Result}
use Rattle.rule_lists.specs.Refusals.{Rule, decided}
use Rattle.enctypes.specs.declared.key.Key.{Key}
use Rattle.krb_types.specs.Authenticator.{Authenticator}
use Rattle.krb_types.specs.EncTicketPart.{EncTicketPart}
use Rattle.ap_req.specs.Authenticators.{is_mismatched, subkey_in}
use Rattle.ap_req.specs.declared.refusal.ApRefusal.{ApRefusal}
use Rattle.ap_req.specs.declared.refusal.ApRefusal.TheVariants.{BadMatch, BadSubkey}

abbrev pub authenticator_rules : EncTicketPart → Authenticator → List (Rule ApRefusal)
authenticator_rules part auth = (is_mismatched part auth, BadMatch) ∷ []

abbrev pub subkey_of : EncTicketPart → Authenticator → Result (Option Key) ApRefusal
subkey_of part auth = decided (authenticator_rules part auth) (subkey_in auth.subkey) BadSubkey
