-- The session key of a presented ticket, and the authenticator that it encrypts (RFC 4120, sections 3.2.3 and 5.5.1).
-- Each rule has its section beside it.
use Rattle.std.specs.Prelude.{ℕ, Bool, not, ◌||◌, nat_eq, if◌then◌else◌, is_some, List, [], ◌∷◌, Option, Some, None}
use Rattle.std.specs.Prelude.{Result, option_map}
use Rattle.std.specs.Ordering.{int_eq, eq_by_cmp}
use Rattle.std.specs.Cmp.Lexicographic.{pointwise}
use Rattle.rule_lists.specs.Refusals.{Rule, decided}
use Rattle.enctypes.specs.Etype.{number}
use Rattle.enctypes.specs.KeyUsage.{usage_number}
use Rattle.enctypes.specs.declared.key.Key.{Key}
use Rattle.enctypes.specs.declared.key_usage.KeyUsage.{KeyUsage}
use Rattle.krb_fields.specs.EncryptedData.{EncryptedData}
use Rattle.krb_fields.specs.Name.{name_cmp}
use Rattle.krb_fields.specs.PrincipalName.{Name}
use Rattle.krb_fields.specs.Typed.{Typed}
use Rattle.krb_types.specs.Authenticator.{Authenticator, authenticator}
use Rattle.krb_types.specs.EncTicketPart.{EncTicketPart}
use Rattle.encrypted_data.specs.Keys.{key_of}
use Rattle.encrypted_data.specs.Parts.{opened_as}
use Rattle.ap_req.specs.declared.refusal.ApRefusal.{ApRefusal}
use Rattle.ap_req.specs.declared.refusal.ApRefusal.TheVariants.{ForeignClient, BoundAddress, BadSessionKey}
use Rattle.ap_req.specs.declared.refusal.ApRefusal.TheVariants.{AuthenticatorNotOpened}

-- ---- the session key

-- The client must be of this realm, the ticket's, since no transited realms are accepted.
abbrev pub part_rules : List ℕ → EncTicketPart → List (Rule ApRefusal)
part_rules realm part =
    (not (pointwise nat_eq part.crealm realm), ForeignClient)  -- 3.3.3.2
    ∷ (is_some part.caddr, BoundAddress)  -- 3.2.3
    ∷ []

-- the key in the ticket, or the first reason to refuse it; the last one is a bad key (section 3.2.3)
abbrev pub session_key_of : List ℕ → EncTicketPart → Result Key ApRefusal
session_key_of realm part = decided (part_rules realm part) (key_of part.key.number part.key.octets) BadSessionKey

-- ---- the authenticator

-- the authenticator, decrypted with the session key, if it names that key's encryption type
abbrev pub authenticator_in : KeyUsage → Key → EncryptedData → Option Authenticator
authenticator_in usage key sealed =
    if int_eq sealed.etype (number key.etype)
    then opened_as authenticator key.etype key.bytes (usage_number usage) sealed.cipher
    else None

-- the decrypted authenticator, or else the only reason (section 3.2.3)
abbrev pub authenticator_of : KeyUsage → Key → EncryptedData → Result Authenticator ApRefusal
authenticator_of usage key sealed = decided [] (authenticator_in usage key sealed) AuthenticatorNotOpened

-- names are compared by their components: the name-type is a hint (RFC 4120, section 6.2)
abbrev pub is_same : Name → Name → Bool
is_same a b = eq_by_cmp name_cmp a.components b.components

-- it names another client than the ticket
abbrev pub is_mismatched : EncTicketPart → Authenticator → Bool
is_mismatched part auth = not (pointwise nat_eq auth.crealm part.crealm) || not (is_same auth.cname part.cname)

-- no subkey, or one that is a valid key
abbrev pub subkey_in : Option Typed → Option (Option Key)
subkey_in (Some subkey) = option_map Some (key_of subkey.number subkey.octets)
subkey_in None = Some None
