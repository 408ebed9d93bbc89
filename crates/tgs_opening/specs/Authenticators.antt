-- The authenticator that a TGS-REQ presents, with a checksum of the request (RFC 4120, sections 3.3.2 and 5.5.1). Each
-- rule has its section beside it.
use Rattle.std.specs.Prelude.{ℕ, Bool, not, nat_eq, is_none, List, [], ◌∷◌, Option, Result}
use Rattle.std.specs.Ordering.{int_eq}
use Rattle.std.specs.Cmp.Lexicographic.{pointwise}
use Rattle.rule_lists.specs.Optional.{holds_of}
use Rattle.rule_lists.specs.Refusals.{Rule, decided}
use Rattle.enctypes.specs.Etype.{checksum_type}
use Rattle.enctypes.specs.Sealing.{mac}
use Rattle.enctypes.specs.KeyUsage.{usage_number}
use Rattle.enctypes.specs.declared.key.Key.{Key}
use Rattle.enctypes.specs.declared.key_usage.KeyUsage.TheVariants.{TgsReqAuthenticatorChecksum}
use Rattle.krb_fields.specs.Typed.{Typed}
use Rattle.krb_types.specs.Authenticator.{Authenticator}
use Rattle.krb_types.specs.EncTicketPart.{EncTicketPart}
use Rattle.ap_req.specs.Authenticators.{is_mismatched, subkey_in}
use Rattle.ap_req.specs.declared.refusal.ApRefusal.TheVariants.{BadMatch, BadSubkey}
use Rattle.tgs_opening.specs.declared.refusal.TgsRefusal.{TgsRefusal}
use Rattle.tgs_opening.specs.declared.refusal.TgsRefusal.TheVariants.{Ap, NoChecksum, BadChecksumType, Modified}

abbrev pub is_other_type : Key → Option Typed → Bool
is_other_type key = holds_of (λ cksum. not (int_eq cksum.number (checksum_type key.etype)))

-- it is not the checksum of the request's body as it was sent
abbrev pub is_modified : Key → List ℕ → Option Typed → Bool
is_modified key body = holds_of (λ cksum.
    not (pointwise nat_eq cksum.octets (mac key.etype key.bytes (usage_number TgsReqAuthenticatorChecksum) body)))

abbrev pub authenticator_rules : EncTicketPart → Key → List ℕ → Authenticator → List (Rule TgsRefusal)
authenticator_rules part key body auth =
    (is_mismatched part auth, Ap BadMatch)  -- 3.2.3
    ∷ (is_none auth.cksum, NoChecksum)  -- 3.3.2
    ∷ (is_other_type key auth.cksum, BadChecksumType)  -- 3.3.2
    ∷ (is_modified key body auth.cksum, Modified)  -- 3.3.2
    ∷ []

-- the subkey, which will encrypt the reply, or the first reason to refuse it; the last one is a bad subkey (section
-- 3.3.3)
abbrev pub subkey_of : EncTicketPart → Key → List ℕ → Authenticator → Result (Option Key) TgsRefusal
subkey_of part key body auth = decided (authenticator_rules part key body auth) (subkey_in auth.subkey) (Ap BadSubkey)
