-- The ticket of an AP-REQ (RFC 4120, section 3.2.3). Each rule has its section beside it.
use Rattle.std.specs.Prelude.{ℕ, pos, Bool, not, ◌||◌, List, [], ◌∷◌, Option, Some, None, Result}
use Rattle.std.specs.Ordering.{int_eq}
use Rattle.rule_lists.specs.Refusals.{Rule, decided}
use Rattle.krb_elements.specs.Codec.{Codec}
use Rattle.krb_fields.specs.declared.numbers.TheConstants.{PVNO, AP_REQ}
use Rattle.krb_fields.specs.ApOption.{ap_option_number}
use Rattle.krb_fields.specs.EncryptedData.{EncryptedData}
use Rattle.krb_fields.specs.Flags.{has_bit}
use Rattle.krb_fields.specs.declared.ap_option.ApOption.TheVariants.{UseSessionKey}
use Rattle.krb_types.specs.ApReq.{ApReq}
use Rattle.krb_types.specs.EncTicketPart.{EncTicketPart, enc_ticket_part}
use Rattle.enctypes.specs.KeyUsage.{usage_number}
use Rattle.enctypes.specs.declared.key.Key.{Key}
use Rattle.enctypes.specs.declared.key_usage.KeyUsage.TheVariants.{Ticket as TicketUsage}
use Rattle.encrypted_data.specs.Parts.{opened_as}
use Rattle.ap_req.specs.HeldKey.{HeldKey, lacks_key, lacks_version}
use Rattle.ap_req.specs.declared.refusal.ApRefusal.{ApRefusal}
use Rattle.ap_req.specs.declared.refusal.ApRefusal.TheVariants.{BadVersion, BadMessageType, SessionKeyAsked}
use Rattle.ap_req.specs.declared.refusal.ApRefusal.TheVariants.{NotForUs, NoKey, BadKeyVersion, TicketNotOpened}

abbrev pub is_other_version : ApReq → Bool
is_other_version ap = not (int_eq ap.pvno PVNO) || not (int_eq ap.ticket.tkt_vno PVNO)

abbrev pub ticket_rules : HeldKey → ApReq → List (Rule ApRefusal)
ticket_rules held ap =
    (is_other_version ap, BadVersion)  -- 5.5.1, 5.3
    ∷ (not (int_eq ap.msg_type (pos AP_REQ)), BadMessageType)  -- 3.2.3
    ∷ (has_bit ap.ap_options (ap_option_number UseSessionKey), SessionKeyAsked)  -- 3.2.3
    ∷ (not held.is_for_us, NotForUs)  -- 3.2.3, 3.3.2
    ∷ (lacks_key held ap.ticket.enc_part, NoKey)  -- 3.2.3
    ∷ (lacks_version held ap.ticket.enc_part, BadKeyVersion)  -- 3.2.3
    ∷ []

-- the part, decrypted with the key if there is one
abbrev pub opened_with : {A : Type 0} → Codec A → ℕ → Option Key → List ℕ → Option A
opened_with c usage (Some key) cipher = opened_as c key.etype key.bytes usage cipher
opened_with c usage None cipher = None

-- the ticket's encrypted part, decrypted
abbrev pub part_of : HeldKey → EncryptedData → Option EncTicketPart
part_of held sealed = opened_with enc_ticket_part (usage_number TicketUsage) held.key sealed.cipher

-- the decrypted ticket, or the first reason to refuse it; the last one is that it can't be decrypted
abbrev pub shown_ticket : HeldKey → ApReq → Result EncTicketPart ApRefusal
shown_ticket held ap = decided (ticket_rules held ap) (part_of held ap.ticket.enc_part) TicketNotOpened
