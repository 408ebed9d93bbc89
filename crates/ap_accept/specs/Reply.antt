-- The AP-REP, by which a service proves that it has the session key (RFC 4120, sections 3.2.4 and 5.5.2).
use Rattle.std.specs.Prelude.{◌≡◌, ℕ, Bool, true, false, List, Option, Some, None}
use Rattle.enctypes.specs.KeyUsage.{usage_number}
use Rattle.enctypes.specs.declared.key.Key.{Key}
use Rattle.enctypes.specs.declared.key_usage.KeyUsage.TheVariants.{ApRepEncPart}
use Rattle.krb_types.specs.ApRep.{ApRep, ap_rep}
use Rattle.krb_types.specs.ApReq.{ApReq}
use Rattle.krb_elements.specs.Codec.{written}
use Rattle.krb_fields.specs.ApOption.{ap_option_number}
use Rattle.krb_fields.specs.Flags.{has_bit}
use Rattle.krb_fields.specs.declared.ap_option.ApOption.TheVariants.{MutualRequired}
use Rattle.krb_types.specs.Authenticator.{Authenticator}
use Rattle.krb_types.specs.EncApRepPart.{EncApRepPart, enc_ap_rep_part}
use Rattle.encrypted_data.specs.Encrypted.{encrypted, decrypted}

-- the authenticator's time and nothing else
abbrev pub reply_part : Authenticator → EncApRepPart
reply_part auth = record { ctime = auth.ctime; cusec = auth.cusec; subkey = None; seq_number = None }

-- encrypted with the session key, without a key version
abbrev pub reply_of : Key → List ℕ → Authenticator → ApRep
reply_of key confounder auth = record {
  enc_part = encrypted enc_ap_rep_part key (usage_number ApRepEncPart) None confounder (reply_part auth);
}

abbrev pub asks_reply : ApReq → Bool
asks_reply ap = has_bit ap.ap_options (ap_option_number MutualRequired)

-- its bytes, if it is asked for
abbrev pub reply_if : Bool → Key → List ℕ → Authenticator → Option (List ℕ)
reply_if true key confounder auth = Some (written ap_rep (reply_of key confounder auth))
reply_if false key confounder auth = None

-- These bytes are the AP-REP, and the session key decrypts its part to the authenticator's time.
pub record IsApReply (key : Key) (confounder : List ℕ) (auth : Authenticator) (octets : List ℕ) : Type 0 where
  pub spelled : ap_rep.Spells (reply_of key confounder auth) octets
  pub opens : decrypted enc_ap_rep_part key (usage_number ApRepEncPart) (reply_of key confounder auth).enc_part
      ≡ Some (reply_part auth)
