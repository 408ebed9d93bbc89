-- What a client writes is short, and so has an encoding.
use Rattle.std.proofs.Common.{◌≡◌, ℕ, ℤ, ◌+◌, ◌*◌, ◌^◌, ◌<◌, ◌≤◌, Bool, true, false, List, [], ◌∷◌, length, map, Option}
use Rattle.std.proofs.Common.{Some, None, refl, sym, ap, subst, arith}
use Rattle.std.specs.Prelude.{◌&&◌, IfSome}
use Rattle.std.proofs.lemmas.Bool.{leb-true}
use Rattle.cred_files.specs.declared.credential.Credential.{Credential}
use Rattle.enctypes.specs.Etype.{number}
use Rattle.enctypes.specs.declared.etype.Etype.{Etype}
use Rattle.krb_types.specs.ApReq.{ApReq, ap_req, ap_req_of, ap_req_form}
use Rattle.krb_elements.specs.Codec.{list_of, measured, written}
use Rattle.krb_elements.specs.ShortTextLaws.{tlv_short}
use Rattle.krb_elements.specs.TextLengthLaws.{most_items, most_maybe}
use Rattle.krb_fields.specs.EncryptedData.{EncryptedData, encrypted_data, encrypted_data_form}
use Rattle.krb_fields.specs.NameLengthLaws.{name_most}
use Rattle.krb_fields.specs.NameLimits.{IsComponent, IsWithinLimits}
use Rattle.krb_fields.specs.NameLimitsLaws.{component_facts}
use Rattle.krb_fields.specs.PaData.{PaData, pa_data, pa_data_form}
use Rattle.krb_fields.specs.PrincipalName.{Name, name}
use Rattle.krb_fields.specs.Typed.{Typed, typed, typed_form}
use Rattle.krb_types.specs.Authenticator.{Authenticator, authenticator, authenticator_form}
use Rattle.krb_types.specs.PaEncTsEnc.{PaEncTsEnc, pa_enc_ts_enc, pa_enc_ts_enc_form}
use Rattle.krb_types.specs.KdcReq.{kdc_req_form, message}
use Rattle.krb_types.specs.ReqBody.{ReqBody, req_body, req_body_form}
use Rattle.krb_types.specs.Ticket.{ticket}
use Rattle.krb_types.specs.declared.kdc_req.Exchange.{Exchange}
use Rattle.client_core.specs.declared.asked.Asked.{Asked}
use Rattle.client_core.specs.Asked.{IsAskable}
use Rattle.client_core.specs.Presenting.{IsShortChecksum}
use Rattle.client_core.specs.Sessions.{IsPresentable}
use Rattle.client_core.specs.Requests.{body_of, request_of}

-- ---- facts of a test

pub both : (a b : Bool) → (a && b) ≡ true → (a ≡ true) × (b ≡ true)
both true b e = (refl, e)
both false b e = absurd cc

pub record AskableFacts (asked : Asked) : Type 0 where
  pub realm : length asked.realm ≤ 255
  pub client : IsWithinLimits asked.client.components
  pub service : IsWithinLimits asked.service.components
  pub etypes : length asked.etypes ≤ 64

pub askable_facts : (asked : Asked) → IsAskable asked → AskableFacts asked
askable_facts asked is =
    let few = both _ _ is in
    let service = both _ _ few.0 in
    let client = both _ _ service.0 in
    record {
      realm = (component_facts asked.realm client.0).1;
      client = client.1;
      service = service.1;
      etypes = leb-true (length asked.etypes) 64 few.1;
    }

pub presentable_realm : (credential : Credential) → IsPresentable credential → IsComponent credential.client.realm
presentable_realm credential is = (both _ _ (both _ _ (both _ _ is).0).0).1

-- ---- an absent field takes no space

time_most : (o : Option ℤ) → most_maybe {A = ℤ} (λ z. 15) o ≤ 27
time_most None = omega arith
time_most (Some z) = omega arith

number_most : (o : Option ℤ) → most_maybe {A = ℤ} (λ z. 8) o ≤ 20
number_most None = omega arith
number_most (Some z) = omega arith

-- a name within the limits, or none
abbrev pub IsShortName : Option Name → Type 0
IsShortName o = IfSome o (λ n. IsWithinLimits n.components)

name_at_most : (o : Option Name) → IsShortName o → most_maybe name.most o ≤ 5012
name_at_most None is = omega arith
name_at_most (Some n) is = omega (arith, name_most n is)

types_most : (etypes : List Etype) → most_items {A = ℤ} (λ z. 8) (map number etypes) ≤ 14 * length etypes
types_most [] = omega arith
types_most (e ∷ es) = omega (arith, types_most es)

-- ---- requests

pub body_short : (cname : Option Name) (asked : Asked) → IsAskable asked → IsShortName cname
    → req_body.most (body_of cname asked) ≤ 20000
unfolding req_body_form
body_short cname asked is short =
    let facts = askable_facts asked is in
    omega (
      arith,
      name_at_most cname short,
      facts.realm,
      name_most asked.service facts.service,
      time_most asked.from,
      time_most asked.rtime,
      types_most asked.etypes,
      facts.etypes,
    )

pub body_text_short : (body : ReqBody) → req_body.most body ≤ 20000 → length (req_body.text body) < 2 ^ 32
body_text_short body short = omega (arith, short, req_body.bounded body)

-- padata for which a request has room
abbrev pub AreShortData : Option (List PaData) → Type 0
AreShortData padata = most_maybe (list_of pa_data).most padata ≤ 40000000

pub no_data_short : AreShortData None
no_data_short = omega arith

pub data_short : (entry : PaData) (padata : List PaData) → length entry.padata_value ≤ 34000006 → padata ≡ entry ∷ []
    → AreShortData (Some padata)
unfolding pa_data_form
data_short entry padata short same =
    subst (λ (p : List PaData). AreShortData (Some p)) (sym same) (omega (arith, short))

pub request_short : (exchange : Exchange) (padata : Option (List PaData)) (body : ReqBody) → AreShortData padata
    → req_body.most body ≤ 20000 → length ((message exchange).text (request_of exchange padata body)) < 2 ^ 32
unfolding kdc_req_form
request_short exchange padata body few short =
    omega (arith, few, short, (message exchange).bounded (request_of exchange padata body))

-- ---- encrypted parts

pub sealed_most : (e : EncryptedData) → length (encrypted_data.text e) ≤ length e.cipher + 52
unfolding encrypted_data_form
sealed_most e = omega (arith, encrypted_data.bounded e, number_most e.kvno)

stamp_most : (x : PaEncTsEnc) → length (pa_enc_ts_enc.text x) ≤ 60
unfolding pa_enc_ts_enc_form
stamp_most x = by x.pausec (pa_enc_ts_enc.bounded x)
  where
    by : (o : Option ℕ) → length (pa_enc_ts_enc.text x) ≤ 15 + 12 + (most_maybe (λ n. 8) o + 0)
        → length (pa_enc_ts_enc.text x) ≤ 60
    by None le = omega (arith, le)
    by (Some n) le = omega (arith, le)

pub stamp_sealed_short : (part : PaEncTsEnc) (sealed : EncryptedData)
    → length sealed.cipher ≤ 46 + length (pa_enc_ts_enc.text part) → length (encrypted_data.text sealed) < 2 ^ 32
stamp_sealed_short part sealed short = omega (arith, short, stamp_most part, sealed_most sealed)

pub stamp_data_short : (part : PaEncTsEnc) (sealed : EncryptedData) (octets : List ℕ)
    → length sealed.cipher ≤ 46 + length (pa_enc_ts_enc.text part) → octets ≡ written encrypted_data sealed
    → length octets ≤ 1000
stamp_data_short part sealed octets short same =
    omega (arith, short, stamp_most part, sealed_most sealed, ap length same, tlv_short 48 (encrypted_data.text sealed))

-- ---- messages that present a ticket

checksum_most : (o : Option Typed) → IsShortChecksum o → most_maybe typed.most o ≤ 16777300
unfolding typed_form
checksum_most None short = omega arith
checksum_most (Some c) short = omega (arith, short)

-- a key's bytes, or none
abbrev pub IsShortKey : Option Typed → Type 0
IsShortKey o = IfSome o (λ k. length k.octets ≤ 32)

key_most : (o : Option Typed) → IsShortKey o → most_maybe typed.most o ≤ 100
unfolding typed_form
key_most None short = omega arith
key_most (Some k) short = omega (arith, short)

pub authenticator_short : (x : Authenticator) → IsComponent x.crealm → IsWithinLimits x.cname.components
    → IsShortChecksum x.cksum → IsShortKey x.subkey → x.authorization_data ≡ None
    → length (authenticator.text x) ≤ 16800000
unfolding authenticator_form
authenticator_short x realm client cksum subkey none =
    omega (
      arith,
      authenticator.bounded x,
      (component_facts x.crealm realm).1,
      name_most x.cname client,
      checksum_most x.cksum cksum,
      key_most x.subkey subkey,
      number_most x.seq_number,
      ap (most_maybe (list_of typed).most) none,
    )

pub presents_short : (x : ApReq) → length (ticket.text x.ticket) < 16777216 → length x.authenticator.cipher ≤ 16800046
    → length (ap_req.text x) ≤ 34000000
unfolding ap_req_form
presents_short x short sealed =
    omega (
      arith,
      short,
      sealed,
      (ap_req_of (measured ticket) (measured encrypted_data)).bounded x,
      sealed_most x.authenticator,
    )

pub presented_short : (x : ApReq) (octets : List ℕ) → length (ap_req.text x) ≤ 34000000 → octets ≡ written ap_req x
    → length octets ≤ 34000006
presented_short x octets short same = omega (arith, short, ap length same, tlv_short 110 (ap_req.text x))
