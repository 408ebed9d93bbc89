-- What a request's PA-ENC-TIMESTAMP shows (RFC 4120, section 5.2.7.2).
use Rattle.std.specs.Prelude.{ℕ, ℤ, ◌-ℤ◌, Bool, nat_lt, unsigned_abs, if◌then◌else◌, List, Option, Some, None}
use Rattle.std.specs.Prelude.{option_map, find}
use Rattle.std.specs.Ordering.{int_eq}
use Rattle.krb_elements.specs.Format.{whole}
use Rattle.krb_fields.specs.declared.numbers.TheConstants.{PA_ENC_TIMESTAMP}
use Rattle.krb_fields.specs.PaData.{PaData}
use Rattle.krb_fields.specs.Skew.{skew}
use Rattle.krb_fields.specs.EncryptedData.{EncryptedData, encrypted_data}
use Rattle.krb_types.specs.PaEncTsEnc.{PaEncTsEnc, pa_enc_ts_enc}
use Rattle.enctypes.specs.KeyUsage.{usage_number}
use Rattle.enctypes.specs.declared.key.Key.{Key}
use Rattle.enctypes.specs.declared.key_usage.KeyUsage.TheVariants.{PaEncTimestamp}
use Rattle.encrypted_data.specs.Parts.{ok_of, opened_as}
use Rattle.principal_rows.specs.declared.row.Row.{Row}
use Rattle.principal_rows.specs.Versions.{current}
use Rattle.preauth.specs.declared.timestamp.Outcome.{Outcome}
use Rattle.preauth.specs.declared.timestamp.Outcome.TheVariants.{Absent, Bad, Skewed, Good}
use Rattle.preauth.specs.Keys.{key_numbered}

-- the value of the first padata of this type
abbrev pub first_of : ℤ → Option (List PaData) → Option (List ℕ)
first_of number None = None
first_of number (Some padata) = option_map (λ p. p.padata_value) (find (λ p. int_eq p.padata_type number) padata)

-- the EncryptedData that the bytes encode
abbrev pub encrypted_in : List ℕ → Option EncryptedData
encrypted_in octets = ok_of (whole encrypted_data.at octets)

-- the timestamp, decrypted with the key
abbrev pub opened_by : Option Key → List ℕ → Option PaEncTsEnc
opened_by None cipher = None
opened_by (Some key) cipher = opened_as pa_enc_ts_enc key.etype key.bytes (usage_number PaEncTimestamp) cipher

-- the timestamp, decrypted with the key of its encryption type; its kvno is ignored
abbrev pub opened_of : List Key → Option EncryptedData → Option PaEncTsEnc
opened_of keys None = None
opened_of keys (Some sealed) = opened_by (key_numbered keys sealed.etype) sealed.cipher

abbrev pub time_of : Option PaEncTsEnc → Option ℤ
time_of opened = option_map (λ part. part.patimestamp) opened

-- further from now than the clock skew
abbrev pub is_skewed : ℤ → ℤ → Bool
is_skewed now time = nat_lt skew (unsigned_abs (time -ℤ now))

-- what the decrypted time shows, if there is one
abbrev pub judged : ℤ → Option ℤ → Outcome
judged now None = Bad
judged now (Some time) = if is_skewed now time then Skewed else Good

-- what the value of a PA-ENC-TIMESTAMP shows with these keys, if there is one
abbrev pub outcome_of : List Key → ℤ → Option (List ℕ) → Outcome
outcome_of keys now None = Absent
outcome_of keys now (Some value) = judged now (time_of (opened_of keys (encrypted_in value)))

-- the first PA-ENC-TIMESTAMP and the client's current keys count
abbrev pub outcome : Row → ℤ → Option (List PaData) → Outcome
outcome client now padata = outcome_of (current client.versions).keys now (first_of PA_ENC_TIMESTAMP padata)
