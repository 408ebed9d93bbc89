-- What the KDC tells a client about its keys (RFC 4120, sections 5.2.7.5 and 5.9.1).
use Rattle.std.specs.Prelude.{ℕ, ℤ, List, [], ◌∷◌, Some, None, map}
use Rattle.krb_elements.specs.Codec.{written, list_of}
use Rattle.krb_fields.specs.declared.numbers.TheConstants.{PA_ENC_TIMESTAMP, PA_ETYPE_INFO2}
use Rattle.krb_fields.specs.PaData.{PaData, pa_data}
use Rattle.krb_types.specs.EtypeInfo2Entry.{EtypeInfo2Entry, etype_info2_entry}

-- an encryption type, with the salt of the client's password
abbrev pub info_entry : List ℕ → ℤ → EtypeInfo2Entry
info_entry salt etype = record { etype = etype; salt = Some salt; s2kparams = None }

-- PA-ETYPE-INFO2 for these encryption types
abbrev pub etype_info2 : List ℕ → List ℤ → PaData
etype_info2 salt types =
    record {
      padata_type = PA_ETYPE_INFO2;
      padata_value = written (list_of etype_info2_entry) (map (info_entry salt) types);
    }

-- an empty PA-ENC-TIMESTAMP, which asks for one
abbrev pub timestamp_wanted : PaData
timestamp_wanted = record { padata_type = PA_ENC_TIMESTAMP; padata_value = [] }

-- the METHOD-DATA of KDC_ERR_PREAUTH_REQUIRED
abbrev pub method_data : List ℕ → List ℤ → List ℕ
method_data salt types = written (list_of pa_data) (etype_info2 salt types ∷ timestamp_wanted ∷ [])
