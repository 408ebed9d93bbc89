-- A KDC's information about the types of a client's keys (RFC 4120, section 5.2.7.5).
use Rattle.std.specs.Prelude.{ℕ, ℤ, List, [], ◌∷◌, Option, Some, None, find, option_map}
use Rattle.std.specs.Option.{unwrap_or}
use Rattle.std.specs.Ordering.{int_eq}
use Rattle.krb_elements.specs.Codec.{list_of}
use Rattle.krb_elements.specs.Format.{whole}
use Rattle.krb_fields.specs.declared.numbers.TheConstants.{AS_REP, PA_ETYPE_INFO2}
use Rattle.krb_fields.specs.PaData.{PaData, pa_data}
use Rattle.krb_types.specs.EtypeInfo2Entry.{EtypeInfo2Entry, etype_info2_entry}
use Rattle.krb_types.specs.KdcRep.{KdcRep}
use Rattle.encrypted_data.specs.Parts.{ok_of}

-- the list that the bytes encode, or an empty one
abbrev pub info_in : List ℕ → List EtypeInfo2Entry
info_in octets = unwrap_or (ok_of (whole (list_of etype_info2_entry).at octets)) []

-- the value of the first PA-ETYPE-INFO2
abbrev pub first_info : Option (List PaData) → Option (List ℕ)
first_info None = None
first_info (Some padata) = option_map (λ p. p.padata_value) (find (λ p. int_eq p.padata_type PA_ETYPE_INFO2) padata)

-- ---- in an AS-REP

-- a key of this type has the default salt and the default parameters
abbrev pub default_info : ℤ → List EtypeInfo2Entry
default_info number = record { etype = number; salt = None; s2kparams = None } ∷ []

-- the information given, or else the default for the type that the reply is encrypted with
abbrev pub info_or_default : ℤ → Option (List ℕ) → List EtypeInfo2Entry
info_or_default number (Some octets) = info_in octets
info_or_default number None = default_info number

abbrev pub info_in_reply : KdcRep AS_REP → List EtypeInfo2Entry
info_in_reply reply = info_or_default reply.enc_part.etype (first_info reply.padata)

-- ---- in the e-data of a refusal

-- an empty list if there is no information
abbrev pub info_if : Option (List ℕ) → List EtypeInfo2Entry
info_if (Some octets) = info_in octets
info_if None = []

abbrev pub info_of_method_data : List ℕ → List EtypeInfo2Entry
info_of_method_data octets = info_if (first_info (ok_of (whole (list_of pa_data).at octets)))

abbrev pub info_of_refusal : Option (List ℕ) → List EtypeInfo2Entry
info_of_refusal (Some e_data) = info_of_method_data e_data
info_of_refusal None = []
