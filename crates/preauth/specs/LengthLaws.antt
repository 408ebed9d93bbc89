-- What the KDC tells a client about its keys is short enough to encode.
use Rattle.std.proofs.Common.{◌≡◌, ℕ, ℤ, ◌+◌, ◌*◌, ◌≤◌, List, [], ◌∷◌, length, map, sym, subst, arith}
use Rattle.krb_der.specs.Spelling.{tlv}
use Rattle.krb_elements.specs.Codec.{list_of, written}
use Rattle.krb_elements.specs.ShortTextLaws.{tlv_short}
use Rattle.krb_elements.specs.TextLengthLaws.{most_items}
use Rattle.krb_fields.specs.PaData.{PaData, pa_data, pa_data_form}
use Rattle.krb_types.specs.EtypeInfo2Entry.{EtypeInfo2Entry, etype_info2_entry, etype_info2_entry_form}
use Rattle.preauth.specs.MethodData.{info_entry, timestamp_wanted}

-- the encoding is longer than its contents by a tag and a length
written_short : (tag most : ℕ) (contents octets : List ℕ) → length contents ≤ most → octets ≡ tlv tag contents
    → length octets ≤ most + 6
written_short tag most contents octets short same =
    subst (λ (l : List ℕ). length l ≤ most + 6) (sym same) (omega (arith, short, tlv_short tag contents))

entries_most : (salt : List ℕ) (types : List ℤ) → length salt ≤ 8192
    → most_items etype_info2_entry.most (map (info_entry salt) types) ≤ 8230 * length types
unfolding etype_info2_entry_form
entries_most salt [] short = omega arith
entries_most salt (t ∷ ts) short = omega (arith, entries_most salt ts short)

-- entries with a salt and at most four encryption types
pub entries_short : (salt : List ℕ) (types : List ℤ) (entries : List EtypeInfo2Entry) → length salt ≤ 8192
    → length types ≤ 4 → entries ≡ map (info_entry salt) types
    → length ((list_of etype_info2_entry).text entries) ≤ 32920
entries_short salt types entries short few same =
    subst (λ (es : List EtypeInfo2Entry). length ((list_of etype_info2_entry).text es) ≤ 32920) (sym same)
    (omega (arith, entries_most salt types short, (list_of etype_info2_entry).bounded (map (info_entry salt) types)))

pub info_short : (salt : List ℕ) (types : List ℤ) (entries : List EtypeInfo2Entry) (octets : List ℕ)
    → length salt ≤ 8192 → length types ≤ 4 → entries ≡ map (info_entry salt) types
    → octets ≡ written (list_of etype_info2_entry) entries → length octets ≤ 32926
info_short salt types entries octets short few same =
    written_short 48 32920 ((list_of etype_info2_entry).text entries) octets
    (entries_short salt types entries short few same)

-- a short PA-ETYPE-INFO2 and an empty PA-ENC-TIMESTAMP
pub methods_short : (info : PaData) (methods : List PaData) → length info.padata_value ≤ 32926
    → methods ≡ info ∷ timestamp_wanted ∷ [] → length ((list_of pa_data).text methods) ≤ 33100
unfolding pa_data_form
methods_short info methods short same =
    subst (λ (ms : List PaData). length ((list_of pa_data).text ms) ≤ 33100) (sym same)
    (omega (arith, short, (list_of pa_data).bounded (info ∷ timestamp_wanted ∷ [])))

pub method_data_short : (info : PaData) (methods : List PaData) (octets : List ℕ) → length info.padata_value ≤ 32926
    → methods ≡ info ∷ timestamp_wanted ∷ []
    → octets ≡ written (list_of pa_data) methods → length octets ≤ 33106
method_data_short info methods octets short same =
    written_short 48 33100 ((list_of pa_data).text methods) octets (methods_short info methods short same)
