-- A copy of a KDC's key information is equal to it.
use Rattle.std.proofs.Common.{◌≡◌, ℕ, List, map, refl}
use Rattle.std.specs.Prelude.{option_map}
use Rattle.krb_elements.specs.CopyLaws.{map_all, option_all}
use Rattle.krb_types.specs.EtypeInfo2Entry.{EtypeInfo2Entry}

abbrev same_entry : EtypeInfo2Entry → EtypeInfo2Entry
same_entry x = record {
  etype = x.etype;
  salt = option_map (λ (octets : List ℕ). octets) x.salt;
  s2kparams = option_map (λ (octets : List ℕ). octets) x.s2kparams;
}

entry_copied : (x : EtypeInfo2Entry) → same_entry x ≡ x
entry_copied x =
    rw (
      option_all (λ (octets : List ℕ). octets) (λ octets. refl) x.salt,
      option_all (λ (octets : List ℕ). octets) (λ octets. refl) x.s2kparams,
    ) refl

pub info_copied : (info : List EtypeInfo2Entry) → map same_entry info ≡ info
info_copied info = map_all same_entry entry_copied info
