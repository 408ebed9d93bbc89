-- A principal in a dump.
use Rattle.std.specs.Prelude.{◌≡◌, ◌++◌, ℕ, List, [], ◌∷◌, length}
use Rattle.krb_fields.specs.Name.{Components}
use Rattle.mit_dump.specs.Chain.{Chain}
use Rattle.mit_dump.specs.Fields.{Field, IsOctets, TakesNumber}
use Rattle.mit_dump.specs.NameText.{full_text}
use Rattle.mit_dump.specs.Part.{TakesParts}
use Rattle.mit_dump.specs.StoredKey.{TakesKeys}
use Rattle.mit_dump.specs.declared.principal.Counts.{Counts}
use Rattle.mit_dump.specs.declared.principal.DumpedPrincipal.{DumpedPrincipal}
use Rattle.mit_dump.specs.declared.principal.Numbers.{Numbers}

-- one number after another
abbrev pub TakesAll : List Field → List ℕ → List Field → Type 0
TakesAll fields numbers rest = Chain TakesNumber fields numbers rest

-- 38, and four counts: of the bytes of the name, of tagged data, of keys, and of the bytes at the end
abbrev pub TakesCounts : List Field → Counts → List Field → Type 0
TakesCounts fields c rest = TakesAll fields (38 ∷ c.name ∷ c.tagged ∷ c.keys ∷ c.extra ∷ []) rest

-- the name with the realm, of this many bytes
abbrev pub TakesName : List Field → ℕ → Components → List ℕ → List Field → Type 0
TakesName fields size name realm rest = (fields ≡ full_text name realm ∷ rest) × (length (full_text name realm) ≡ size)

-- attributes, lifetimes, expirations
abbrev pub TakesNumbers : List Field → Numbers → List Field → Type 0
TakesNumbers fields n rest =
    TakesAll fields (n.attributes ∷ n.max_life ∷ n.max_renewable_life ∷ n.expiration ∷ n.pw_expiration ∷ []) rest

-- the last successful login, the last failed one, and the number of those that failed
abbrev pub TakesLogins : List Field → List Field → Type 0
TakesLogins fields rest = (succeeded failed count : ℕ) × TakesAll fields (succeeded ∷ failed ∷ count ∷ []) rest

-- the last field: this many bytes, and a semicolon
abbrev pub IsEnd : List Field → ℕ → Type 0
IsEnd fields size =
    (field : Field) × (octets : List ℕ) × (fields ≡ (field ++ 0x3B ∷ []) ∷ []) × IsOctets size field octets

-- the fields of a principal after the word `princ`
pub record IsPrincipal (fields : List Field) (p : DumpedPrincipal) : Type 0 where
  pub counts : Counts
  pub behind_counts : List Field
  pub counted : TakesCounts fields counts behind_counts
  pub behind_name : List Field
  pub named : TakesName behind_counts counts.name p.name.components p.realm behind_name
  pub behind_numbers : List Field
  pub numbers : TakesNumbers behind_name p.numbers behind_numbers
  pub behind_logins : List Field
  pub logins : TakesLogins behind_numbers behind_logins
  pub behind_tagged : List Field
  pub tagged : TakesParts behind_logins counts.tagged p.tagged.items behind_tagged
  pub end : List Field
  pub keys : TakesKeys behind_tagged counts.keys p.keys.items end
  pub ended : IsEnd end counts.extra
