-- The keys of a principal in a dump.
use Rattle.std.specs.Prelude.{◌≡◌, ℕ, List, length, Option, Some, None}
use Rattle.mit_dump.specs.Chain.{Chain}
use Rattle.mit_dump.specs.Fields.{Field, TakesNumber}
use Rattle.mit_dump.specs.Part.{TakesPart}
use Rattle.mit_dump.specs.declared.part.Part.{Part}
use Rattle.mit_dump.specs.declared.stored_key.StoredKey.{StoredKey}

-- the salt of a key that has this many parts, at the front of fields, with the fields after it
abbrev pub TakesSalt : List Field → ℕ → Option Part → List Field → Type 0
TakesSalt fields parts None rest = (parts ≡ 1) × (fields ≡ rest)
TakesSalt fields parts (Some salt) rest = (parts ≡ 2) × TakesPart fields salt rest

-- a key at the front of fields, with the fields after it: the number of its parts, its version, the key, the salt
pub record TakesKey (fields : List Field) (k : StoredKey) (rest : List Field) : Type 0 where
  pub parts : ℕ
  pub behind_parts : List Field
  pub counted : TakesNumber fields parts behind_parts
  pub behind_version : List Field
  pub version : TakesNumber behind_parts k.version behind_version
  pub behind_key : List Field
  pub key : TakesPart behind_version k.key behind_key
  pub salt : TakesSalt behind_key parts k.salt rest

-- this many keys, one after another
abbrev pub TakesKeys : List Field → ℕ → List StoredKey → List Field → Type 0
TakesKeys fields count keys rest = (length keys ≡ count) × Chain TakesKey fields keys rest
