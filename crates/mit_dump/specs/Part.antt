-- Bytes in a dump, after the number of what they are and their length.
use Rattle.std.specs.Prelude.{◌≡◌, ℕ, List, length}
use Rattle.mit_dump.specs.Chain.{Chain}
use Rattle.mit_dump.specs.Fields.{Field, TakesNumber, TakesOctets}
use Rattle.mit_dump.specs.declared.part.Part.{Part}

-- a part at the front of fields, with the fields after it: the number, the length, the bytes
pub record TakesPart (fields : List Field) (part : Part) (rest : List Field) : Type 0 where
  pub behind_tag : List Field
  pub tag : TakesNumber fields part.tag behind_tag
  pub size : ℕ
  pub behind_size : List Field
  pub sized : TakesNumber behind_tag size behind_size
  pub octets : TakesOctets behind_size size part.octets rest

-- this many parts, one after another
abbrev pub TakesParts : List Field → ℕ → List Part → List Field → Type 0
TakesParts fields count parts rest = (length parts ≡ count) × Chain TakesPart fields parts rest
