-- A value in a tag [APPLICATION n] of its own.
use Rattle.std.specs.Prelude.{ℕ, Some, bit_and, bit_or}
use Rattle.krb_elements.specs.Codec.{Codec, in_tag}

abbrev pub under : {X : Type 0} → ℕ → Codec X → Codec X
under n = in_tag (Some (bit_or 96 (bit_and n 31)))
