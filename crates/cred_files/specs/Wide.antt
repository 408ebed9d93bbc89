-- Numbers of eight bytes, big-endian. No keytab and no credential cache has one.
use Rattle.std.specs.Prelude.{ℕ, ℤ, List, Option, Some}
use Rattle.std.specs.Int.{w64, from_be_bytes, cast_signed}
use Rattle.cred_files.specs.Form.{◌>>=◌, part}

abbrev pub word64 : List ℕ → Option (ℕ × List ℕ)
word64 bytes = part 8 bytes >>= λ p. Some (from_be_bytes w64 p.0, p.1)

-- in two's complement
abbrev pub signed64 : List ℕ → Option (ℤ × List ℕ)
signed64 bytes = part 8 bytes >>= λ p. Some (cast_signed w64 (from_be_bytes w64 p.0), p.1)
