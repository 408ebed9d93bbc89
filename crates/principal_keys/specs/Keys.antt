-- Keys made from a password or a seed.
use Rattle.std.specs.Prelude.{ℕ, List, [], ◌∷◌, take}
use Rattle.enctypes.specs.declared.etype.Etype.{Etype}
use Rattle.enctypes.specs.Derivation.{string_key}
use Rattle.enctypes.specs.Etype.{default_count, key_len}
use Rattle.enctypes.specs.Key.{ProtocolKey}
use Rattle.rand_chacha.specs.ChaCha.{next_word, of_seed}
use Rattle.rand_core.specs.Steps.{steps_u32, stream_of}
use Rattle.rand_core.specs.Stream.{Stream, fill_bytes}

-- the key for a password and a salt
abbrev pub password_key : List ℕ → List ℕ → Etype → ProtocolKey
password_key pass salt etype = record { etype = etype; bytes = string_key etype pass salt (default_count etype) }

-- a random key: the first of 32 bytes from a generator
abbrev pub drawn_key : Stream → Etype → ProtocolKey
drawn_key random etype = record { etype = etype; bytes = take (key_len etype) (fill_bytes 32 random).0 }

-- a key of each encryption type, drawn in order
abbrev pub drawn_keys : Stream → List Etype → List ProtocolKey
drawn_keys random [] = []
drawn_keys random (etype ∷ etypes) = drawn_key random etype ∷ drawn_keys (fill_bytes 32 random).1 etypes

-- the output of ChaCha20, with its ten double rounds, for a seed of 32 bytes
abbrev pub seeded : List ℕ → Stream
seeded seed = stream_of (steps_u32 (next_word 10)) (of_seed seed)
