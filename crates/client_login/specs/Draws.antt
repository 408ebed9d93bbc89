-- What a client draws at random from its generator.
use Rattle.std.specs.Prelude.{◌≡◌, ◌≤◌, ℕ, zero, suc, ◌%◌, List}
use Rattle.std.specs.Int.{w32, from_be_bytes}
use Rattle.rand_core.specs.Stream.{Stream, fill_bytes}

-- four bytes as a number, the first the most significant, without its highest bit
abbrev pub drawn_nonce : Stream → ℕ
drawn_nonce random = from_be_bytes w32 (fill_bytes 4 random).0 % 2147483648

abbrev pub after_nonce : Stream → Stream
after_nonce random = (fill_bytes 4 random).1

abbrev pub drawn_confounder : Stream → List ℕ
drawn_confounder random = (fill_bytes 16 random).0

abbrev pub after_confounder : Stream → Stream
after_confounder random = (fill_bytes 16 random).1

abbrev pub after_confounders : ℕ → Stream → Stream
after_confounders zero random = random
after_confounders (suc n) random = after_confounders n (after_confounder random)

-- The generator after a call: at most two confounders were drawn, for two requests.
pub record HasDrawn (random after : Stream) : Type 0 where
  pub confounders : ℕ
  pub few : confounders ≤ 2
  pub later : after ≡ after_confounders confounders random
