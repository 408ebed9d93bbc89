use Rattle.std.proofs.Common.{◌≡◌, List, ℕ, refl, ◌∙◌}
use Rattle.std.specs.Int.{w32, to_be_bytes}
use Rattle.aes_cts.specs.SBox.{inverse_s_box}
use Rattle.aes_cts.proofs.WordLaws.{round_column, inverse_round_is}
use Rattle.aes_cts.proofs.words.inverse_round.Goals as goal

pub returns : goal.returns
returns c =
    let s : List ℕ = c.args.state.now in
    let k : List ℕ = c.args.round_key.now in
    let a : to_be_bytes w32 c.unmixed_column.result ≡ round_column 14 11 13 9 inverse_s_box 3 s k 0 =
    c.unmixed_column.ensures
    ∙ rw (c.to_be_bytes.ensures, c.to_be_bytes-2.ensures, c.to_be_bytes-3.ensures, c.to_be_bytes-4.ensures) refl in
    let b : to_be_bytes w32 c.unmixed_column-2.result ≡ round_column 14 11 13 9 inverse_s_box 3 s k 1 =
    c.unmixed_column-2.ensures
    ∙ rw (c.to_be_bytes.ensures, c.to_be_bytes-2.ensures, c.to_be_bytes-3.ensures, c.to_be_bytes-4.ensures) refl in
    let e : to_be_bytes w32 c.unmixed_column-3.result ≡ round_column 14 11 13 9 inverse_s_box 3 s k 2 =
    c.unmixed_column-3.ensures
    ∙ rw (c.to_be_bytes.ensures, c.to_be_bytes-2.ensures, c.to_be_bytes-3.ensures, c.to_be_bytes-4.ensures) refl in
    let d : to_be_bytes w32 c.unmixed_column-4.result ≡ round_column 14 11 13 9 inverse_s_box 3 s k 3 =
    c.unmixed_column-4.ensures
    ∙ rw (c.to_be_bytes.ensures, c.to_be_bytes-2.ensures, c.to_be_bytes-3.ensures, c.to_be_bytes-4.ensures) refl in
    inverse_round_is s k _ _ _ _ c.told-state c.requires a b e d
