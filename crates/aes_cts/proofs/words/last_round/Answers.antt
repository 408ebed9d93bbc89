use Rattle.std.proofs.Common.{◌≡◌, List, ℕ, refl, ◌∙◌}
use Rattle.std.specs.Int.{w32, to_be_bytes}
use Rattle.aes_cts.specs.SBox.{s_box}
use Rattle.aes_cts.proofs.WordLaws.{last_column, last_round_is}
use Rattle.aes_cts.proofs.words.last_round.Goals as goal

pub returns : goal.returns
returns c =
    let s : List ℕ = c.args.state.now in
    let k : List ℕ = c.args.round_key.now in
    let a : to_be_bytes w32 c.substituted_column.result ≡ last_column s_box 1 s k 0 =
    c.substituted_column.ensures
    ∙ rw (c.to_be_bytes.ensures, c.to_be_bytes-2.ensures, c.to_be_bytes-3.ensures, c.to_be_bytes-4.ensures) refl in
    let b : to_be_bytes w32 c.substituted_column-2.result ≡ last_column s_box 1 s k 1 =
    c.substituted_column-2.ensures
    ∙ rw (c.to_be_bytes.ensures, c.to_be_bytes-2.ensures, c.to_be_bytes-3.ensures, c.to_be_bytes-4.ensures) refl in
    let e : to_be_bytes w32 c.substituted_column-3.result ≡ last_column s_box 1 s k 2 =
    c.substituted_column-3.ensures
    ∙ rw (c.to_be_bytes.ensures, c.to_be_bytes-2.ensures, c.to_be_bytes-3.ensures, c.to_be_bytes-4.ensures) refl in
    let d : to_be_bytes w32 c.substituted_column-4.result ≡ last_column s_box 1 s k 3 =
    c.substituted_column-4.ensures
    ∙ rw (c.to_be_bytes.ensures, c.to_be_bytes-2.ensures, c.to_be_bytes-3.ensures, c.to_be_bytes-4.ensures) refl in
    last_round_is s k _ _ _ _ c.told-state c.requires a b e d
