use Rattle.std.proofs.Common.{ℕ, List, ◌++◌, length, drop, replicate, ap, ◌∙◌}
use Rattle.std.proofs.lemmas.List.{drop-replicate}
use Rattle.prf_kdf.proofs.hmac.padded_block.Goals as goal

pub returns : goal.returns
returns c =
    ap (λ (l : List ℕ). l ++ drop (length c.args.octets.now) (replicate {A = ℕ} 128 0)) c.copy_from_slice.ensures.after
    ∙ ap (λ (l : List ℕ). c.args.octets.now ++ l) (drop-replicate {X = ℕ} (length c.args.octets.now) 128 0)
