use Rattle.std.proofs.Common.{ℕ, ◌-◌, ◌*◌, ◌/◌, List, ◌++◌, take, length, ap, ◌∙◌, arith}
use Rattle.aes_cts.specs.Cipher.{aes_inverse, IsBlock}
use Rattle.aes_cts.specs.Cts.{xor_blocks, cts, IsText}
use Rattle.aes_cts.proofs.Lists.{All-octets}
use Rattle.aes_cts.proofs.Permutations.{permutes_texts}
use Rattle.aes_cts.proofs.Decryption.{cts_inverse_one, cts_inverse_written}
use Rattle.aes_cts.proofs.key.AesKey.decrypt_text.Goals as goal

pub returns-then-count-eq0-clause-value : goal.returns-then-count-eq0-clause-value
returns-then-count-eq0-clause-value c =
    let key : List ℕ = c.args.self.now in
    c.copy_from_slice.ensures.after ∙ c.xor_blocks-block.ensures
    ∙ ap (λ (l : List ℕ). xor_blocks l c.args.iv.now)
    (c.decrypt_under.ensures.value ∙ ap (aes_inverse key) c.block_at.ensures.block)
    ∙ cts_inverse_one key c.args.iv.now c.args.text.now (omega arith)

pub returns-else-count-eq0-clause-value : goal.returns-else-count-eq0-clause-value
returns-else-count-eq0-clause-value c =
    let key : List ℕ = c.args.self.now in
    let text : List ℕ = c.args.text.now in
    let n : ℕ = (length text - 1) / 16 in
    cts_inverse_written key c.args.iv.now text c.write_end.new.text _ c.decrypt_under-mixed.result c.spliced-before.result n (omega arith) (omega arith)
    (c.decrypt_under-mixed.ensures.value ∙ ap (aes_inverse key) c.block_at-else-count-eq0.ensures.block)
    c.spliced-before.ensures
    (c.write_end.ensures ∙ ap (λ (l : List ℕ). take (16 * n - 16) text ++
    (c.spliced-before.result ++ take (length text - 16 * n) l)) c.xor_blocks.ensures)
    c.decrypt_blocks.ensures.front c.decrypt_blocks.ensures.rest

pub returns-then-count-eq0-clause-inverse : goal.returns-then-count-eq0-clause-inverse
returns-then-count-eq0-clause-inverse c =
    let key : List ℕ = c.args.self.now in
    let iv : IsBlock c.args.iv.now =
    record { size = c.told-iv; octets = All-octets c.args.iv.now (record { at = c.fits-iv }) } in
    let text : IsText c.args.text.now = record { least = c.requires.text; octets = c.block_at.ensures.octets } in
    ap (cts key c.args.iv.now) (returns-then-count-eq0-clause-value c)
    ∙ (permutes_texts key c.decrypt_under.ensures.permutes).given_back c.args.iv.now c.args.text.now iv text

pub returns-then-count-eq0-clause-permutes : goal.returns-then-count-eq0-clause-permutes
returns-then-count-eq0-clause-permutes c = permutes_texts c.args.self.now c.decrypt_under.ensures.permutes

pub returns-else-count-eq0-clause-inverse : goal.returns-else-count-eq0-clause-inverse
returns-else-count-eq0-clause-inverse c =
    let key : List ℕ = c.args.self.now in
    let iv : IsBlock c.args.iv.now =
    record { size = c.told-iv; octets = All-octets c.args.iv.now (record { at = c.fits-iv }) } in
    let text : IsText c.args.text.now =
    record { least = c.requires.text; octets = c.block_at-else-count-eq0.ensures.octets } in
    ap (cts key c.args.iv.now) (returns-else-count-eq0-clause-value c)
    ∙ (permutes_texts key c.decrypt_under-mixed.ensures.permutes).given_back c.args.iv.now c.args.text.now iv text

pub returns-else-count-eq0-clause-permutes : goal.returns-else-count-eq0-clause-permutes
returns-else-count-eq0-clause-permutes c = permutes_texts c.args.self.now c.decrypt_under-mixed.ensures.permutes
