use Rattle.std.proofs.Common.{◌≡◌, ℕ, ◌+◌, ◌*◌, List, ◌++◌, take, drop, sym, ap, ◌∙◌, arith}
use Rattle.std.proofs.Math.Seq.{take-add}
use Rattle.std.proofs.lemmas.List.{length-set, take_all}
use Rattle.aes_cts.specs.Words.{octets}
use Rattle.aes_cts.proofs.ExpandedWords.{octets-more}
use Rattle.aes_cts.proofs.key_expansion.key_words.Goals as goal

pub loop-i-preserved : goal.loop-i-preserved
loop-i-preserved g c =
    let i : ℕ = c.loop-i.i in
    let key : List ℕ = c.args.key.now in
    let next : 4 * (i + 1) ≡ 4 * i + 4 = omega arith in
    record {
      size = length-set c.loop-i.words i c.word_at.result ∙ c.loop-i.invariant.size;
      done = octets-more c.loop-i.words i c.word_at.result (omega (arith, c.loop-i.invariant.size))
          ∙ ap (λ (l : List ℕ). take (4 * i) (octets c.loop-i.words) ++ l) c.word_at.ensures
          ∙ ap (λ (l : List ℕ). l ++ take 4 (drop (4 * i) key)) c.loop-i.invariant.done
          ∙ sym (ap (λ (n : ℕ). take n key) next ∙ take-add (4 * i) 4 key);
    }

pub returns : goal.returns
returns g c =
    let all : 4 * g.row.N ≡ 4 * c.loop-i.i = omega arith in
    ap (λ (n : ℕ). take n (octets c.loop-i.words)) all ∙ c.loop-i.invariant.done ∙ take_all (4 * c.loop-i.i) c.args.key.now (omega arith)
