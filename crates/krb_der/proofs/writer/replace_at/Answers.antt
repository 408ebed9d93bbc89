use Rattle.std.proofs.Common.{◌≡◌, ℕ, ◌+◌, ◌-◌, ◌<◌, List, [], ◌∷◌, ◌++◌, length, take, drop, get_or, sym, ap, ◌∙◌, arith}
use Rattle.std.specs.List.{insert}
use Rattle.std.proofs.lemmas.List.{append_assoc, length-take-le, take_more}
use Rattle.std.proofs.lemmas.List.Edits.{insert-append_right}
use Rattle.krb_der.proofs.writer.replace_at.Goals as goal

-- one more byte
inserted : (old octets : List ℕ) (at i : ℕ) → at < length old → i < length octets
    → insert (take at old ++ (take i octets ++ drop (at + 1) old)) (at + i) (get_or octets i 0)
    ≡ take at old ++ (take (i + 1) octets ++ drop (at + 1) old)
inserted old octets at i within fits =
    let x : ℕ = get_or octets i 0 in
    let front : List ℕ = take at old in
    let so_far : List ℕ = take i octets in
    let rest : List ℕ = drop (at + 1) old in
    let before : length front ≡ at = length-take-le at old (omega arith) in
    let put : length so_far ≡ i = length-take-le i octets (omega arith) in
    let behind : at + i - at ≡ i = omega arith in
    let here : i - i ≡ 0 = omega arith in
    insert-append_right front (so_far ++ rest) at (at + i) x before (omega arith)
    ∙ ap (λ (n : ℕ). front ++ insert (so_far ++ rest) n x) behind
    ∙ ap (λ (l : List ℕ). front ++ l)
    (insert-append_right so_far rest i i x put (omega arith) ∙ ap (λ (n : ℕ). so_far ++ insert rest n x) here
    ∙ sym (ap (λ (l : List ℕ). l ++ rest) (take_more octets i 0 fits) ∙ append_assoc so_far (x ∷ []) rest))

pub loop-i-preserved : goal.loop-i-preserved
loop-i-preserved c = record {
  text =
      c.in_ok-insert.ensures.items
      ∙ ap (λ (l : List ℕ). insert l (c.args.at + c.loop-i.i) (get_or c.args.octets.now c.loop-i.i 0))
      c.loop-i.invariant.text
      ∙ inserted c.args.out.now.items c.args.octets.now c.args.at c.loop-i.i c.requires.within (omega arith);
  room = omega (arith, c.insert.ensures.capacity, c.in_ok-insert.ensures.len);
}
