-- A value whose tag was written before its contents, with one byte reserved for its length.
use Rattle.std.proofs.Common.{◌≡◌, ℕ, ◌+◌, ◌≤◌, List, [], ◌∷◌, ◌++◌, take, drop, length, sym, ap, ◌∙◌, arith}
use Rattle.std.specs.Prelude.{Result, Ok, Err, OnOk}
use Rattle.std.proofs.lemmas.List.{append_assoc, length-append, take_at, drop_at}
use Rattle.krb_der.specs.Spelling.{length_octets, tlv}

-- the value that was begun at this place gets its length
unfoldable pub ended : ℕ → List ℕ → List ℕ
ended start written =
    take (start + 1) written ++ (length_octets (length (drop (start + 2) written)) ++ drop (start + 2) written)

pub ended_is : (before contents : List ℕ) (tag : ℕ)
    → ended (length before) ((before ++ tag ∷ 0 ∷ []) ++ contents) ≡ before ++ tlv tag contents
unfolding ended tlv
ended_is before contents tag =
    let written : List ℕ = (before ++ tag ∷ 0 ∷ []) ++ contents in
    let tagged : List ℕ = before ++ tag ∷ [] in
    let parts : written ≡ tagged ++ 0 ∷ contents =
    append_assoc before (tag ∷ 0 ∷ []) contents ∙ sym (append_assoc before (tag ∷ []) (0 ∷ contents)) in
    let one : length tagged ≡ length before + 1 = omega (arith, length-append before (tag ∷ [])) in
    let two : length (before ++ tag ∷ 0 ∷ []) ≡ length before + 2 =
    omega (arith, length-append before (tag ∷ 0 ∷ [])) in
    let front : take (length before + 1) written ≡ tagged =
    ap (take (length before + 1)) parts ∙ take_at tagged (0 ∷ contents) (length before + 1) one in
    let rest : drop (length before + 2) written ≡ contents =
    drop_at (before ++ tag ∷ 0 ∷ []) contents (length before + 2) two in
    ap (λ (l : List ℕ). l ++ (length_octets (length (drop (length before + 2) written))
    ++ drop (length before + 2) written)) front
    ∙ ap (λ (l : List ℕ). tagged ++ (length_octets (length l) ++ l)) rest
    ∙ append_assoc before (tag ∷ []) (length_octets (length contents) ++ contents)

-- ---- begun, written and ended

pub ended_value : {A E : Type 0} (r : Result A E) (new written begun before contents : List ℕ) (start tag : ℕ)
    → start ≡ length before → begun ≡ before ++ tag ∷ 0 ∷ [] → written ≡ begun ++ contents
    → OnOk r (new ≡ ended start written) → OnOk r (new ≡ before ++ tlv tag contents)
ended_value (Ok x) new written begun before contents start tag hs hb hw is =
    is ∙ ap (λ (n : ℕ). ended n written) hs
    ∙ ap (ended (length before)) (hw ∙ ap (λ (l : List ℕ). l ++ contents) hb) ∙ ended_is before contents tag
ended_value (Err e) new written begun before contents start tag hs hb hw is = is

pub begun_least : (written begun before contents : List ℕ) (start tag : ℕ) → start ≡ length before
    → begun ≡ before ++ tag ∷ 0 ∷ [] → written ≡ begun ++ contents → start + 2 ≤ length written
begun_least written begun before contents start tag hs hb hw =
    omega (arith, ap length hw, ap length hb, length-append begun contents, length-append before (tag ∷ 0 ∷ []))

pub begun_rest : (written begun before contents : List ℕ) (start tag : ℕ) → start ≡ length before
    → begun ≡ before ++ tag ∷ 0 ∷ [] → written ≡ begun ++ contents → drop (start + 2) written ≡ contents
begun_rest written begun before contents start tag hs hb hw =
    let size : length begun ≡ start + 2 = omega (arith, ap length hb, length-append before (tag ∷ 0 ∷ [])) in
    ap (drop (start + 2)) hw ∙ drop_at begun contents (start + 2) size
