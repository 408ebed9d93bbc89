use Rattle.std.proofs.Common.{◌≡◌, ◌==◌, ◌<◌, ◌++◌, ◌∷◌, [], ℕ, Bool, true, false, List, length, length-append, sym, ap, ◌∙◌, refl, arith}
use Rattle.std.proofs.lemmas.Bool.Decides.{nat_tests}
use Rattle.std.proofs.lemmas.List.{append-nil}
use Rattle.krb_fields.specs.NameLimitsLaws.{component_facts, component_is}
use Rattle.krb_fields.specs.NameText.{octet_text, component_text}
use Rattle.krb_fields.proofs.TextLaws.{octet_text-nonempty, all_octets, none_spelled, too_many}
use Rattle.krb_fields.proofs.name_text.component_from_text.Goals as goal

some_left : (n : ℕ) (b : Bool) → b ≡ (n == 0) → b ≡ false → 0 < n
some_left n b e p = grind (arith, nat_tests)

none_left : (rest : List ℕ) (b : Bool) → b ≡ (length rest == 0) → b ≡ true → rest ≡ []
none_left [] b e p = refl
none_left (o ∷ rest) b e p = absurd (let zero_len : length (o ∷ rest) ≡ 0 = grind (arith, nat_tests) in omega (arith, zero_len))

shorter : (o : ℕ) (after rest : List ℕ) → octet_text o ++ after ≡ rest → length after < length rest
shorter o after rest e = omega (arith, octet_text-nonempty o, simp length-append at (ap length e))

pub returns-in_default-clause-read : goal.returns-in_default-clause-read
returns-in_default-clause-read c = λ octets is.
    let some = some_left _ _ c.is_empty.ensures c.loop-rest-test.true in
    absurd (none_spelled c.loop-rest.octets.items octets c.loop-rest.rest.now c.args.text.now c.loop-rest.invariant.0 is.1 (component_facts octets is.0).2 some c.in_default.ensures.none)

pub returns-then-len-eq-MAX_OCTETS-clause-read : goal.returns-then-len-eq-MAX_OCTETS-clause-read
returns-then-len-eq-MAX_OCTETS-clause-read c = λ octets is.
    let some = some_left _ _ c.is_empty.ensures c.loop-rest-test.true in
    let longer = too_many c.loop-rest.octets.items octets c.loop-rest.rest.now c.args.text.now c.loop-rest.invariant.0 is.1 some in
    let full : length c.loop-rest.octets.items ≡ 255 = omega (arith, c.loop-rest.octets.ok.0, c.len.ensures, c.if-len-eq-MAX_OCTETS.true) in
    absurd (omega (arith, longer, full, (component_facts octets is.0).1))

pub loop-rest-smaller : goal.loop-rest-smaller
loop-rest-smaller c = shorter c.in-Some.octet c.in-Some.after.now c.loop-rest.rest.now c.in-Some.ensures.found

pub returns-then-is_empty-clause-read : goal.returns-then-is_empty-clause-read
returns-then-is_empty-clause-read c = λ octets is.
    let none = none_left c.loop-rest.rest.now _ c.is_empty.ensures c.loop-rest-test.false in
    let same = all_octets c.loop-rest.octets.items octets c.loop-rest.rest.now c.args.text.now c.loop-rest.invariant.0 is.1 none in
    let empty = none_left c.loop-rest.octets.items true (sym c.if-is_empty.true ∙ c.is_empty-2.ensures ∙ ap (λ n. n == 0) c.loop-rest.octets.ok.0) refl in
    absurd (omega (arith, (component_facts octets is.0).0, ap length same, ap length empty))

pub returns-clause-ok : goal.returns-clause-ok
returns-clause-ok c =
    let none = none_left c.loop-rest.rest.now _ c.is_empty.ensures c.loop-rest-test.false in
    let some = some_left _ _ c.is_empty-2.ensures c.if-is_empty.false in
    let text : component_text c.loop-rest.octets.items ≡ c.args.text.now = sym (append-nil _) ∙ ap (λ r. component_text c.loop-rest.octets.items ++ r) (sym none) ∙ c.loop-rest.invariant.0 in
    rw c.new.ensures (component_is c.loop-rest.octets.items (omega (arith, some, c.loop-rest.octets.ok.0), omega (arith, c.loop-rest.invariant.1, c.loop-rest.octets.ok.0), c.loop-rest.invariant.2), text)

pub returns-clause-read : goal.returns-clause-read
returns-clause-read c = λ octets is.
    let none = none_left c.loop-rest.rest.now _ c.is_empty.ensures c.loop-rest-test.false in
    c.new.ensures ∙ sym (all_octets c.loop-rest.octets.items octets c.loop-rest.rest.now c.args.text.now c.loop-rest.invariant.0 is.1 none)
