use Rattle.std.proofs.Common.{◌≡◌, ◌≢◌, ◌<◌, ◌++◌, ◌∷◌, ℕ, List, false, sym, ap, ◌∙◌, IfSome, IfNone, Option, Some, None}
use Rattle.krb_fields.specs.NameText.{is_plain, digits_of, octet_text}
use Rattle.krb_fields.proofs.TextLaws.{octet_text-plain, octet_text-escaped, nothing_begins, after_backslash, none_begins}
use Rattle.krb_fields.proofs.name_text.split_octet.Goals as goal

module _ {A : Type 0} (now : A → List ℕ) where
  found_escaped : (r : Option (ℕ × A)) (text rest : List ℕ) → text ≡ 0x5C ∷ rest → IfSome r (λ s. (is_plain s.0 ≡ false) × (digits_of s.0 ++ now s.1 ≡ rest)) → IfSome r (λ s. octet_text s.0 ++ now s.1 ≡ text)
  found_escaped None text rest e h = tt
  found_escaped (Some s) text rest e h = ap (λ t. t ++ now s.1) (octet_text-escaped s.0 h.0) ∙ ap (λ t. 0x5C ∷ t) h.1 ∙ sym e

none_escaped : {A : Type 0} (r : Option A) (text rest : List ℕ) → text ≡ 0x5C ∷ rest → IfNone r ((o : ℕ) (after : List ℕ) → o < 256 → is_plain o ≡ false → digits_of o ++ after ≢ rest) → IfNone r ((o : ℕ) (after : List ℕ) → o < 256 → octet_text o ++ after ≢ text)
none_escaped None text rest e h = λ o after below same. let split = after_backslash o rest after (same ∙ e) in h o after below split.0 split.1
none_escaped (Some s) text rest e h = tt

pub returns-in_err-first-clause-none : goal.returns-in_err-first-clause-none
returns-in_err-first-clause-none c = rw c.from_residual.ensures (λ o rest below. nothing_begins c.args.text.now c.in_err-first.ensures.cases o rest)

pub returns-then-first-eq92-clause-found : goal.returns-then-first-eq92-clause-found
returns-then-first-eq92-clause-found c =
    found_escaped (λ rest. rest.now) _ _ _ (c.in_ok-first.ensures.cases.0 ∙ ap (λ o. o ∷ c.in_ok-first.rest.now) c.if-first-eq92.true) c.split_digits.ensures.found

pub returns-then-first-eq92-clause-none : goal.returns-then-first-eq92-clause-none
returns-then-first-eq92-clause-none c =
    none_escaped _ _ _ (c.in_ok-first.ensures.cases.0 ∙ ap (λ o. o ∷ c.in_ok-first.rest.now) c.if-first-eq92.true) c.split_digits.ensures.none

pub returns-then-is_plain-clause-found : goal.returns-then-is_plain-clause-found
returns-then-is_plain-clause-found c =
    ap (λ t. t ++ c.in_ok-first.rest.now) (octet_text-plain c.in_ok-first.first.now (sym c.is_plain.ensures ∙ c.if-is_plain.true)) ∙ sym c.in_ok-first.ensures.cases.0

pub returns-else-is_plain-clause-none : goal.returns-else-is_plain-clause-none
returns-else-is_plain-clause-none c = λ o rest below e.
    none_begins c.in_ok-first.first.now c.in_ok-first.rest.now c.if-first-eq92.false (sym c.is_plain.ensures ∙ c.if-is_plain.false) o rest (e ∙ c.in_ok-first.ensures.cases.0)
