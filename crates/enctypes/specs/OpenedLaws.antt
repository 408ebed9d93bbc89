-- The results of `opened`, and that it returns what was sealed.
use Rattle.std.proofs.Common.{◌≡◌, ◌⊎◌, inl, inr, ℕ, Bool, true, false, ◌+◌, ◌≤◌, ◌<◌, List, ◌++◌, All, drop, length}
use Rattle.std.proofs.Common.{Option, Some, None, refl, subst, ap, ◌∙◌, arith}
use Rattle.std.specs.Prelude.{nat_le}
use Rattle.std.specs.Bool.{Decides}
use Rattle.std.specs.Str.{bytes_eq}
use Rattle.std.proofs.lemmas.Bool.{cases_Bool}
use Rattle.std.proofs.lemmas.Bool.Decides.{Decides-and, Decides-like, nat_tests}
use Rattle.std.proofs.lemmas.List.{drop_at}
use Rattle.std.proofs.lemmas.Slice.Eq.{bytes_eq-Decides}
use Rattle.aes_cts.specs.Cipher.{IsBlock}
use Rattle.aes_cts.specs.Cts.{PermutesTexts}
use Rattle.enctypes.specs.declared.etype.Etype.{Etype}
use Rattle.enctypes.specs.Etype.{mac_len}
use Rattle.enctypes.specs.Derivation.{ke}
use Rattle.enctypes.specs.Sealing.{ending, deciphered, expected_ending, is_sealed, opened, seal}
use Rattle.enctypes.specs.Sealing.{Opens, OpensNothing, OpensAtMostOne, OpensWhatWasSealed}
use Rattle.enctypes.specs.DerivedOctets.{ke_permutes}
use Rattle.enctypes.specs.Sealed.{IsSealed, HasParts, opens-parts, opens-from_sealed}

Decides-nat_le : (a b : ℕ) → Decides (nat_le a b) (a ≤ b)
Decides-nat_le a b = (λ h. grind (arith, nat_tests), λ h. grind (arith, nat_tests))

is_sealed-Decides : (etype : Etype) (key : List ℕ) (usage : ℕ) (cipher : List ℕ)
    → Decides (is_sealed etype key usage cipher) (IsSealed etype key usage cipher)
unfolding is_sealed
is_sealed-Decides etype key usage cipher =
    let room : Bool = nat_le (16 + mac_len etype) (length cipher) in
    let ends : Bool = bytes_eq (ending etype cipher) (expected_ending etype key usage cipher) in
    Decides-like _ (λ p. record { room = p.0; ends = p.1 }) (λ s. (s.room, s.ends))
    (Decides-and room ends (Decides-nat_le (16 + mac_len etype) (length cipher))
    (bytes_eq-Decides (ending etype cipher) (expected_ending etype key usage cipher)))

pub opened-some : (etype : Etype) (key : List ℕ) (usage : ℕ) (cipher : List ℕ) → IsSealed etype key usage cipher
    → opened etype key usage cipher ≡ Some (drop 16 (deciphered etype key usage cipher))
unfolding opened
opened-some etype key usage cipher s =
    let passes : is_sealed etype key usage cipher ≡ true = (is_sealed-Decides etype key usage cipher).1 s in
    rw passes refl

-- if the test fails, nothing is opened
opened_false : (etype : Etype) (key : List ℕ) (usage : ℕ) (cipher : List ℕ) → is_sealed etype key usage cipher ≡ false
    → opened etype key usage cipher ≡ None
unfolding opened
opened_false etype key usage cipher fails = rw fails refl

-- either the cipher passes the test, or nothing is opened
opened-cases : (etype : Etype) (key : List ℕ) (usage : ℕ) (cipher : List ℕ)
    → IsSealed etype key usage cipher ⊎ (opened etype key usage cipher ≡ None)
opened-cases etype key usage cipher = elim (cases_Bool (is_sealed etype key usage cipher)) [
  | inl passes ↦ inl ((is_sealed-Decides etype key usage cipher).0 passes)
  | inr fails ↦ inr (opened_false etype key usage cipher fails)
]

pub opened-none : (etype : Etype) (key : List ℕ) (usage : ℕ) (cipher : List ℕ) → (IsSealed etype key usage cipher → ⊥)
    → opened etype key usage cipher ≡ None
opened-none etype key usage cipher differs = elim (opened-cases etype key usage cipher) [
  | inl s ↦ absurd (differs s)
  | inr none ↦ none
]

not_both : (o : Option (List ℕ)) (text : List ℕ) → o ≡ None → o ≡ Some text → ⊥
not_both o text none some = cc

same_some : (o : Option (List ℕ)) (x y : List ℕ) → o ≡ Some x → o ≡ Some y → x ≡ y
same_some o x y h k = cc

opened-from_opens : (etype : Etype) (key : List ℕ) (usage : ℕ) (cipher text : List ℕ)
    → PermutesTexts (ke etype key usage)
    → Opens etype key usage cipher text → opened etype key usage cipher ≡ Some text
opened-from_opens etype key usage cipher text law o =
    let parts : HasParts etype key usage cipher (o.confounder ++ text) =
    opens-parts etype key usage cipher text law o in
    opened-some etype key usage cipher parts.is_sealed
    ∙ ap (λ (plain : List ℕ). Some (drop 16 plain)) parts.plain_is
    ∙ ap (λ (l : List ℕ). Some l) (drop_at o.confounder text 16 o.is_block.size)

opens-from_opened : (etype : Etype) (key : List ℕ) (usage : ℕ) (cipher text : List ℕ)
    → PermutesTexts (ke etype key usage)
    → All (λ b. b < 256) cipher → opened etype key usage cipher ≡ Some text → Opens etype key usage cipher text
opens-from_opened etype key usage cipher text law octets h = elim (opened-cases etype key usage cipher) [
  | inl s ↦
      let some = opened-some etype key usage cipher s in
      subst (λ (l : List ℕ). Opens etype key usage cipher l) (same_some (opened etype key usage cipher) _ text some h)
      (opens-from_sealed etype key usage cipher law octets s)
  | inr none ↦ absurd (not_both (opened etype key usage cipher) text none h)
]

opens_nothing-from_opened : (etype : Etype) (key : List ℕ) (usage : ℕ) (cipher : List ℕ)
    → PermutesTexts (ke etype key usage)
    → opened etype key usage cipher ≡ None → OpensNothing etype key usage cipher
unfolding OpensNothing
opens_nothing-from_opened etype key usage cipher law h text o =
    not_both (opened etype key usage cipher) text h (opened-from_opens etype key usage cipher text law o)

opened-from_opens_nothing : (etype : Etype) (key : List ℕ) (usage : ℕ) (cipher : List ℕ)
    → PermutesTexts (ke etype key usage)
    → All (λ b. b < 256) cipher → OpensNothing etype key usage cipher → opened etype key usage cipher ≡ None
unfolding OpensNothing
opened-from_opens_nothing etype key usage cipher law octets nothing =
    opened-none etype key usage cipher (λ s. nothing _ (opens-from_sealed etype key usage cipher law octets s))

opens-seal : (etype : Etype) (key : List ℕ) (usage : ℕ) (confounder text : List ℕ) → IsBlock confounder
    → All (λ b. b < 256) text → Opens etype key usage (seal etype key usage confounder text) text
opens-seal etype key usage confounder text block octets =
    record { confounder = confounder; is_block = block; octets = octets; sealed = refl }

-- if the key consists of bytes, a cipher opens to what was sealed to it, and to nothing else
pub opens_what_was_sealed : (etype : Etype) (key : List ℕ) (usage : ℕ) → All (λ b. b < 256) key
    → OpensWhatWasSealed etype key usage
opens_what_was_sealed etype key usage octets =
    let law : PermutesTexts (ke etype key usage) = ke_permutes etype key usage octets in
    record {
      sealed = λ confounder text block text_octets. opened-from_opens etype key usage _ text law
          (opens-seal etype key usage confounder text block text_octets);
      found = λ cipher text o. opened-from_opens etype key usage cipher text law o;
      some = λ cipher text cipher_octets. (
        (λ h. opens-from_opened etype key usage cipher text law cipher_octets h),
        (λ o. opened-from_opens etype key usage cipher text law o),
      );
      none = λ cipher cipher_octets. (
        (λ h. opens_nothing-from_opened etype key usage cipher law h),
        (λ nothing. opened-from_opens_nothing etype key usage cipher law cipher_octets nothing),
      );
    }

pub opens_at_most_one : (etype : Etype) (key : List ℕ) (usage : ℕ) (cipher : List ℕ) → All (λ b. b < 256) key
    → OpensAtMostOne etype key usage cipher
unfolding OpensAtMostOne
opens_at_most_one etype key usage cipher octets text other o p =
    let law : OpensWhatWasSealed etype key usage = opens_what_was_sealed etype key usage octets in
    same_some (opened etype key usage cipher) text other (law.found cipher text o) (law.found cipher other p)
