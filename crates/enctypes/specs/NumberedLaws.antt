-- The encryption type with a number is found among all types.
use Rattle.std.proofs.Common.{◌≡◌, ◌≢◌, ℤ, Bool, true, false, Option, Some, None, refl, sym, subst}
use Rattle.std.proofs.lemmas.Bool.Decides.{Decides-int_eq}
use Rattle.std.specs.Ordering.{int_eq}
use Rattle.std.specs.Prelude.{IfSome, IfNone}
use Rattle.enctypes.specs.Etype.{number}
use Rattle.enctypes.specs.Numbered.{type_numbered}
use Rattle.enctypes.specs.declared.etype.Etype.{Etype}
use Rattle.enctypes.specs.declared.etype.Etype.TheVariants.{Aes128CtsHmacSha1_96, Aes256CtsHmacSha1_96}
use Rattle.enctypes.specs.declared.etype.Etype.TheVariants.{Aes128CtsHmacSha256_128, Aes256CtsHmacSha384_192}

other : (m n : ℤ) → m ≢ n → int_eq m n ≡ false
other m n apart = at (int_eq m n) refl
  where
    at : (b : Bool) → int_eq m n ≡ b → int_eq m n ≡ false
    at true e = absurd (apart ((Decides-int_eq m n).0 e))
    at false e = e

-- a number of no encryption type is not found
no_type : (n : ℤ) → ((e : Etype) → number e ≢ n) → type_numbered n ≡ None
no_type n none =
    rw (
      other (number Aes128CtsHmacSha1_96) n (none Aes128CtsHmacSha1_96),
      other (number Aes256CtsHmacSha1_96) n (none Aes256CtsHmacSha1_96),
      other (number Aes128CtsHmacSha256_128) n (none Aes128CtsHmacSha256_128),
      other (number Aes256CtsHmacSha384_192) n (none Aes256CtsHmacSha384_192),
    ) refl

-- the number of an encryption type finds that type
pub own_number : (e : Etype) → type_numbered (number e) ≡ Some e
own_number Aes128CtsHmacSha1_96 = refl
own_number Aes256CtsHmacSha1_96 = refl
own_number Aes128CtsHmacSha256_128 = refl
own_number Aes256CtsHmacSha384_192 = refl

-- the result of a search for the number
pub numbered : (n : ℤ) (found : Option Etype) → IfSome found (λ e. number e ≡ n) → IfNone found ((e : Etype) → number e ≢ n) → found ≡ type_numbered n
numbered n (Some e) is none = sym (subst (λ (m : ℤ). type_numbered m ≡ Some e) is (own_number e))
numbered n None is none = sym (no_type n none)
