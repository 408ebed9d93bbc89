-- What the code computes, step by step, when it seals and opens.
use Rattle.std.proofs.Common.{◌≡◌, ℕ, ◌+◌, ◌-◌, List, [], ◌++◌, take, drop, length, sym, ap, ◌∙◌, arith, length-drop}
use Rattle.std.specs.List.{copy_within}
use Rattle.std.proofs.lemmas.List.{take_at}
use Rattle.std.proofs.lemmas.List.Edits.{paste_all}
use Rattle.aes_cts.specs.Cts.{cts, cts_inverse}
use Rattle.enctypes.specs.declared.etype.Etype.{Etype}
use Rattle.enctypes.specs.Etype.{mac_len}
use Rattle.enctypes.specs.Derivation.{ke, ki}
use Rattle.enctypes.specs.Sealing.{cut_hmac, zero_vector, macs_cipher, authenticated, sealed_plain, seal}
use Rattle.enctypes.specs.Sealing.{enciphered, ending, deciphered, expected_ending}
use Rattle.enctypes.specs.Sealed.{seal_is}

-- the confounder and then the text, appended to an empty list
pub put_together : (confounder text empty first second whole : List ℕ) → whole ≡ second → second ≡ first ++ text
    → first ≡ empty ++ confounder → empty ≡ [] → whole ≡ confounder ++ text
put_together confounder text empty first second whole hw hs hf he =
    hw ∙ hs ∙ ap (λ (l : List ℕ). l ++ text) (hf ∙ ap (λ (l : List ℕ). l ++ confounder) he)

-- the cipher, followed by the HMAC
pub sealed_is : (etype : Etype) (key : List ℕ) (usage : ℕ) (confounder text plain c code front back whole : List ℕ)
    → plain ≡ confounder ++ text → c ≡ cts (ke etype key usage) zero_vector plain
    → code ≡ cut_hmac etype (ki etype key usage) (authenticated (macs_cipher etype) plain c)
    → front ≡ c → back ≡ code → whole ≡ front ++ back → whole ≡ seal etype key usage confounder text
sealed_is etype key usage confounder text plain c code front back whole hp hc hm hf hb hw =
    hw ∙ ap (λ (l : List ℕ). l ++ back) hf ∙ ap (λ (l : List ℕ). c ++ l) (hb ∙ hm)
    ∙ ap (sealed_plain etype key usage plain) hc
    ∙ ap (λ (l : List ℕ). sealed_plain etype key usage l (cts (ke etype key usage) zero_vector l)) hp
    ∙ sym (seal_is etype key usage confounder text)

-- the plain text, the HMAC that the cipher must end with, and the one that it ends with
pub record IsRecomputed (etype : Etype) (key : List ℕ) (usage : ℕ) (cipher plain expected mac : List ℕ) : Type 0 where
  pub plain_is : plain ≡ deciphered etype key usage cipher
  pub expected_is : expected ≡ expected_ending etype key usage cipher
  pub mac_is : mac ≡ ending etype cipher

-- the front of the cipher, appended to an empty list, is decrypted
pub recomputed : (etype : Etype) (key : List ℕ) (usage : ℕ) (cipher front mac empty copied body plain expected : List ℕ)
    (n : ℕ)
    → front ≡ take (length cipher - n) cipher → mac ≡ drop (length cipher - n) cipher → n ≡ mac_len etype
    → empty ≡ [] → copied ≡ empty ++ front → body ≡ copied
    → plain ≡ cts_inverse (ke etype key usage) zero_vector body
    → expected ≡ cut_hmac etype (ki etype key usage) (authenticated (macs_cipher etype) plain body)
    → IsRecomputed etype key usage cipher plain expected mac
recomputed etype key usage cipher front mac empty copied body plain expected n hf hr hn he hc hb hp hm =
    let i : List ℕ = ki etype key usage in
    let body_is : body ≡ enciphered etype cipher =
    hb ∙ hc ∙ ap (λ (l : List ℕ). l ++ front) he ∙ hf ∙ ap (λ (k : ℕ). take (length cipher - k) cipher) hn in
    let plain_is : plain ≡ deciphered etype key usage cipher =
    hp ∙ ap (cts_inverse (ke etype key usage) zero_vector) body_is in
    record {
      plain_is = plain_is;
      expected_is = hm ∙ ap (λ (l : List ℕ). cut_hmac etype i (authenticated (macs_cipher etype) l body)) plain_is
          ∙ ap (λ (l : List ℕ). cut_hmac etype i (authenticated (macs_cipher etype) (deciphered etype key usage cipher) l))
          body_is;
      mac_is = hr ∙ ap (λ (k : ℕ). drop (length cipher - k) cipher) hn;
    }

-- the plain text without its first 16 bytes, as the code leaves it: the rest is moved to the front
pub shifted : (plain : List ℕ) (n : ℕ) → length plain ≡ n + 16 → take n (copy_within plain 16 (n + 16) 0) ≡ drop 16 plain
shifted plain n len =
    let moved : n + 16 - 16 ≡ length (drop 16 plain) = omega (arith, length-drop 16 plain) in
    ap (take n) (paste_all plain 0 (drop 16 plain) (n + 16 - 16) moved)
    ∙ take_at (drop 16 plain) (drop (0 + (n + 16 - 16)) plain) n (omega (arith, length-drop 16 plain))
