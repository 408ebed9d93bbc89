-- The parts of a sealed text, and opening it.
use Rattle.std.proofs.Common.{◌≡◌, ℕ, ◌+◌, ◌-◌, ◌≤◌, ◌<◌, List, ◌++◌, All}
use Rattle.std.proofs.Common.{take, drop, length, refl, sym, ap, ◌∙◌, arith}
use Rattle.std.proofs.Common.{length-append, length-take}
use Rattle.std.proofs.lemmas.List.{take_at, drop_at, take-append-drop, length-take-le}
use Rattle.std.proofs.lemmas.List.Elements.{All-append, All-take, All-drop, All-replicate}
use Rattle.aes_cts.specs.Cipher.{IsBlock}
use Rattle.aes_cts.specs.Cts.{cts, cts_inverse, IsText, PermutesTexts}
use Rattle.aes_cts.proofs.Stealing.{length-cts}
use Rattle.enctypes.specs.declared.etype.Etype.{Etype}
use Rattle.enctypes.specs.Etype.{mac_len}
use Rattle.enctypes.specs.Derivation.{ke, ki}
use Rattle.enctypes.specs.Sealing.{cut_hmac, zero_vector, macs_cipher, authenticated, sealed_plain, seal, Opens}
use Rattle.enctypes.specs.Sealing.{enciphered, ending, deciphered, expected_ending}
use Rattle.enctypes.specs.Sizes.{length-cut_hmac}

pub seal_is : (etype : Etype) (key : List ℕ) (usage : ℕ) (confounder text : List ℕ)
    → seal etype key usage confounder text
    ≡ sealed_plain etype key usage (confounder ++ text) (cts (ke etype key usage) zero_vector (confounder ++ text))
unfolding seal
seal_is etype key usage confounder text = refl

pub length-seal : (etype : Etype) (key : List ℕ) (usage : ℕ) (confounder text : List ℕ) → length confounder ≡ 16
    → length (seal etype key usage confounder text) ≡ 16 + mac_len etype + length text
length-seal etype key usage confounder text size =
    let plain : List ℕ = confounder ++ text in
    let c : List ℕ = cts (ke etype key usage) zero_vector plain in
    let covered : List ℕ = authenticated (macs_cipher etype) plain c in
    let len_plain : length plain ≡ 16 + length text = omega (arith, length-append confounder text) in
    let len_c : length c ≡ length plain = length-cts (ke etype key usage) zero_vector plain (omega arith) in
    ap length (seal_is etype key usage confounder text)
    ∙ length-append c (cut_hmac etype (ki etype key usage) covered)
    ∙ omega (arith, length-cut_hmac etype (ki etype key usage) covered)

-- a cipher that can be opened is long enough for the confounder and the HMAC
pub opens-length : (etype : Etype) (key : List ℕ) (usage : ℕ) (cipher text : List ℕ) → Opens etype key usage cipher text
    → length cipher ≡ 16 + mac_len etype + length text
opens-length etype key usage cipher text o =
    ap length (sym o.sealed) ∙ length-seal etype key usage o.confounder text o.is_block.size

zero_block : IsBlock zero_vector
zero_block = record { size = refl; octets = All-replicate (λ b. b < 256) 16 0 (omega arith) }

-- what `is_sealed` tests
pub record IsSealed (etype : Etype) (key : List ℕ) (usage : ℕ) (cipher : List ℕ) : Type 0 where
  pub room : 16 + mac_len etype ≤ length cipher
  pub ends : ending etype cipher ≡ expected_ending etype key usage cipher

-- the parts of a cipher that can be opened
pub record HasParts (etype : Etype) (key : List ℕ) (usage : ℕ) (cipher plain : List ℕ) : Type 0 where
  pub plain_is : deciphered etype key usage cipher ≡ plain
  pub is_sealed : IsSealed etype key usage cipher

pub opens-parts : (etype : Etype) (key : List ℕ) (usage : ℕ) (cipher text : List ℕ) → PermutesTexts (ke etype key usage)
    → (o : Opens etype key usage cipher text) → HasParts etype key usage cipher (o.confounder ++ text)
opens-parts etype key usage cipher text law o =
    let plain : List ℕ = o.confounder ++ text in
    let k : List ℕ = ke etype key usage in
    let i : List ℕ = ki etype key usage in
    let c : List ℕ = cts k zero_vector plain in
    let code : List ℕ = cut_hmac etype i (authenticated (macs_cipher etype) plain c) in
    let n : ℕ = length cipher - mac_len etype in
    let is : cipher ≡ c ++ code = sym o.sealed ∙ seal_is etype key usage o.confounder text in
    let least : 16 ≤ length plain = omega (arith, length-append o.confounder text, o.is_block.size) in
    let code_len : length code ≡ mac_len etype = length-cut_hmac etype i (authenticated (macs_cipher etype) plain c) in
    let len : length c ≡ n = omega (arith, ap length is, length-append c code, code_len) in
    let front : enciphered etype cipher ≡ c = ap (take n) is ∙ take_at c code n len in
    let back : ending etype cipher ≡ code = ap (drop n) is ∙ drop_at c code n len in
    let octets : All (λ b. b < 256) plain = All-append (λ b. b < 256) o.confounder text o.is_block.octets o.octets in
    let plain_is : deciphered etype key usage cipher ≡ plain =
    ap (cts_inverse k zero_vector) front
    ∙ law.taken_back zero_vector plain zero_block (record { least = least; octets = octets }) in
    record {
      plain_is = plain_is;
      is_sealed = record {
        room = omega (arith, opens-length etype key usage cipher text o);
        ends = back
            ∙ ap (λ (l : List ℕ). cut_hmac etype i (authenticated (macs_cipher etype) l c)) (sym plain_is)
            ∙ ap (λ (l : List ℕ). cut_hmac etype i
            (authenticated (macs_cipher etype) (deciphered etype key usage cipher) l))
            (sym front);
      };
    }

-- a cipher that passes the test can be opened
pub opens-from_sealed : (etype : Etype) (key : List ℕ) (usage : ℕ) (cipher : List ℕ)
    → PermutesTexts (ke etype key usage)
    → All (λ b. b < 256) cipher → IsSealed etype key usage cipher
    → Opens etype key usage cipher (drop 16 (deciphered etype key usage cipher))
opens-from_sealed etype key usage cipher law octets s =
    let k : List ℕ = ke etype key usage in
    let n : ℕ = length cipher - mac_len etype in
    let body : List ℕ = enciphered etype cipher in
    let plain : List ℕ = deciphered etype key usage cipher in
    let is_text : IsText body =
    record { least = omega (arith, length-take n cipher, s.room); octets = All-take (λ b. b < 256) n cipher octets } in
    let plain_is : IsText plain = law.deciphered zero_vector body zero_block is_text in
    let whole : take 16 plain ++ drop 16 plain ≡ plain = take-append-drop 16 plain in
    let again : cts k zero_vector plain ≡ body = law.given_back zero_vector body zero_block is_text in
    record {
      confounder = take 16 plain;
      is_block = record {
        size = length-take-le 16 plain plain_is.least;
        octets = All-take (λ b. b < 256) 16 plain plain_is.octets;
      };
      octets = All-drop (λ b. b < 256) 16 plain plain_is.octets;
      sealed = seal_is etype key usage (take 16 plain) (drop 16 plain)
          ∙ ap (λ (l : List ℕ). sealed_plain etype key usage l (cts k zero_vector l)) whole
          ∙ ap (sealed_plain etype key usage plain) again
          ∙ ap (λ (l : List ℕ). body ++ l) (sym s.ends)
          ∙ take-append-drop n cipher;
    }
