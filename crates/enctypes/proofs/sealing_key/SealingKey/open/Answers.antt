use Rattle.std.proofs.Common.{◌≡◌, ℕ, ◌+◌, ◌-◌, ◌<◌, true, false, List, ◌++◌, All, get_or, take, drop, length}
use Rattle.std.proofs.Common.{Some, sym, ap, ◌∙◌, arith}
use Rattle.std.specs.List.{copy_within}
use Rattle.std.proofs.lemmas.List.{take_at}
use Rattle.std.proofs.lemmas.List.Elements.{All-from_get_or}
use Rattle.enctypes.specs.declared.etype.Etype.{Etype}
use Rattle.enctypes.specs.Sealing.{deciphered}
use Rattle.enctypes.specs.OpenedLaws.{opened-some, opened-none, opens_what_was_sealed}
use Rattle.enctypes.specs.Sealed.{IsSealed}
use Rattle.enctypes.proofs.SealingSteps.{IsRecomputed, recomputed, shifted}
use Rattle.enctypes.proofs.sealing_key.SealingKey.open.Goals as goal

octets : (l : List ℕ) → ((i : ℕ) → get_or l i 0 < 256) → All (λ b. b < 256) l
octets l fits = All-from_get_or (λ b. b < 256) l 0 (λ i lt. fits i)

pub returns-then-cipher-mac_len-clause-value : goal.returns-then-cipher-mac_len-clause-value
returns-then-cipher-mac_len-clause-value c =
    sym (opened-none c.args.self.now.key.etype c.args.self.now.key.bytes c.args.self.now.usage c.args.cipher.now
    (λ s. omega (arith, s.room, c.mac_len-mac_len.ensures.value)))

pub returns-then-cipher-mac_len-clause-none : goal.returns-then-cipher-mac_len-clause-none
returns-then-cipher-mac_len-clause-none c =
    let etype : Etype = c.args.self.now.key.etype in
    let by_law = opens_what_was_sealed etype c.args.self.now.key.bytes c.args.self.now.usage c.mac_len-mac_len.ensures.valid.octets in
    let cipher_octets = octets c.args.cipher.now (λ i. omega (arith, c.type_inv.cipher i)) in
    (by_law.none c.args.cipher.now cipher_octets).0 (sym (returns-then-cipher-mac_len-clause-value c))

pub returns-then-not-are_same-clause-value : goal.returns-then-not-are_same-clause-value
returns-then-not-are_same-clause-value c =
    let etype : Etype = c.args.self.now.key.etype in
    let cipher : List ℕ = c.args.cipher.now in
    let r : IsRecomputed etype c.args.self.now.key.bytes c.args.self.now.usage cipher c.decipher-expected.new.text c.decipher-expected.result
    c.split_at.result.1.now =
    recomputed etype c.args.self.now.key.bytes c.args.self.now.usage cipher c.split_at.result.0.now c.split_at.result.1.now
    c.in_ok-text.text.items c.extend_from_slice.new.self.items c.deref_mut.result.now c.decipher-expected.new.text
    c.decipher-expected.result c.mac_len-mac_len.result c.split_at.ensures.front c.split_at.ensures.back
    c.mac_len-mac_len.ensures.value c.in_ok-text.ensures.items c.in_ok-extend_from_slice.ensures.items
    c.deref_mut.ensures.value c.decipher-expected.ensures.value c.decipher-expected.ensures.mac in
    sym (opened-none etype c.args.self.now.key.bytes c.args.self.now.usage cipher (λ s.
    let agree : c.bytes.result.now ≡ c.split_at.result.1.now =
    c.bytes.ensures.bytes ∙ r.expected_is ∙ sym s.ends ∙ sym r.mac_is in
    let is_true : c.are_same.result ≡ true = c.are_same.ensures.1 agree in
    let is_false : c.are_same.result ≡ false = c.if-not-are_same.true in
    cc))

pub returns-then-not-are_same-clause-none : goal.returns-then-not-are_same-clause-none
returns-then-not-are_same-clause-none c =
    let etype : Etype = c.args.self.now.key.etype in
    let by_law = opens_what_was_sealed etype c.args.self.now.key.bytes c.args.self.now.usage c.mac_len-mac_len.ensures.valid.octets in
    let cipher_octets = octets c.args.cipher.now (λ i. omega (arith, c.type_inv.cipher i)) in
    (by_law.none c.args.cipher.now cipher_octets).0 (sym (returns-then-not-are_same-clause-value c))

pub returns-clause-value : goal.returns-clause-value
returns-clause-value c =
    let etype : Etype = c.args.self.now.key.etype in
    let key : List ℕ = c.args.self.now.key.bytes in
    let cipher : List ℕ = c.args.cipher.now in
    let plain : List ℕ = c.decipher-expected.new.text in
    let r : IsRecomputed etype key c.args.self.now.usage cipher plain c.decipher-expected.result c.split_at.result.1.now =
    recomputed etype key c.args.self.now.usage cipher c.split_at.result.0.now c.split_at.result.1.now
    c.in_ok-text.text.items c.extend_from_slice.new.self.items c.deref_mut.result.now plain c.decipher-expected.result
    c.mac_len-mac_len.result c.split_at.ensures.front c.split_at.ensures.back
    c.mac_len-mac_len.ensures.value c.in_ok-text.ensures.items c.in_ok-extend_from_slice.ensures.items
    c.deref_mut.ensures.value c.decipher-expected.ensures.value c.decipher-expected.ensures.mac in
    let agree : c.bytes.result.now ≡ c.split_at.result.1.now = c.are_same.ensures.0 c.if-not-are_same.false in
    let s : IsSealed etype key c.args.self.now.usage cipher = record {
      room = omega (arith, c.mac_len-mac_len.ensures.value);
      ends = sym r.mac_is ∙ sym agree ∙ c.bytes.ensures.bytes ∙ r.expected_is;
    } in
    let before : List ℕ = c.extend_from_slice.new.self.items in
    let size : length plain ≡ c.extend_from_slice.new.self.len =
    omega (arith, c.decipher-expected.auto.text, c.deref_mut.ensures.len) in
    let written : take c.extend_from_slice.new.self.len (plain ++ drop (length plain) before) ≡ plain =
    take_at plain (drop (length plain) before) c.extend_from_slice.new.self.len size in
    let front : List ℕ = c.split_at.result.0.now in
    let kept : ℕ = length front - 16 in
    let copied : length c.deref_mut.result.now ≡ length front =
    ap length (c.deref_mut.ensures.value ∙ c.in_ok-extend_from_slice.ensures.items
    ∙ ap (λ (l : List ℕ). l ++ front) c.in_ok-text.ensures.items) in
    let len : length plain ≡ kept + 16 =
    omega (
      arith,
      copied,
      c.decipher-expected.auto.text,
      c.split_at.ensures.front_len,
      c.mac_len-mac_len.ensures.value,
    ) in
    let text_is : c.truncate.new.self.items ≡ drop 16 (deciphered etype key c.args.self.now.usage cipher) =
    c.truncate.ensures.items
    ∙ ap (take kept) (c.copy_within.ensures.items
    ∙ ap (λ (l : List ℕ). copy_within l 16 c.extend_from_slice.new.self.len 0) written
    ∙ ap (λ (n : ℕ). copy_within plain 16 n 0) (sym size ∙ len))
    ∙ shifted plain kept len ∙ ap (drop 16) r.plain_is in
    ap (λ (l : List ℕ). Some l) text_is ∙ sym (opened-some etype key c.args.self.now.usage cipher s)

pub returns-clause-opened : goal.returns-clause-opened
returns-clause-opened c =
    let by_law = opens_what_was_sealed c.args.self.now.key.etype c.args.self.now.key.bytes c.args.self.now.usage c.mac_len-mac_len.ensures.valid.octets in
    let cipher_octets = octets c.args.cipher.now (λ i. omega (arith, c.type_inv.cipher i)) in
    (by_law.some c.args.cipher.now c.truncate.new.self.items cipher_octets).0 (sym (returns-clause-value c))
