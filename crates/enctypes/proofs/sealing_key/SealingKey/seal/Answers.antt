use Rattle.std.proofs.Common.{◌≡◌, ℕ, ◌<◌, List, ◌++◌, All, get_or, take, drop, length, sym, ap, ◌∙◌, arith}
use Rattle.std.proofs.lemmas.List.{take_at}
use Rattle.std.proofs.lemmas.List.Elements.{All-from_get_or}
use Rattle.enctypes.specs.OpenedLaws.{opens_what_was_sealed}
use Rattle.enctypes.specs.Sealed.{length-seal}
use Rattle.enctypes.proofs.SealingSteps.{put_together, sealed_is}
use Rattle.enctypes.specs.Sizes.{mac_len-most}
use Rattle.enctypes.proofs.sealing_key.SealingKey.seal.Goals as goal

octets : (l : List ℕ) → ((i : ℕ) → get_or l i 0 < 256) → All (λ b. b < 256) l
octets l fits = All-from_get_or (λ b. b < 256) l 0 (λ i lt. fits i)

pub returns-clause-value : goal.returns-clause-value
returns-clause-value c =
    let confounder : List ℕ = c.args.confounder.now in
    let text : List ℕ = c.args.text.now in
    let plain : c.deref_mut.result.now ≡ confounder ++ text =
    put_together confounder text c.in_ok-sealed.sealed.items c.extend_from_slice.new.self.items
    c.extend_from_slice-2.new.self.items c.deref_mut.result.now c.deref_mut.ensures.value
    c.in_ok-extend_from_slice-2.ensures.items c.in_ok-extend_from_slice.ensures.items c.in_ok-sealed.ensures.items in
    let sealed : List ℕ = c.encipher-mac.new.text in
    let behind : List ℕ = drop (length sealed) c.extend_from_slice-2.new.self.items in
    let len : ℕ = c.extend_from_slice-2.new.self.len in
    let written : take len (sealed ++ behind) ≡ sealed =
    take_at sealed behind len (omega (arith, c.encipher-mac.auto.text, c.deref_mut.ensures.len)) in
    sealed_is c.args.self.now.key.etype c.args.self.now.key.bytes c.args.self.now.usage confounder text c.deref_mut.result.now sealed c.encipher-mac.result
    (take len (sealed ++ behind)) c.bytes.result.now c.extend_from_slice-3.new.self.items plain c.encipher-mac.ensures.value
    c.encipher-mac.ensures.mac written c.bytes.ensures.bytes c.in_ok-extend_from_slice-3.ensures.items

pub returns-clause-len : goal.returns-clause-len
returns-clause-len c =
    ap length (returns-clause-value c)
    ∙ length-seal c.args.self.now.key.etype c.args.self.now.key.bytes c.args.self.now.usage c.args.confounder.now c.args.text.now c.told-confounder

pub returns-clause-most : goal.returns-clause-most
returns-clause-most c = omega (arith, returns-clause-len c, mac_len-most c.args.self.now.key.etype)

pub returns-clause-opens : goal.returns-clause-opens
returns-clause-opens c = record {
  confounder = c.args.confounder.now;
  is_block = record {
    size = c.told-confounder;
    octets = octets c.args.confounder.now (λ i. omega (arith, c.fits-confounder i));
  };
  octets = octets c.args.text.now (λ i. omega (arith, c.type_inv.text i));
  sealed = sym (returns-clause-value c);
}

pub returns-clause-opened : goal.returns-clause-opened
returns-clause-opened c =
    let law = opens_what_was_sealed c.args.self.now.key.etype c.args.self.now.key.bytes c.args.self.now.usage
    c.mac_len-mac_len.ensures.valid.octets in
    law.found _ c.args.text.now (returns-clause-opens c)
