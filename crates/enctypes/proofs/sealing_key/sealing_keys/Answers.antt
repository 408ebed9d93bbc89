use Rattle.std.proofs.Common.{◌≡◌, ◌⊎◌, ℕ, ◌≤◌, List, replicate, length, take, sym, subst, ap, ◌∙◌, arith}
use Rattle.std.proofs.lemmas.List.{length-take-le}
use Rattle.enctypes.specs.declared.etype.Etype.{Etype}
use Rattle.enctypes.specs.declared.purpose.Purpose.{Purpose}
use Rattle.enctypes.specs.declared.purpose.Purpose.TheVariants.{Encryption, Integrity}
use Rattle.enctypes.specs.Derivation.{derived, usage_constant, derived_key, derived_len}
use Rattle.enctypes.specs.Etype.{key_len}
use Rattle.enctypes.specs.Sizes.{key_len-cases, derived_len-most, length-derived_key}
use Rattle.enctypes.proofs.sealing_key.sealing_keys.Goals as goal

-- what a call with the usage's constant writes into the front of an array is the derived key
written : (etype : Etype) (key constant out : List ℕ) (usage len : ℕ) (purpose : Purpose)
    → out ≡ derived etype key constant (length (take len (replicate {A = ℕ} 32 0))) → constant ≡ usage_constant usage purpose
    → len ≡ derived_len etype purpose → out ≡ derived_key etype key usage purpose
unfolding derived_key
written etype key constant out usage len purpose out_is constant_is len_is =
    let most : len ≤ 32 = omega (arith, derived_len-most etype purpose) in
    out_is ∙ ap (derived etype key constant) (length-take-le len (replicate {A = ℕ} 32 0) most)
    ∙ ap (λ (l : List ℕ). derived etype key l len) constant_is
    ∙ ap (derived etype key (usage_constant usage purpose)) len_is

pub aes_key-requires : goal.aes_key-requires
aes_key-requires c =
    let etype : Etype = c.args.etype in
    let is = written etype c.args.key.now c.usage_constant.result c.derive_both.new.out c.args.usage c.key_len.result Encryption
    c.derive_both.ensures.value c.usage_constant.ensures c.key_len.ensures in
    let len : length c.derive_both.new.out ≡ key_len etype =
    ap length is ∙ length-derived_key etype c.args.key.now c.args.usage Encryption in
    subst (λ (n : ℕ). (n ≡ 16) ⊎ (n ≡ 32)) (sym len) (key_len-cases etype)

pub returns-clause-encryption : goal.returns-clause-encryption
returns-clause-encryption c =
    c.aes_key.ensures
    ∙ written c.args.etype c.args.key.now c.usage_constant.result c.derive_both.new.out c.args.usage c.key_len.result Encryption
    c.derive_both.ensures.value c.usage_constant.ensures c.key_len.ensures

pub returns-clause-integrity : goal.returns-clause-integrity
returns-clause-integrity c =
    c.new.ensures
    ∙ written c.args.etype c.args.key.now c.usage_constant-2.result c.derive_both.new.other_out c.args.usage
    c.mac_key_len.result Integrity c.derive_both.ensures.other_value c.usage_constant-2.ensures
    c.mac_key_len.ensures
