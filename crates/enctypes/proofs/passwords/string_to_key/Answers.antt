use Rattle.std.proofs.Common.{◌≡◌, ℕ, ◌≤◌, List, replicate, codes, ap, ◌∙◌, arith}
use Rattle.std.proofs.lemmas.List.{length-take-le}
use Rattle.enctypes.specs.declared.etype.Etype.{Etype}
use Rattle.enctypes.specs.Key.{ProtocolKey}
use Rattle.enctypes.specs.Derivation.{derived, stretched, string_key}
use Rattle.enctypes.specs.Sizes.{key_len-most}
use Rattle.enctypes.proofs.passwords.string_to_key.Goals as goal

pub returns : goal.returns
unfolding string_key
returns c =
    let etype : Etype = c.args.etype in
    let len : ℕ = c.key_len-2.result in
    let fits : len ≤ 32 = omega (arith, c.key_len-2.ensures, key_len-most etype) in
    let key_of : List ℕ → ProtocolKey = λ b. record { etype = etype; bytes = b } in
    let bytes : c.derive.new.out ≡ string_key etype c.args.pass.now c.args.salt.now c.args.count =
    c.derive.ensures.value
    ∙ ap (derived etype c.stretch.new.out (codes "kerberos")) (length-take-le len (replicate {A = ℕ} 32 0) fits)
    ∙ ap (λ (l : List ℕ). derived etype l (codes "kerberos") len) c.in_ok-stretch.ensures.value
    ∙ ap (derived etype (stretched etype c.args.pass.now c.args.salt.now c.args.count) (codes "kerberos")) c.key_len-2.ensures in
    c.with_octets.ensures ∙ ap key_of bytes
