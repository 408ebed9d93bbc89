use Rattle.std.proofs.Common.{rules, ◌≡◌, ◌∙◌, ℕ, ℤ, List, length, take, ap, subst, to_z, of_z, w32}
use Rattle.enctypes.specs.Etype.{number}
use Rattle.ap_accept_c.specs.Protection.{key_in}
use Rattle.ap_accept_c.proofs.RawKeys.{key_back}
use Rattle.ap_accept_c.proofs.raw_key.RawKey.of.Goals as goal

pub returns : goal.returns
returns c =
    let is : to_z w32 (of_z w32 c.number.result) ≡ c.number.result = search rules in
    let begins : take (length c.args.key.now.bytes) c.filled.result ≡ c.args.key.now.bytes =
    subst (λ (l : List ℕ). take (length l) c.filled.result ≡ l) c.bytes.ensures.bytes c.filled.ensures in
    ap (λ (n : ℤ). key_in n c.filled.result) (is ∙ c.number.ensures ∙ ap number c.etype.ensures.etype)
    ∙ key_back c.args.key.now c.filled.result c.etype.ensures.valid.size begins
