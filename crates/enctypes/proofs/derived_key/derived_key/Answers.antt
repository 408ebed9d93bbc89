use Rattle.std.proofs.Common.{ℕ, List, replicate, ap, ◌∙◌}
use Rattle.std.proofs.lemmas.List.{length-take-le}
use Rattle.enctypes.specs.declared.etype.Etype.{Etype}
use Rattle.enctypes.specs.Derivation.{derived, usage_constant, derived_key}
use Rattle.enctypes.proofs.derived_key.derived_key.Goals as goal

pub returns : goal.returns
unfolding derived_key
returns c =
    let etype : Etype = c.args.etype in
    let key : List ℕ = c.args.key.now in
    let len : ℕ = c.derived_len.result in
    c.new.ensures ∙ c.derive.ensures.value
    ∙ ap (derived etype key c.usage_constant.result) (length-take-le len (replicate {A = ℕ} 32 0) c.derived_len.ensures.most)
    ∙ ap (λ (constant : List ℕ). derived etype key constant len) c.usage_constant.ensures
    ∙ ap (derived etype key (usage_constant c.args.usage c.args.purpose)) c.derived_len.ensures.len
