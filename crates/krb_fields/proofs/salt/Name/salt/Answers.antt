use Rattle.std.proofs.Common.{◌≡◌, ◌<◌, ◌+◌, ◌++◌, ◌∷◌, [], ℕ, List, length, take, get_or, sym, ap, ◌∙◌, append_assoc, arith}
use Rattle.std.specs.List.{concat}
use Rattle.std.proofs.lemmas.List.{append-nil, take_more}
use Rattle.std.proofs.lemmas.List.Folds.{concat-append}
use Rattle.krb_fields.specs.Name.{Components}
use Rattle.krb_fields.specs.Salt.{default_salt}
use Rattle.krb_fields.proofs.salt.Name.salt.Goals as goal

-- one more component
longer : (realm : List ℕ) (name : Components) (i : ℕ) (c : List ℕ) → i < length name → c ≡ get_or name i c → default_salt realm (take i name) ++ c ≡ default_salt realm (take (i + 1) name)
longer realm name i c within e =
    append_assoc realm (concat (take i name)) c
    ∙ ap (λ s. realm ++ (concat (take i name) ++ s)) (sym (append-nil c))
    ∙ ap (λ s. realm ++ s) (sym (concat-append (take i name) (c ∷ [])))
    ∙ ap (λ d. realm ++ concat (take i name ++ d ∷ [])) e
    ∙ ap (λ n. default_salt realm n) (sym (take_more name i c within))

pub loop-component-preserved : goal.loop-component-preserved
loop-component-preserved c =
    let component = c.as_slice.ensures in
    c.in_ok-extend_from_slice.ensures.items
    ∙ ap (λ s. s ++ c.as_slice.result.now) c.loop-component.invariant
    ∙ ap (λ d. default_salt c.args.realm.now (take c.loop-component.component-index c.as_slice-component-items.result.now) ++ d) component
    ∙ longer c.args.realm.now c.as_slice-component-items.result.now c.loop-component.component-index c.component-item.result (omega arith) c.component-item.is
