use Rattle.std.proofs.Common.{◌≡◌, ◌<◌, ◌≤◌, ◌+◌, ◌++◌, ◌∷◌, [], zero, suc, ℕ, List, length, length-take, take, get_or, sym, ap, subst, ◌∙◌, append_assoc, arith}
use Rattle.std.specs.Str.{IsAscii}
use Rattle.std.proofs.lemmas.List.{take_more}
use Rattle.std.proofs.lemmas.Str.{IsAscii-append}
use Rattle.krb_fields.specs.Name.{Components}
use Rattle.krb_fields.specs.NameText.{component_text, text_of}
use Rattle.krb_fields.proofs.TextAscii.{slash_ascii}
use Rattle.krb_fields.proofs.TextLaws.{text_of-push}
use Rattle.krb_fields.proofs.name_text.Name.push_text.Goals as goal
use Rattle.krb_fields.proofs.name_text.Name.push_text.Goals.{then-i-gt0+in_ok-push, else-i-gt0}

-- the first component has no slash before it, and each other one has
first_so : (name : Components) (i : ℕ) (c : List ℕ) → i ≤ 0 → i < length name → c ≡ get_or name i c → text_of (take (i + 1) name) ≡ text_of (take i name) ++ component_text c
first_so [] i c start within e = absurd (omega (arith, within))
first_so (d ∷ name) zero c start within e = ap component_text (sym e)
first_so (d ∷ name) (suc i) c start within e = absurd (omega (arith, start))

next_so : (name : Components) (i : ℕ) (c : List ℕ) → 0 < i → i < length name → c ≡ get_or name i c → text_of (take (i + 1) name) ≡ text_of (take i name) ++ (0x2F ∷ component_text c)
next_so name i c later within e =
    let some : 0 < length (take i name) = simp length-take (omega (arith, later, within)) in
    ap text_of (take_more name i c within) ∙ ap (λ d. text_of (take i name ++ d ∷ [])) (sym e) ∙ text_of-push (take i name) c some

added : (old front text part whole : List ℕ) → front ≡ old ++ text → whole ≡ text ++ part → front ++ part ≡ old ++ whole
added old front text part whole begins is =
    ap (λ t. t ++ part) begins ∙ append_assoc old text part ∙ ap (λ t. old ++ t) (sym is)

pub loop-i-preserved : goal.loop-i-preserved
loop-i-preserved c =
    let name = c.as_slice-component-items.result.now in
    let old = c.args.text.now.items in
    let so_far = text_of (take c.loop-i.i name) in
    let item = c.component-item.result in
    let ascii : IsAscii (component_text item) = subst (λ d. IsAscii (component_text d)) c.as_slice.ensures c.in_ok-push_component.ensures.ascii in
    let pushed : c.push_component.new.text.items ≡ c.if-i-gt0.text.items ++ component_text item
    = c.in_ok-push_component.ensures.text ∙ ap (λ d. c.if-i-gt0.text.items ++ component_text d) c.as_slice.ensures in
    elim c.if-i-gt0.branch [
      | then-i-gt0+in_ok-push w ↦
          let is = next_so name c.loop-i.i item w.if-i-gt0.true c.loop-i-test.true c.component-item.is in
          let slash : c.if-i-gt0.text.items ≡ c.loop-i.text.items ++ 0x2F ∷ [] = ap (λ t. t.items) w.text-is ∙ w.in_ok-push.ensures.items in
          let all = added old c.loop-i.text.items so_far (0x2F ∷ component_text item) _ c.loop-i.invariant.0 is in (
            pushed ∙ ap (λ t. t ++ component_text item) slash ∙ append_assoc c.loop-i.text.items (0x2F ∷ []) (component_text item) ∙ all,
            subst IsAscii (sym is) (IsAscii-append so_far (0x2F ∷ component_text item) c.loop-i.invariant.1 (IsAscii-append (0x2F ∷ []) (component_text item) slash_ascii ascii)),
          )
      | else-i-gt0 w ↦
          let is = first_so name c.loop-i.i item w.if-i-gt0.false c.loop-i-test.true c.component-item.is in (
            pushed ∙ ap (λ t. t.items ++ component_text item) w.text-is ∙ added old c.loop-i.text.items so_far (component_text item) _ c.loop-i.invariant.0 is,
            subst IsAscii (sym is) (IsAscii-append so_far (component_text item) c.loop-i.invariant.1 ascii),
          )
    ]
