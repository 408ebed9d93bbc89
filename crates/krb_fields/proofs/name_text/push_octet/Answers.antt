use Rattle.std.proofs.Common.{◌≡◌, ◌++◌, ◌∷◌, [], ℕ, List, true, false, sym, ap, ◌∙◌, append_assoc, ◌/◌, ◌%◌}
use Rattle.krb_fields.specs.NameText.{hex_digit, is_plain}
use Rattle.krb_fields.proofs.TextLaws.{octet_text-escaped, octet_text-plain}
use Rattle.krb_fields.proofs.name_text.push_octet.Goals as goal

pub returns-then-is_plain : goal.returns-then-is_plain
returns-then-is_plain c =
    let plain : is_plain c.args.octet ≡ true = sym c.is_plain.ensures ∙ c.if-is_plain.true in
    c.in_ok-push.ensures.items ∙ ap (λ text. c.args.text.now.items ++ text) (sym (octet_text-plain c.args.octet plain))

three : (t : List ℕ) (x y z : ℕ) → ((t ++ x ∷ []) ++ y ∷ []) ++ z ∷ [] ≡ t ++ x ∷ y ∷ z ∷ []
three t x y z = simp append_assoc

pub returns : goal.returns
returns c =
    let escaped : is_plain c.args.octet ≡ false = sym c.is_plain.ensures ∙ c.if-is_plain.false in
    let high : c.push-3.new.self.items ≡ (c.args.text.now.items ++ 0x5C ∷ []) ++ hex_digit (c.args.octet / 16) ∷ []
    = c.in_ok-push-3.ensures.items ∙ (λ i. c.in_ok-push-2.ensures.items i ++ c.digit_of.ensures i ∷ []) in
    c.in_ok-push-4.ensures.items ∙ (λ i. high i ++ c.digit_of-2.ensures i ∷ [])
    ∙ three c.args.text.now.items 0x5C (hex_digit (c.args.octet / 16)) (hex_digit (c.args.octet % 16))
    ∙ ap (λ text. c.args.text.now.items ++ text) (sym (octet_text-escaped c.args.octet escaped))
