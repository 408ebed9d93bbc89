use Rattle.std.proofs.Common.{◌≡◌, ◌++◌, ap, sym, ◌∙◌, string_bytes}
use Rattle.krb_fields.specs.NameText.{text_of}
use Rattle.krb_fields.proofs.TextLaws.{IsNameText-injective}
use Rattle.krb_fields.proofs.name_text.Name.to_text.Goals as goal

pub returns-clause-own : goal.returns-clause-own
returns-clause-own c = λ within n is.
    let text : string_bytes c.ascii_text.result ≡ text_of c.args.self.now.components
    = c.ascii_text.ensures ∙ c.in_ok-push_text.ensures.text ∙ ap (λ t. t ++ text_of c.args.self.now.components) c.in_ok-text.ensures.items in
    IsNameText-injective n c.args.self.now.components (string_bytes c.ascii_text.result) is (within, sym text)
