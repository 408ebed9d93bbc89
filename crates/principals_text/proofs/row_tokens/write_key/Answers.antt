use Rattle.std.proofs.Common.{rules, ◌≡◌, [], ◌∷◌, subst, ap, ◌∙◌, w64, to_z, of_z}
use Rattle.std.specs.Fmt.{signed_decimal}
use Rattle.std.proofs.lemmas.Result.{on_ok_weaker}
use Rattle.hex.specs.Hex.{encode_lower}
use Rattle.json.specs.Token.{Token}
use Rattle.enctypes.specs.Etype as etypes
use Rattle.principals_text.specs.Tokens.{IsLonger}
use Rattle.principals_text.proofs.RowTokens.{one_more, if_one_more, chain, etype_text}
use Rattle.principals_text.proofs.row_tokens.write_key.Goals as goal

pub returns : goal.returns
returns c =
    let number : c.from.result ≡ etypes.number c.args.key.now.etype = search rules in
    let octets : c.deref.result.now ≡ encode_lower c.args.key.now.bytes = search rules in
    let etype = subst (λ t. IsLonger c.key.new.self c.i64.new.self (t ∷ [])) (ap Token.number (ap (λ z. signed_decimal (to_z w64 (of_z w64 z))) number ∙ etype_text c.args.key.now.etype)) (one_more c.in_ok-i64.ensures) in
    let key = subst (λ s. IsLonger c.key-2.new.self c.string.new.self (Token.string s ∷ [])) octets (one_more c.in_ok-string.ensures) in
    on_ok_weaker c.end_object.result (λ e. chain (one_more c.in_ok-begin_object.ensures) (chain (one_more c.in_ok-key.ensures) (chain etype (chain (one_more c.in_ok-key-2.ensures) (chain key e)))))
    (if_one_more c.end_object.result _ _ _ c.end_object.ensures)
