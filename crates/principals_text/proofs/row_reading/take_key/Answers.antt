use Rattle.std.proofs.Common.{rules, ◌≡◌, ◌∷◌, ◌++◌, IsTrue, sym, subst}
use Rattle.hex.specs.Hex.{encode_lower}
use Rattle.json.specs.Token.{Token}
use Rattle.enctypes.specs.declared.etype.Etype.{Etype}
use Rattle.principals_text.specs.RowWritten.{key_value}
use Rattle.principals_text.specs.Tokens.{data_tokens}
use Rattle.principals_text.proofs.TakenTokens.{key_taken}
use Rattle.principals_text.proofs.row_reading.take_key.Goals as goal

pub returns : goal.returns
returns c =
    let opens : IsTrue c.takes_object.result = search rules in
    let named : IsTrue c.takes_name.result = search rules in
    let ended : IsTrue c.takes_object_end.result = search rules in
    let octets : c.takes_name.new.reader ≡ Token.string (encode_lower c.in_ok-key.key.bytes) ∷ c.next.new.self = search rules in
    subst (λ (e : Etype). c.args.reader.now ≡ data_tokens (key_value (record { etype = e; bytes = c.in_ok-key.key.bytes })) ++ c.takes_object_end.new.reader) (sym c.in_ok-key.ensures.etype)
    (key_taken c.args.reader.now c.takes_object.new.reader c.take_etype.new.reader c.takes_name.new.reader c.next.new.self c.takes_object_end.new.reader c.in_ok-etype.etype c.in_ok-key.key.bytes
    (c.takes_object.ensures opens) c.in_ok-etype.ensures (c.takes_name.ensures named) octets (c.takes_object_end.ensures ended))
