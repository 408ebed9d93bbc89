use Rattle.std.proofs.Common.{rules, IsTrue}
use Rattle.principals_text.proofs.TakenTokens.{version_taken}
use Rattle.principals_text.proofs.row_reading.take_version.Goals as goal

pub returns : goal.returns
returns c =
    let opens : IsTrue c.takes_object.result = search rules in
    let named : IsTrue c.takes_name.result = search rules in
    let ended : IsTrue c.takes_object_end.result = search rules in
    version_taken c.args.reader.now c.takes_object.new.reader c.takes_name.new.reader c.take_keys.new.reader c.take_number.new.reader c.takes_object_end.new.reader c.in_ok-keys.keys c.in_ok-number.number
    (c.takes_object.ensures opens) (c.takes_name.ensures named) c.in_ok-keys.ensures c.in_ok-number.ensures (c.takes_object_end.ensures ended)
