use Rattle.std.proofs.Common.{arith}
use Rattle.krb_elements.specs.DecodedLaws.{one_if_decoded, short_if_decoded}
use Rattle.krb_elements.proofs.messages.decode.Goals as goal

pub returns-clause-one : goal.returns-clause-one
returns-clause-one g c has =
    one_if_decoded g.X.Coded.codec has c.read_owned.result c.args.bytes.now (λ i. omega (arith, c.type_inv.bytes i)) c.read_owned.ensures.found

pub returns-clause-short : goal.returns-clause-short
returns-clause-short g c =
    short_if_decoded g.X.Coded.codec c.read_owned.result c.args.bytes.now (λ i. omega (arith, c.type_inv.bytes i)) c.read_owned.ensures.found
