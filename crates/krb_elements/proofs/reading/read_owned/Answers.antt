use Rattle.std.proofs.Common.{arith}
use Rattle.krb_elements.specs.Laws.{is_found, is_only}
use Rattle.krb_elements.proofs.reading.read_owned.Goals as goal

pub returns-clause-found : goal.returns-clause-found
returns-clause-found g c =
    let codec = g.T.Coded.codec in
    is_found codec.Spells codec.at codec.laws.element c.args.bytes.now c.read_parts.result (λ i. omega (arith, c.type_inv.bytes i)) c.read_parts.ensures

pub returns-clause-only : goal.returns-clause-only
returns-clause-only g c = let codec = g.T.Coded.codec in is_only codec.Spells codec.at codec.laws.element c.args.bytes.now c.read_parts.result c.read_parts.ensures
