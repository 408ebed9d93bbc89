use Rattle.std.proofs.Common.{◌≤◌, length, arith}
use Rattle.tgs_opening.specs.RequestLaws.{value_short}
use Rattle.kdc_core.proofs.contents.read_request.Goals as goal

pub returns-clause-data : goal.returns-clause-data
returns-clause-data c =
    let few : length c.args.request.now ≤ 2147483647 = omega (arith, c.if-request-gt-GREATEST_REQUEST.false) in
    value_short c.in-Ok.found.0 c.in-Ok.found.1 c.args.request.now (λ i. omega (arith, c.type_inv.request i)) few c.in-Ok.ensures.found

pub returns-clause-bytes : goal.returns-clause-bytes
returns-clause-bytes c = λ i. omega (arith, c.type_inv.request i)
