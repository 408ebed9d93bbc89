use Rattle.std.proofs.Common.{arith}
use Rattle.krb_types.specs.KrbError.{krb_error, krb_error_one}
use Rattle.krb_types.proofs.Read.{one_if_read}
use Rattle.krb_types.proofs.krb_error.decode_krb_error.Goals as goal

pub returns-clause-one : goal.returns-clause-one
returns-clause-one c =
    one_if_read krb_error.Spells krb_error.tag krb_error.text krb_error_one c.read_owned.result c.args.bytes.now (λ i. omega (arith, c.type_inv.bytes i)) c.read_owned.ensures.found
