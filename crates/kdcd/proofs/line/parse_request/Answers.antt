use Rattle.std.proofs.Common.{◌≡◌, Err, rules}
use Rattle.kdcd.specs.declared.line.LineError.TheVariants.{Form}
use Rattle.kdcd.proofs.LineTexts.{request_octets}
use Rattle.kdcd.proofs.line.parse_request.Goals as goal

pub returns-in_err-octets-clause-form : goal.returns-in_err-octets-clause-form
returns-in_err-octets-clause-form c e line is =
    let refused : c.octets.result ≡ Err Form = search rules in
    let octets = request_octets c.args.fields.now _ line is in
    c.octets.ensures.form refused octets.0 octets.1
