use Rattle.std.proofs.Common.{◌≡◌, Err, rules}
use Rattle.kdcd.specs.declared.line.LineError.TheVariants.{Form}
use Rattle.kdcd.proofs.LineTexts.{open_texts}
use Rattle.kdcd.proofs.line.parse_open.Goals as goal

pub returns-in_default-limits-clause-form : goal.returns-in_default-limits-clause-form
returns-in_default-limits-clause-form c e line is =
    let texts = open_texts c.args.fields.now _ line is in
    c.in_default-limits.ensures.none texts.1.0 texts.1.1

pub returns-in_err-realm-clause-form : goal.returns-in_err-realm-clause-form
returns-in_err-realm-clause-form c e line is =
    let refused : c.realm.result ≡ Err Form = search rules in
    let texts = open_texts c.args.fields.now _ line is in
    c.realm.ensures.form refused texts.0.0 texts.0.1

pub returns-in_err-keys-clause-form : goal.returns-in_err-keys-clause-form
returns-in_err-keys-clause-form c e line is =
    let refused : c.keys.result ≡ Err Form = search rules in
    let texts = open_texts c.args.fields.now _ line is in
    c.keys.ensures.form refused texts.2.0 texts.2.1
