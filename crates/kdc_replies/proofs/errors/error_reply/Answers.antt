use Rattle.std.proofs.Common.{rules, ◌≡◌, ◌<◌, length, Option, Some, None, ap, ◌∙◌}
use Rattle.std.specs.Option.{option_copied, unwrap_or}
use Rattle.krb_fields.specs.PrincipalName.{Name, name}
use Rattle.krb_types.specs.KrbError.{krb_error}
use Rattle.krb_fields.specs.Granting.{tgs_name}
use Rattle.kdc_replies.proofs.ErrorLengths.{made_is, made_short}
use Rattle.kdc_replies.proofs.Results.{respelled}
use Rattle.kdc_replies.proofs.errors.error_reply.Goals as goal

pub write-requires : goal.write-requires
write-requires c =
    let shorter : length (name.text c.in-Some.name.now) < 2147483648 = search rules in
    made_short c.args.realm.now c.args.at c.args.code (Some c.in-Some.name.now) c.args.e_data c.sent_name.result c.lent_error.result
    c.lent_error.ensures c.sent_name.ensures c.requires.realm shorter c.requires.e_data

pub write-requires-in-None : goal.write-requires-in-None
write-requires-in-None c =
    made_short c.args.realm.now c.args.at c.args.code None c.args.e_data c.in_ok-tgs-in-None.tgs c.lent_error-in-None.result
    c.lent_error-in-None.ensures c.in_ok-tgs-in-None.ensures c.requires.realm tt c.requires.e_data

pub returns-in_ok-tgs-in-None-clause-spelled : goal.returns-in_ok-tgs-in-None-clause-spelled
returns-in_ok-tgs-in-None-clause-spelled c =
    let none : ◌≡◌ {A = Option Name} None (option_copied c.args.sname) = search rules in
    respelled krb_error.Spells (λ v. v.items) _ _ c.write-in-None.result
    (made_is c.args.realm.now c.args.at c.args.code (option_copied c.args.sname) c.args.e_data c.in_ok-tgs-in-None.tgs c.lent_error-in-None.result
    c.lent_error-in-None.ensures (c.in_ok-tgs-in-None.ensures ∙ ap (λ (o : Option Name). unwrap_or o (tgs_name c.args.realm.now)) none))
    c.write-in-None.ensures.spelled
