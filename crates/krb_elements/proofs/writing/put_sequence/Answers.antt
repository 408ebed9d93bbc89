use Rattle.std.proofs.Common.{◌∙◌}
use Rattle.krb_der.specs.Ended.{ended_value}
use Rattle.krb_elements.specs.Codec.{fields_text, onto_is}
use Rattle.krb_elements.specs.Continues.{appended_before, appended_or}
use Rattle.krb_elements.proofs.writing.put_sequence.Goals as goal

pub returns-clause-ok : goal.returns-clause-ok
returns-clause-ok g c =
    ended_value c.end.result _ c.put_fields.new.out c.begin.new.self c.args.out.now
    (fields_text g.T.Fielded.form c.args.value.now) c.len-start.result 48 c.len-start.ensures c.in_ok-begin.ensures.ok
    (c.in_ok-put_fields.ensures.ok ∙ onto_is g.T.Fielded.form c.begin.new.self c.args.value.now) c.end.ensures.ok

pub returns-in_err-put_fields-clause-kept : goal.returns-in_err-put_fields-clause-kept
returns-in_err-put_fields-clause-kept g c =
    appended_before c.args.out.now _ _ _ c.in_ok-begin.ensures.ok c.put_fields.ensures.kept

pub returns-clause-kept : goal.returns-clause-kept
returns-clause-kept g c =
    appended_or c.end.result c.args.out.now _ _ _
    (appended_before c.args.out.now _ _ _ c.in_ok-begin.ensures.ok c.put_fields.ensures.kept)
    (returns-clause-ok g c) c.end.ensures.err
