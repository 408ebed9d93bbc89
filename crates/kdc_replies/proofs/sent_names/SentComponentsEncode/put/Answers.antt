use Rattle.krb_der.specs.Ended.{ended_value}
use Rattle.krb_elements.specs.Continues.{appended_before, appended_or}
use Rattle.kdc_replies.proofs.sent_names.SentComponentsEncode.put.Goals as goal

pub returns-clause-ok : goal.returns-clause-ok
returns-clause-ok c =
    rw (← c.self.view_is)
    (ended_value c.end.result _ c.put_components.new.out c.begin.new.self c.args.out.now _ c.len-start.result 48
    c.len-start.ensures c.in_ok-begin.ensures.ok c.in_ok-put_components.ensures.ok c.end.ensures.ok)

pub returns-in_err-put_components-clause-kept : goal.returns-in_err-put_components-clause-kept
returns-in_err-put_components-clause-kept c =
    appended_before c.args.out.now _ _ _ c.in_ok-begin.ensures.ok c.put_components.ensures.kept

pub returns-clause-kept : goal.returns-clause-kept
returns-clause-kept c =
    appended_or c.end.result c.args.out.now _ _ _
    (appended_before c.args.out.now _ _ _ c.in_ok-begin.ensures.ok c.put_components.ensures.kept)
    (returns-clause-ok c) c.end.ensures.err
