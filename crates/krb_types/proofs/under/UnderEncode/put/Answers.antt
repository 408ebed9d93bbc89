use Rattle.krb_der.specs.Ended.{ended_value}
use Rattle.krb_elements.specs.Continues.{appended_before, appended_or}
use Rattle.krb_types.proofs.under.UnderEncode.put.Goals as goal

pub returns-clause-ok : goal.returns-clause-ok
returns-clause-ok g c =
    rw (← c.self.view_is)
    (ended_value c.end.result _ c.put.new.out c.begin.new.self c.args.out.now _ c.len-start.result _ c.len-start.ensures
    c.in_ok-begin.ensures.ok c.in_ok-put.ensures.ok c.end.ensures.ok)

pub returns-in_err-put-clause-kept : goal.returns-in_err-put-clause-kept
returns-in_err-put-clause-kept g c =
    appended_before c.args.out.now _ _ _ c.in_ok-begin.ensures.ok c.put.ensures.kept

pub returns-clause-kept : goal.returns-clause-kept
returns-clause-kept g c =
    appended_or c.end.result c.args.out.now _ _ _
    (appended_before c.args.out.now _ _ _ c.in_ok-begin.ensures.ok c.put.ensures.kept)
    (returns-clause-ok g c) c.end.ensures.err
