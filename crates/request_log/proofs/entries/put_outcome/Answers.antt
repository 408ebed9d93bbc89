use Rattle.std.proofs.Common.{OnOk, option_copied, subst, sym}
use Rattle.request_log.specs.Entry.{audit_fields, outcome_fields, sent_fields}
use Rattle.request_log.specs.Field.{with_fields}
use Rattle.request_log.proofs.Fields.{in_two_parts}
use Rattle.request_log.proofs.entries.put_outcome.Goals as goal

pub returns : goal.returns
returns g c = λ fields holds.
    let audit = audit_fields (option_copied c.entry.inside.audit) in
    subst (λ entry. OnOk c.put_sent.result (g.W.FieldWriter.Holds c.put_sent.new.line (with_fields fields (outcome_fields entry)))) c.entry.view_is
    (subst (λ all. OnOk c.put_sent.result (g.W.FieldWriter.Holds c.put_sent.new.line all)) (sym (in_two_parts fields audit (sent_fields c.entry.inside.is_sent)))
    (c.put_sent.ensures (with_fields fields audit) (c.in_ok-put_audit.ensures fields holds)))
