use Rattle.std.proofs.Common.{◌≡◌, Err, rules}
use Rattle.kdcd.specs.declared.line.LineError.TheVariants.{Form}
use Rattle.kdcd.specs.declared.script.ScriptError.TheVariants.{Fault}
use Rattle.kdcd.proofs.Faults.{none_can_run}
use Rattle.kdcd.proofs.script.run_text.Goals as goal

pub returns-in_err-line-clause-fault : goal.returns-in_err-line-clause-fault
returns-in_err-line-clause-fault g c = λ is.
    let refused : c.parse.result ≡ Err Form = search rules in
    record { not_empty = search rules; none_runs = λ line spelled. absurd (c.parse.ensures.form refused line spelled) }

pub returns-in_err-answer-clause-fault : goal.returns-in_err-answer-clause-fault
returns-in_err-answer-clause-fault g c = λ is.
    let refused : c.run_line.result ≡ Err Fault = search rules in
    record {
      not_empty = search rules;
      none_runs = none_can_run c.args.kdc.now c.args.text.now c.in_ok-line.line c.in_ok-line.ensures.ok (c.run_line.ensures.fault refused);
    }
