use Rattle.std.proofs.Common.{◌≡◌, Err, inr, rules}
use Rattle.kdcd.specs.declared.script.ScriptError.TheVariants.{Fault}
use Rattle.kdcd.proofs.Running.{run_goes_on, run_ends, run_stops_beyond, run_stops_at_text}
use Rattle.kdcd.proofs.script.run_on.Goals as goal

pub returns-in_err-next_line-clause-fault : goal.returns-in_err-next_line-clause-fault
returns-in_err-next_line-clause-fault g c = λ is.
    let fault : c.next_line.result ≡ Err Fault = search rules in
    run_stops_beyond _ _ _ _ c.loop-line.kdc c.loop-line.input.number c.loop-line.input.taken c.next_line.new.self.number
    c.loop-line.invariant.run (c.next_line.ensures.fault fault) (c.next_line.ensures.number (inr fault))

pub loop-line-preserved : goal.loop-line-preserved
loop-line-preserved g c = record {
  early = c.in_ok-next_line.ensures.within;
  run = run_goes_on _ _ _ _ _ _ c.loop-line.kdc c.run_text.new.kdc c.loop-line.input.number c.loop-line.input.taken c.next_line.new.self.number
      c.next_line.new.self.taken c.next_line.new.line.items c.deref.result.now c.loop-line.invariant.run (c.in_ok-next_line.ensures.line c.if-branch.true)
      (c.in_ok-next_line.ensures.number (search rules)) c.deref.ensures.value c.in_ok-run_text.ensures.ok;
}

pub returns-in_err-run_text-clause-fault : goal.returns-in_err-run_text-clause-fault
returns-in_err-run_text-clause-fault g c = λ is.
    let fault : c.run_text.result ≡ Err Fault = search rules in
    run_stops_at_text _ _ _ _ _ _ c.loop-line.kdc c.loop-line.input.number c.loop-line.input.taken c.next_line.new.self.number
    c.next_line.new.self.taken c.next_line.new.line.items c.deref.result.now c.loop-line.invariant.run (c.in_ok-next_line.ensures.line c.if-branch.true)
    (c.in_ok-next_line.ensures.number (search rules)) c.deref.ensures.value (c.run_text.ensures.fault fault) (c.run_text.ensures.unchanged fault)

pub returns-clause-done : goal.returns-clause-done
returns-clause-done g c =
    run_ends _ _ _ _ _ c.loop-line.kdc c.loop-line.input.number c.loop-line.input.taken c.loop-line.invariant.run (c.in_ok-next_line.ensures.end c.if-branch.false)
    c.flush.ensures.bytes
