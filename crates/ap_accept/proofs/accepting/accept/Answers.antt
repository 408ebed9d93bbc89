use Rattle.std.proofs.Common.{rules, ◌≡◌, Some, Ok, sym, subst}
use Rattle.std.proofs.lemmas.Result.{err_from_is_err_and}
use Rattle.ap_accept.specs.Accepts.{Answer, IsAfter, IsAnswer, request_of}
use Rattle.ap_accept.specs.Presented.{presented}
use Rattle.ap_accept.proofs.Ruling.{answered, ruled, unopened_answer, unopened_state}
use Rattle.ap_accept.proofs.accepting.accept.Goals as goal

pub returns-in_err-presented-clause-answer : goal.returns-in_err-presented-clause-answer
returns-in_err-presented-clause-answer c =
    let read : request_of c.args.ap_req.now ≡ Some c.in-Ok.request = search rules in
    let p = err_from_is_err_and c.from_residual.result c.from_residual.ensures.1 in
    rw (p.1, p.2) (unopened_answer c.args.state.now c.args.at c.args.confounder.now c.args.ap_req.now c.in-Ok.request read c.in_err-presented.field-0.0 c.in_err-presented.ensures)

pub returns-in_err-presented-clause-state : goal.returns-in_err-presented-clause-state
returns-in_err-presented-clause-state c =
    let read : request_of c.args.ap_req.now ≡ Some c.in-Ok.request = search rules in
    let p = err_from_is_err_and c.from_residual.result c.from_residual.ensures.1 in
    rw (p.1, p.2) (unopened_state c.args.state.now c.args.at c.args.confounder.now c.args.ap_req.now c.in-Ok.request read c.in_err-presented.field-0.0 c.in_err-presented.ensures)

pub returns-clause-answer : goal.returns-clause-answer
returns-clause-answer c =
    let read : request_of c.args.ap_req.now ≡ Some c.in-Ok.request = search rules in
    let opened : presented c.args.state.now.keytab c.in-Ok.request ≡ Ok c.in_ok-presented.presented = search rules in
    subst (λ (a : Answer). IsAnswer c.judge.result a.answer)
    (sym (ruled c.args.state.now c.args.at c.args.confounder.now c.args.ap_req.now c.in-Ok.request c.has-wanted.result c.in_ok-presented.presented read c.has-wanted.ensures opened)) c.judge.ensures.answer

pub returns-clause-state : goal.returns-clause-state
returns-clause-state c =
    let read : request_of c.args.ap_req.now ≡ Some c.in-Ok.request = search rules in
    let opened : presented c.args.state.now.keytab c.in-Ok.request ≡ Ok c.in_ok-presented.presented = search rules in
    subst (λ (a : Answer). IsAfter c.judge.result c.args.state.now c.judge.new.state a.state)
    (sym (ruled c.args.state.now c.args.at c.args.confounder.now c.args.ap_req.now c.in-Ok.request c.has-wanted.result c.in_ok-presented.presented read c.has-wanted.ensures opened)) c.judge.ensures.state

pub returns-clause-reply : goal.returns-clause-reply
returns-clause-reply c =
    let read : request_of c.args.ap_req.now ≡ Some c.in-Ok.request = search rules in
    let opened : presented c.args.state.now.keytab c.in-Ok.request ≡ Ok c.in_ok-presented.presented = search rules in
    answered c.args.state.now c.args.at c.args.confounder.now c.args.ap_req.now c.in-Ok.request c.in_ok-presented.presented c.judge.result read opened c.judge.ensures.reply
