use Rattle.std.proofs.Common.{rules, ◌≡◌, refl, sym, subst, ◌∙◌, to_z, of_z, w64}
use Rattle.krb_fields.specs.Moment.{IsSecond}
use Rattle.ap_accept_c.specs.Calls.{IsAccepted}
use Rattle.ap_accept_c.proofs.Moments.{at_the_same}
use Rattle.ap_accept_c.proofs.calls.accept_request.Goals as goal

pub returns-clause-accepted : goal.returns-clause-accepted
returns-clause-accepted c =
    let is : to_z w64 (of_z w64 c.args.time.sec) ≡ c.args.time.sec = search rules in
    let both = c.in-Some.ensures.found.0 refl in
    record {
      none = λ absent. absurd (absent (subst IsSecond is both.0, both.1));
      accepted = λ at same.
          at_the_same (λ m. IsAccepted c.accept.result.status c.args.holder.now.held.value c.accept.new.holder.held.value m c.args.confounder.now c.args.ap_req.now c.accept.result.numbers)
          c.in-Some.at at (c.in-Some.ensures.value.0 ∙ is ∙ sym same.0) (c.in-Some.ensures.value.1 ∙ sym same.1) c.accept.ensures.accepted;
    }
