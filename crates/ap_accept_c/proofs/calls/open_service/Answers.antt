use Rattle.std.proofs.Common.{rules, ◌≡◌, false, inl, inr, refl, sym, subst, ◌∙◌, true≢false, is_some, to_z, of_z, w64}
use Rattle.krb_fields.specs.Moment.{IsSecond}
use Rattle.ap_accept_c.specs.Calls.{IsOpening}
use Rattle.ap_accept_c.proofs.calls.open_service.Goals as goal

pub returns-in_default-clause-opened : goal.returns-in_default-clause-opened
returns-in_default-clause-opened c =
    let gone : is_some c.new.result ≡ false = search rules in
    let is : to_z w64 (of_z w64 c.args.start.now.time.sec) ≡ c.args.start.now.time.sec = search rules in
    inl (record { none = λ both. true≢false (sym (c.new.ensures.found.1 (subst IsSecond (sym is) both.0, both.1)) ∙ gone); refused = refl; kept = refl })

pub returns-clause-opened : goal.returns-clause-opened
returns-clause-opened c =
    let is : to_z w64 (of_z w64 c.args.start.now.time.sec) ≡ c.args.start.now.time.sec = search rules in
    inr (record {
      at = c.in-Some.at;
      same = (c.in-Some.ensures.value.0 ∙ is, c.in-Some.ensures.value.1);
      holds = subst (λ opening. IsOpening c.open.result c.args.holder.now.held.value c.open.new.holder.held.value c.args.keytab.now c.args.start.now.remembered opening) c.opening_at-opening.ensures c.open.ensures.opened;
    })
