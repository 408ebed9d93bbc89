use Rattle.std.proofs.Common.{◌∙◌, ap, refl}
use Rattle.kdc_server.specs.Resuming.{with_removed}
use Rattle.kdc_server.proofs.resuming.decide.Goals as goal

pub returns-in-Ok : goal.returns-in-Ok
returns-in-Ok c = record {
  place = record { realm = c.realm.result; boot = c.as_slice.result; seal = c.as_slice-2.result; at = c.args.at };
  realm = c.realm.ensures.realm;
  boot = c.as_slice.ensures;
  seal = c.as_slice-2.ensures;
  moment = refl;
  is = c.with_removed.ensures ∙ ap (with_removed c.args.journals.now.removed) c.in-Ok.ensures;
}
