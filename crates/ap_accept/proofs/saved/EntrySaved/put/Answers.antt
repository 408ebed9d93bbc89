use Rattle.ap_accept.specs.Saved.{both, name}
use Rattle.ap_accept.proofs.Putting.{both_puts, made_puts, on_ok}
use Rattle.ap_accept.proofs.saved.EntrySaved.put.Goals as goal

pub returns : goal.returns
returns g c =
    on_ok c.put.result (λ q. made_puts (λ v. record { name = v.0; value = v.1 }) (both name g.V.Saved.at) (c.args.self.now.name, c.args.self.now.value) c.args.out.now.items c.put.new.out.items
    (both_puts name g.V.Saved.at c.args.self.now.name c.args.self.now.value c.args.out.now.items c.put_name.new.out.items c.put.new.out.items c.in_ok-put_name.ensures q)) c.put.ensures
