use Rattle.std.proofs.Common.{List, ℕ, [], sym, subst}
use Rattle.ap_accept.specs.Saved.{held, Puts}
use Rattle.ap_accept.proofs.Putting.{if_ok}
use Rattle.ap_accept.proofs.Resuming.{held_of, saves}
use Rattle.ap_accept.proofs.state.State.save.Goals as goal

pub returns : goal.returns
returns c =
    let text : Puts held (held_of c.args.self.now) [] c.as_slice-octets.result.now =
    subst (λ (l : List ℕ). Puts held (held_of c.args.self.now) [] l) (sym c.as_slice-octets.ensures.value) c.in_ok-text.ensures in
    if_ok c.joined.result (λ bytes is. saves c.args.self.now c.check_of-check.result c.as_slice-octets.result.now bytes.items text c.check_of-check.ensures is) c.joined.ensures
