use Rattle.std.proofs.Common.{rules, ◌<◌, length, subst, sym}
use Rattle.std.specs.List.{All, Contains}
use Rattle.client_login.proofs.Within.{contained, one_more}
use Rattle.client_login.proofs.asking.other_than.Goals as goal
use Rattle.client_login.proofs.asking.other_than.Goals.{then-ne+in_ok-push, else-ne}

pub loop-address-preserved : goal.loop-address-preserved
loop-address-preserved c =
    let addresses = c.args.addresses.now in
    let below : c.loop-address.address-index < length addresses = search rules in
    elim c.if-ne.branch [
      | then-ne+in_ok-push w ↦
          subst (λ v. All (Contains addresses) v.items) (sym w.others-is)
          (one_more (Contains addresses) c.loop-address.others.items w.push.new.self.items _ c.loop-address.invariant
          (contained addresses c.loop-address.address-index _ below) w.in_ok-push.ensures.items)
      | else-ne w ↦ subst (λ v. All (Contains addresses) v.items) (sym w.others-is) c.loop-address.invariant
    ]
