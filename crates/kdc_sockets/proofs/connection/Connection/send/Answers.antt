use Rattle.std.proofs.Common.{rules, ◌≡◌, ap, refl}
use Rattle.kdc_sockets.specs.declared.connection.Connection.{Connection}
use Rattle.kdc_sockets.proofs.Unsent.{left_later}
use Rattle.kdc_sockets.proofs.connection.Connection.send.Goals.{then-self, else-self}
use Rattle.kdc_sockets.proofs.connection.Connection.send.Goals as goal

pub loop-preserved : goal.loop-preserved
loop-preserved c =
    let same : c.if-self.self.unsent.items ≡ c.write_once.new.self.unsent.items =
    elim c.if-self.branch [ then-self w ↦ ap (λ (self : Connection). self.unsent.items) w.self-is | else-self w ↦ ap (λ (self : Connection). self.unsent.items) w.self-is ] in
    record { closing = search rules; given = search rules; peer = search rules; idle = search rules; idle_at = search rules; left = left_later _ _ _ _ c.loop.invariant.left c.write_once.ensures.left same }

pub returns-in_err-write_once-clause-left : goal.returns-in_err-write_once-clause-left
returns-in_err-write_once-clause-left c = left_later _ _ _ _ c.loop.invariant.left c.write_once.ensures.left refl

pub returns-then-not-branch-clause-left : goal.returns-then-not-branch-clause-left
returns-then-not-branch-clause-left c = left_later _ _ _ _ c.loop.invariant.left c.write_once.ensures.left refl
