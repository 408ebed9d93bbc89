use Rattle.std.specs.Prelude.{◌≡◌, All, take}
use Rattle.kclient.specs.CacheSessions.{Collected, IsHeld}
use Rattle.kclient.specs.Worlds.{CameFurther, IsGranted}
use Rattle.kclient.proofs.kvno.get_each.Given as goal

-- tickets were collected, each service so far has one, and no file changed
abbrev pub invariant-loop-service : goal.invariant-loop-service
invariant-loop-service g l =
    Collected (IsGranted (CameFurther g.X.Network.finds g.X.Network.carries g.X.Network.answers)) l.fn.session l.session
    × All (IsHeld (IsGranted (CameFurther g.X.Network.finds g.X.Network.carries g.X.Network.answers)) l.at.sec
    l.session.cache.credentials) (take l.service-index l.services)
    × (g.T.Store.world l.context.store ≡ g.T.Store.world l.fn.context.store)
