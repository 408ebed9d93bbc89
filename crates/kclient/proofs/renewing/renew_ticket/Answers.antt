use Rattle.std.proofs.Common.{rules, ◌≡◌, string_bytes, subst, sym}
use Rattle.client_files.specs.Caches.{HasCache}
use Rattle.kclient.specs.Words.{IsCacheNamed, text_of}
use Rattle.kclient.specs.Worlds.{CameFurther}
use Rattle.kclient.proofs.Doing.{renewed_there}
use Rattle.kclient.proofs.renewing.renew_ticket.Goals as goal

pub returns-clause-made : goal.returns-clause-made
returns-clause-made g c =
    let before = g.T.Store.world c.args.context.now.store in
    let path = c.as_str-path.result.now in
    let cache = c.in_ok-held.held.cache in
    let IsPath = IsCacheNamed (text_of c.args.cache) c.args.host.now in
    let there : path ≡ string_bytes c.in_ok-path.path = search rules in
    let kept : g.T.Store.world c.use_kdcs_of.new.context.store ≡ before = search rules in
    renewed_there c.renew_from.result (CameFurther g.X.Network.finds g.X.Network.carries g.X.Network.answers) IsPath
    before _ _ path cache c.in_ok-credential.credential.now c.renew_from.ensures.made
    (subst (λ p. HasCache before p cache) (sym there) c.in_ok-held.ensures.held)
    c.in_ok-credential.ensures (subst IsPath (sym there) c.in_ok-path.ensures.named) kept
