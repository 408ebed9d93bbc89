use Rattle.std.proofs.Common.{ap, ◌∙◌}
use Rattle.kdc_state.proofs.CachesSeen.{cache_resumed}
use Rattle.kdc_state.specs.State.{cache_of}
use Rattle.kdc_state.proofs.state.State.resume.Goals as goal

pub returns-clause-caches : goal.returns-clause-caches
returns-clause-caches c name =
    ap (λ s. cache_of s name) c.in_ok-state.ensures ∙ cache_resumed name c.args.database c.args.limits c.args.resumption.now
