use Rattle.std.proofs.Common.{rules, ap, ◌∙◌, SFits, w64}
use Rattle.std.proofs.lemmas.Int.{to_z-of_z}
use Rattle.std.specs.FinMap.{get, get-empty}
use Rattle.std.specs.Option.{unwrap_or}
use Rattle.krb_fields.specs.Name.{name_cmp}
use Rattle.replay.specs.ReplayCache as caches
use Rattle.replay.specs.Tidied.{empty_cache}
use Rattle.kdc_state.proofs.state.State.restart.Goals as goal

pub returns-clause-caches : goal.returns-clause-caches
returns-clause-caches c name =
    let fits : SFits w64 c.floor-self.result = search rules in
    simp to_z-of_z (ap (λ f. unwrap_or (get c.clear.new.self name) (empty_cache f)) c.floor-self.ensures
    ∙ ap (λ m. unwrap_or (get m name) (caches.restarted_cache c.args.at.sec)) c.clear.ensures ∙ ap (λ o. unwrap_or o (caches.restarted_cache c.args.at.sec)) (get-empty name_cmp name))
