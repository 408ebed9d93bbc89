use Rattle.std.proofs.Common.{rules, ap, ◌∙◌, SFits, w64}
use Rattle.std.proofs.lemmas.Int.{to_z-of_z}
use Rattle.std.specs.FinMap as map
use Rattle.replay.specs.Stamp.{is_from}
use Rattle.ap_accept.specs.Stamps.{Stamps}
use Rattle.ap_accept.proofs.client.listed.Goals as goal

pub returns : goal.returns
returns c =
    let fits : SFits w64 c.args.floor = search rules in
    simp to_z-of_z at c.drop_before.ensures.pairs
    ∙ ap (λ (p : Stamps). map.retain_keys p (is_from c.args.floor)) c.in_ok-pairs.ensures
