use Rattle.client_files.proofs.ConfigLaws.{one_place}
use Rattle.client_files.proofs.configs.parse_places.Goals as goal

pub loop-text-preserved : goal.loop-text-preserved
loop-text-preserved c =
    one_place (λ text. text.now) c.args.texts.now c.loop-text.text-index _ c.loop-text.places.items _ _ c.loop-text-test.true
    c.in_ok-push.ensures.items c.in_ok-parse_place.ensures c.loop-text.invariant
