use Rattle.std.proofs.Common.{arith}
use Rattle.std.proofs.lemmas.Grind.{common_steps}
use Rattle.enctypes.specs.Key.{IsKey}
use Rattle.principal_rows.proofs.Fronts.{All-front}
use Rattle.principal_rows.proofs.key_list.has_type_twice.Goals as goal

pub loop-rest-preserved : goal.loop-rest-preserved
loop-rest-preserved c =
    (grind (arith, common_steps), λ later. c.loop-rest.invariant.1 (All-front IsKey c.loop-rest.rest.now c.key-item.result c.in-len1-up.len_at_least c.key-item.is c.etype.ensures.valid later))
