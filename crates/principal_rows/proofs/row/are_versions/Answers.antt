use Rattle.std.proofs.lemmas.Grind.{common_steps}
use Rattle.std.proofs.Common.{rules, arith, ◌<◌, length, sym, ◌∙◌}
use Rattle.principal_rows.proofs.Fronts.{All-front, All-none}
use Rattle.principal_rows.proofs.VersionLists.{IsNumbered, are_falling-none, is_versions-tested}
use Rattle.principal_rows.proofs.row.are_versions.Goals as goal

pub loop-rest-preserved : goal.loop-rest-preserved
loop-rest-preserved c =
    let here : IsNumbered c.version-item.result = record { bounded = search rules; keys_fit = search rules } in
    (grind (arith, common_steps), λ later. c.loop-rest.invariant.1 (All-front IsNumbered c.loop-rest.rest.now c.version-item.result c.in-len1-up.len_at_least c.version-item.is here later))

pub returns-clause-valid : goal.returns-clause-valid
returns-clause-valid c is =
    let some : 0 < length c.args.versions.now = search rules in
    is_versions-tested c.args.versions.now (c.loop-rest.invariant.1 (All-none IsNumbered c.loop-rest.rest.now c.in_default.len_below)) some
    (sym c.loop-rest.invariant.0 ∙ are_falling-none c.loop-rest.rest.now c.in_default.len_below)
