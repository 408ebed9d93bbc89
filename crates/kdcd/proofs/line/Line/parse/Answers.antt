use Rattle.std.proofs.Common.{rules, ◌≡◌, ◌==◌, List, ℕ, map, sym, subst}
use Rattle.std.specs.List.{slice_split}
use Rattle.kdcd.specs.Line.{AreLineFields}
use Rattle.kdcd.proofs.line.Line.parse.Goals as goal

pub returns-clause-form : goal.returns-clause-form
returns-clause-form c e line is =
    let same : map (λ field. field.now) c.deref.result.now ≡ slice_split (λ o. o == 0x20) c.args.octets.now = search rules in
    c.parse_fields.ensures.form e line (subst (λ (texts : List (List ℕ)). AreLineFields line texts) (sym same) is.fields)
