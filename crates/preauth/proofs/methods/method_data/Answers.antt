use Rattle.std.proofs.Common.{rules, ◌≡◌, ◌∷◌, [], ◌∙◌, arith}
use Rattle.preauth.specs.MethodData.{timestamp_wanted}
use Rattle.preauth.specs.LengthLaws.{methods_short, method_data_short}
use Rattle.preauth.proofs.methods.method_data.Goals as goal

pub write-requires : goal.write-requires
write-requires c =
    let info = c.in_ok-etype_info2.field-0 in
    let both : c.push-2.new.self ≡ info ∷ timestamp_wanted ∷ [] = search rules in
    omega (arith, methods_short info c.push-2.new.self c.in_ok-etype_info2.ensures.short both)

pub returns-clause-short : goal.returns-clause-short
returns-clause-short c =
    let info = c.in_ok-etype_info2.field-0 in
    let both : c.push-2.new.self ≡ info ∷ timestamp_wanted ∷ [] = search rules in
    let n = method_data_short info c.push-2.new.self _ c.in_ok-etype_info2.ensures.short both (c.new.ensures ∙ c.in_ok-write.ensures.written) in
    omega (arith, n)
