use Rattle.std.proofs.Common.{ℤ, ◌∙◌, ap, pos, w32, arith, to_z, of_z}
use Rattle.std.proofs.lemmas.Int.{to_z-of_z}
use Rattle.enctypes.specs.Numbered.{type_numbered}
use Rattle.enctypes.specs.NumberedLaws.{numbered}
use Rattle.mit_dump.proofs.entries.short_etype.Goals as goal

pub returns : goal.returns
returns c =
    numbered (to_z w32 (of_z w32 c.from.result)) c.from_number.result c.from_number.ensures.named c.from_number.ensures.none
    ∙ ap type_numbered (ap (λ (z : ℤ). to_z w32 (of_z w32 z)) c.from.ensures ∙ to_z-of_z w32 (pos c.args.number) (omega (arith, c.ranges.number.fits)))
