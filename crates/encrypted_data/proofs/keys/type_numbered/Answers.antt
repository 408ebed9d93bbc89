use Rattle.std.proofs.Common.{SFits, w32, to_z-of_z}
use Rattle.enctypes.specs.NumberedLaws.{numbered}
use Rattle.encrypted_data.proofs.keys.type_numbered.Goals as goal

pub returns : goal.returns
returns c =
    let fits : SFits w32 c.args.number = c.ranges.number in
    let named = simp to_z-of_z at c.from_number.ensures.named in
    let none = simp to_z-of_z at c.from_number.ensures.none in
    numbered c.args.number c.from_number.result named none
