use Rattle.std.proofs.Common.{◌∙◌, arith}
use Rattle.preauth.specs.LengthLaws.{entries_short, info_short}
use Rattle.preauth.proofs.methods.etype_info2.Goals as goal

pub write-requires : goal.write-requires
write-requires c = omega (arith, entries_short c.args.salt.now c.args.types.now c.in_ok-entries.entries c.requires.short c.requires.few c.in_ok-entries.ensures)

pub returns-clause-short : goal.returns-clause-short
returns-clause-short c =
    info_short c.args.salt.now c.args.types.now c.in_ok-entries.entries c.new.result c.requires.short c.requires.few c.in_ok-entries.ensures
    (c.new.ensures ∙ c.in_ok-write.ensures.written)
