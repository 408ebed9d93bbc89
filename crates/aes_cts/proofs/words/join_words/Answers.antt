use Rattle.std.proofs.Common.{ap, sym}
use Rattle.aes_cts.specs.Words.{octets}
use Rattle.aes_cts.proofs.WordLaws.{four_cells}
use Rattle.aes_cts.proofs.words.join_words.Goals as goal

pub returns : goal.returns
returns c =
    rw (
      c.copy_from_slice-2.ensures.after,
      c.copy_from_slice.ensures.after,
      c.join_two.ensures,
      c.join_two-2.ensures,
    )
    (ap octets (sym (four_cells c.args.words.now c.told-words)))
