use Rattle.std.proofs.Common.{length, ap, ◌∙◌}
use Rattle.std.proofs.lemmas.List.{take_at}
use Rattle.ap_accept_c.proofs.raw_key.filled.Goals as goal

pub returns : goal.returns
returns c =
    take_at c.copy_from_slice.new.self _ (length c.args.octets.now) (ap length c.copy_from_slice.ensures.after)
    ∙ c.copy_from_slice.ensures.after
