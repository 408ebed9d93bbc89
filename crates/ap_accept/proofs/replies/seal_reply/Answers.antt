use Rattle.std.proofs.Common.{ℕ, ◌≤◌, List, length, subst, sym, arith, to_z, of_z, w32}
use Rattle.ap_accept.specs.LengthLaws.{reply_short}
use Rattle.ap_accept.proofs.replies.seal_reply.Goals as goal

pub returns-clause-short : goal.returns-clause-short
returns-clause-short c =
    let few : length c.in_ok-cipher.cipher.items ≤ 146 = omega (arith, c.in_ok-cipher.ensures.most, c.reply_part-part.ensures.short) in
    reply_short (to_z w32 (of_z w32 c.number.result)) c.new.result (subst (λ (l : List ℕ). length l ≤ 146) (sym c.new.ensures) few)
