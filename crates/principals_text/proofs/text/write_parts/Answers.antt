use Rattle.std.proofs.lemmas.Result.{on_ok_weaker}
use Rattle.principals_text.proofs.RowTokens.{one_more, if_one_more, chain}
use Rattle.principals_text.proofs.text.write_parts.Goals as goal

pub returns : goal.returns
returns c =
    on_ok_weaker c.end_object.result (λ e.
    chain (one_more c.in_ok-begin_object.ensures)
    (chain (one_more c.in_ok-key.ensures)
    (chain c.in_ok-write_rows.ensures
    (chain (one_more c.in_ok-key-2.ensures)
    (chain (one_more c.in_ok-string.ensures)
    (chain (one_more c.in_ok-key-3.ensures)
    (chain (one_more c.in_ok-u64.ensures) e)))))))
    (if_one_more c.end_object.result _ _ _ c.end_object.ensures)
