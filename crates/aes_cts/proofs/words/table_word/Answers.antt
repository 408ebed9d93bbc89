use Rattle.std.proofs.Common.{ℕ, ap, sym, ◌∙◌, arith}
use Rattle.std.specs.Int.{w32, to_be_bytes}
use Rattle.aes_cts.specs.SBox.{s_box, inverse_s_box}
use Rattle.aes_cts.proofs.Tables.{s_box-lt, inverse_s_box-lt}
use Rattle.aes_cts.proofs.WordLaws.{table_cells, turned_none, turned_one, turned_two, turned_three}
use Rattle.aes_cts.proofs.words.table_word.Goals as goal

pub returns-in-0-clause-word : goal.returns-in-0-clause-word
returns-in-0-clause-word c =
    ap (to_be_bytes w32) c.mixing.ensures ∙ turned_none 2 3 1 1 (s_box c.args.j) (s_box-lt c.args.j (omega arith))
    ∙ ap (λ (k : ℕ). table_cells k (s_box c.args.j) (inverse_s_box c.args.j)) (sym c.in-0.is)

pub returns-in-1-clause-word : goal.returns-in-1-clause-word
returns-in-1-clause-word c =
    ap (to_be_bytes w32) c.mixing-in-1.ensures
    ∙ turned_one 2 3 1 1 (s_box c.args.j) (s_box-lt c.args.j (omega arith))
    ∙ ap (λ (k : ℕ). table_cells k (s_box c.args.j) (inverse_s_box c.args.j)) (sym c.in-1.is)

pub returns-in-2-clause-word : goal.returns-in-2-clause-word
returns-in-2-clause-word c =
    ap (to_be_bytes w32) c.mixing-in-2.ensures
    ∙ turned_two 2 3 1 1 (s_box c.args.j) (s_box-lt c.args.j (omega arith))
    ∙ ap (λ (k : ℕ). table_cells k (s_box c.args.j) (inverse_s_box c.args.j)) (sym c.in-2.is)

pub returns-in-3-clause-word : goal.returns-in-3-clause-word
returns-in-3-clause-word c =
    ap (to_be_bytes w32) c.mixing-in-3.ensures
    ∙ turned_three 2 3 1 1 (s_box c.args.j) (s_box-lt c.args.j (omega arith))
    ∙ ap (λ (k : ℕ). table_cells k (s_box c.args.j) (inverse_s_box c.args.j)) (sym c.in-3.is)

pub returns-in-4-clause-word : goal.returns-in-4-clause-word
returns-in-4-clause-word c =
    ap (to_be_bytes w32) c.unmixing.ensures
    ∙ turned_none 14 11 13 9 (inverse_s_box c.args.j) (inverse_s_box-lt c.args.j (omega arith))
    ∙ ap (λ (k : ℕ). table_cells k (s_box c.args.j) (inverse_s_box c.args.j)) (sym c.in-4.is)

pub returns-in-5-clause-word : goal.returns-in-5-clause-word
returns-in-5-clause-word c =
    ap (to_be_bytes w32) c.unmixing-in-5.ensures
    ∙ turned_one 14 11 13 9 (inverse_s_box c.args.j) (inverse_s_box-lt c.args.j (omega arith))
    ∙ ap (λ (k : ℕ). table_cells k (s_box c.args.j) (inverse_s_box c.args.j)) (sym c.in-5.is)

pub returns-in-6-clause-word : goal.returns-in-6-clause-word
returns-in-6-clause-word c =
    ap (to_be_bytes w32) c.unmixing-in-6.ensures
    ∙ turned_two 14 11 13 9 (inverse_s_box c.args.j) (inverse_s_box-lt c.args.j (omega arith))
    ∙ ap (λ (k : ℕ). table_cells k (s_box c.args.j) (inverse_s_box c.args.j)) (sym c.in-6.is)

pub returns-in-7-clause-word : goal.returns-in-7-clause-word
returns-in-7-clause-word c =
    ap (to_be_bytes w32) c.unmixing-in-7.ensures
    ∙ turned_three 14 11 13 9 (inverse_s_box c.args.j) (inverse_s_box-lt c.args.j (omega arith))
    ∙ ap (λ (k : ℕ). table_cells k (s_box c.args.j) (inverse_s_box c.args.j)) (sym c.in-7.is)
