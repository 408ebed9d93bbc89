-- The members that are written for rows, one by one.
use Rattle.std.proofs.Common.{◌≡◌, ℕ, zero, suc, ◌+◌, ◌<◌, ◌≤◌, List, [], ◌∷◌, length, get_or, drop, refl, sym, ap, subst, ◌∙◌, arith}
use Rattle.serde_json.specs.Data.{Members, put}
use Rattle.krb_fields.specs.NameText.{text_of}
use Rattle.principal_rows.specs.NameMap.{pairs}
use Rattle.principal_rows.specs.declared.name_map.Entry.{Entry}
use Rattle.principal_rows.specs.declared.row.Row.{Row}
use Rattle.principals_text.specs.RowWritten.{row_value}
use Rattle.principals_text.specs.Written.{with_rows}

next_entry : (es : List (Entry Row)) (i : ℕ) (e : Entry Row) → i < length es → e ≡ get_or es i e → drop i es ≡ e ∷ drop (suc i) es
next_entry [] i e within is = absurd (omega (arith, within))
next_entry (x ∷ es) zero e within is = ap (λ (y : Entry Row). y ∷ es) (sym is)
next_entry (x ∷ es) (suc i) e within is = next_entry es i e (omega (arith, within)) is

no_more : (es : List (Entry Row)) (i : ℕ) → length es ≤ i → drop i es ≡ []
no_more [] zero past = refl
no_more [] (suc i) past = refl
no_more (x ∷ es) zero past = absurd (omega (arith, past))
no_more (x ∷ es) (suc i) past = no_more es i (omega (arith, past))

-- the row at i is added to the members
pub one_more : (es : List (Entry Row)) (i : ℕ) (e : Entry Row) (old new total : Members) → i < length es → e ≡ get_or es i e → new ≡ put (text_of e.name.components) (row_value e.value) old → with_rows old (pairs (drop i es)) ≡ total → with_rows new (pairs (drop (i + 1) es)) ≡ total
one_more es i e old new total within is made so_far =
    let next : suc i ≡ i + 1 = omega arith in
    subst (λ n. with_rows new (pairs (drop n es)) ≡ total) next (
    ap (λ ms. with_rows ms (pairs (drop (suc i) es))) made
    ∙ sym (ap (λ l. with_rows old (pairs l)) (next_entry es i e within is)) ∙ so_far)

pub all_rows : (es : List (Entry Row)) (i : ℕ) (ms total : Members) → length es ≤ i → with_rows ms (pairs (drop i es)) ≡ total → ms ≡ total
all_rows es i ms total past so_far = sym (ap (λ l. with_rows ms (pairs l)) (no_more es i past)) ∙ so_far
