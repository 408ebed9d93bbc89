-- How many connections are open after one is written, dropped or added.
use Rattle.std.proofs.Common.{◌≡◌, ℕ, ◌+◌, ◌≤◌, ◌<◌, Bool, true, false, not, cond, List, [], ◌∷◌, length, Option, Some, None, refl, ap, ◌∙◌, sym, subst, arith}
use Rattle.std.specs.BTreeMap.{BTreeMap, IsOrdered, WritesThrough, insert_entry, is_at}
use Rattle.std.specs.List.{All, AllByRecursion, sum_by}
use Rattle.std.specs.Map.{lookup, remove_entry, set_value, values_of}
use Rattle.std.specs.Option.{IfNone, option_map, unwrap_or, IsSome}
use Rattle.std.specs.Ordering.{nat_cmp}
use Rattle.std.proofs.lemmas.Cmp.{nat_cmp_total}
use Rattle.std.proofs.lemmas.List.Elements.{recursion_from_All}
use Rattle.std.proofs.lemmas.List.Sums.{sum_by-cons}
use Rattle.std.proofs.lemmas.Map.Entries.{length-values_of, sum_by-remove_entry, sum_by-set_value, sum_by-insert_entry}
use Rattle.kdc_hub.specs.Hub.{most_connections}
use Rattle.kdc_sockets.specs.declared.connection.Connection.{Connection}
use Rattle.kdc_sockets.specs.Table.{Table, AreAll, FitsHub, count_if, held_at, is_open, open_count, opens}

-- what a connection counts
abbrev pub weight : Connection → ℕ
weight connection = cond (not connection.is_closing) 1 0

weighs : (b : Bool) → cond b 1 0 ≡ count_if b
weighs true = refl
weighs false = refl

weighs_held : (o : Option Connection) → unwrap_or (option_map weight o) 0 ≡ count_if (opens o)
weighs_held None = refl
weighs_held (Some connection) = weighs (not connection.is_closing)

-- One that is dropped counts no longer.
pub count_removed : (old new : Table) (conn : ℕ) → new ≡ remove_entry (is_at (nat_cmp conn)) old → open_count new + count_if (is_open old conn) ≡ open_count old
unfolding open_count
count_removed old new conn is =
    let test = is_at (nat_cmp conn) in
    ap (λ l. sum_by weight (values_of l) + count_if (opens (lookup test old))) is
    ∙ ap (λ n. sum_by weight (values_of (remove_entry test old)) + n) (sym (weighs_held (lookup test old)))
    ∙ sum_by-remove_entry weight test old

-- One that is written through a loan counts as it is now.
pub count_lent : (m n : BTreeMap ℕ Connection) (conn : ℕ) (v w : Connection) → held_at m.entries conn ≡ Some v → WritesThrough nat_cmp (nat_cmp conn) m w n → open_count n.entries + count_if (not v.is_closing) ≡ open_count m.entries + count_if (not w.is_closing)
unfolding open_count
count_lent m n conn v w held lent =
    let test = is_at (nat_cmp conn) in
    ap (λ l. sum_by weight (values_of l) + count_if (not v.is_closing)) lent.0
    ∙ ap (λ k. sum_by weight (values_of (set_value test m.entries w)) + k) (sym (weighs (not v.is_closing)))
    ∙ sum_by-set_value weight test m.entries v w held
    ∙ ap (λ k. sum_by weight (values_of m.entries) + k) (weighs (not w.is_closing))

-- One that is added counts as it is, if its number was not in use.
pub count_inserted : (m n : BTreeMap ℕ Connection) (conn : ℕ) (v : Connection) → IsOrdered nat_cmp m → held_at m.entries conn ≡ None → n.entries ≡ insert_entry nat_cmp m.entries conn v → open_count n.entries ≡ open_count m.entries + count_if (not v.is_closing)
unfolding open_count
count_inserted m n conn v ordered none is =
    let sums = sum_by-insert_entry weight nat_cmp_total m.entries conn v ordered in
    let zero : unwrap_or (option_map weight (held_at m.entries conn)) 0 ≡ 0 = ap (λ o. unwrap_or (option_map weight o) 0) none in
    let same = ap (λ l. sum_by weight (values_of l)) is in
    let counted = weighs (not v.is_closing) in
    omega (arith, sums, zero, same, counted)

-- A connection that is closed through a loan: it counts no longer, if it did.
pub count_closed : (m n : BTreeMap ℕ Connection) (conn : ℕ) (v w : Connection) → held_at m.entries conn ≡ Some v → WritesThrough nat_cmp (nat_cmp conn) m w n → w.is_closing ≡ true → open_count n.entries + count_if (is_open m.entries conn) ≡ open_count m.entries
count_closed m n conn v w held lent closing =
    let sums = count_lent m n conn v w held lent in
    let own : count_if (is_open m.entries conn) ≡ count_if (not v.is_closing) = ap (λ o. count_if (opens o)) held in
    let none : count_if (not w.is_closing) ≡ 0 = ap (λ b. count_if (not b)) closing in
    omega (arith, sums, own, none)

-- The same, if it is dropped then.
pub count_dropped : (m mid : BTreeMap ℕ Connection) (new : Table) (conn : ℕ) (v w : Connection) → held_at m.entries conn ≡ Some v → WritesThrough nat_cmp (nat_cmp conn) m w mid → w.is_closing ≡ true → new ≡ remove_entry (is_at (nat_cmp conn)) mid.entries → open_count new + count_if (is_open m.entries conn) ≡ open_count m.entries
count_dropped m mid new conn v w held lent closing is =
    let had : IsSome (held_at m.entries conn) = subst (λ o. IsSome o) (sym held) refl in
    let now : held_at mid.entries conn ≡ Some w = (lent.3 had).1 in
    let none : count_if (is_open mid.entries conn) ≡ 0 = ap (λ o. count_if (opens o)) now ∙ ap (λ b. count_if (not b)) closing in
    omega (arith, count_removed mid.entries new conn is, count_closed m mid conn v w held lent closing, none)

none_weighs : (xs : List Connection) → AllByRecursion (λ connection. connection.is_closing ≡ true) xs → sum_by weight xs ≡ 0
none_weighs [] h = refl
none_weighs (x ∷ xs) h =
    let none : weight x ≡ 0 = ap (λ b. cond (not b) 1 0) h.0 in
    omega (arith, sum_by-cons weight x xs, none_weighs xs h.1, none)

-- None is open if each is closing.
pub count_closing : (table : Table) → All (λ connection. connection.is_closing ≡ true) (values_of table) → open_count table ≡ 0
unfolding open_count
count_closing table all = none_weighs (values_of table) (recursion_from_All _ _ all)

all_weigh : (xs : List Connection) → AllByRecursion (λ connection. connection.is_closing ≡ false) xs → sum_by weight xs ≡ length xs
all_weigh [] h = refl
all_weigh (x ∷ xs) h =
    let one : weight x ≡ 1 = ap (λ b. cond (not b) 1 0) h.0 in
    omega (arith, sum_by-cons weight x xs, all_weigh xs h.1, one)

-- All are open if none is closing.
pub count_all : (table : Table) → All (λ connection. connection.is_closing ≡ false) (values_of table) → open_count table ≡ length table
unfolding open_count
count_all table all = all_weigh (values_of table) (recursion_from_All _ _ all) ∙ length-values_of table

-- If none is open, the hub has places left.
pub none_open : (found : Option ℕ) (table : Table) → IfNone found (AreAll true table) → IfNone found (open_count table < most_connections)
none_open None table all = omega (arith, count_closing table all)
none_open (Some conn) table all = tt

-- An empty table has no open connection.
pub fits_none : (table : Table) → table ≡ [] → FitsHub table
unfolding open_count
fits_none table none = subst FitsHub (sym none) (omega arith)

-- What the hub has places for still has them: after one is dropped,
pub fits_removed : (old new : Table) (conn : ℕ) → new ≡ remove_entry (is_at (nat_cmp conn)) old → FitsHub old → FitsHub new
fits_removed old new conn is fits = omega (arith, count_removed old new conn is)

-- after one is written that stays open or closing,
pub fits_same : (m n : BTreeMap ℕ Connection) (conn : ℕ) (v w : Connection) → held_at m.entries conn ≡ Some v → WritesThrough nat_cmp (nat_cmp conn) m w n → w.is_closing ≡ v.is_closing → FitsHub m.entries → FitsHub n.entries
fits_same m n conn v w held lent same fits =
    let counted : count_if (not w.is_closing) ≡ count_if (not v.is_closing) = ap (λ b. count_if (not b)) same in
    omega (arith, count_lent m n conn v w held lent, counted)

-- and after one is closed.
pub fits_closed : (m n : BTreeMap ℕ Connection) (conn : ℕ) (v w : Connection) → held_at m.entries conn ≡ Some v → WritesThrough nat_cmp (nat_cmp conn) m w n → w.is_closing ≡ true → FitsHub m.entries → FitsHub n.entries
fits_closed m n conn v w held lent closing fits = omega (arith, count_closed m n conn v w held lent closing)

pub second_part : {A B C : Type 0} (p q : A × (B × C)) → p ≡ q → p.1.0 ≡ q.1.0
second_part {A} {B} {C} p q same = ap (λ (r : A × (B × C)). r.1.0) same

pub count_if_le : (b : Bool) → count_if b ≤ 1
count_if_le true = omega arith
count_if_le false = omega arith

-- Of the open ones there are as many after one is dropped that is closing.
pub count_gone : (old new : Table) (conn : ℕ) (v : Connection) → held_at old conn ≡ Some v → v.is_closing ≡ true → new ≡ remove_entry (is_at (nat_cmp conn)) old → open_count new ≡ open_count old
count_gone old new conn v held closing is =
    let none : count_if (is_open old conn) ≡ 0 = ap (λ o. count_if (opens o)) held ∙ ap (λ b. count_if (not b)) closing in
    omega (arith, count_removed old new conn is, none)
