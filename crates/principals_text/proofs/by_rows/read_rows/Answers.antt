use Rattle.std.proofs.Common.{rules, ◌≡◌, ◌<◌, ◌-◌, [], ◌∷◌, ◌++◌, List, All, Option, None, Some, length, reverse, option_map, Bor, ℕ, sym, ap, ◌∙◌, arith, refl}
use Rattle.std.specs.FinMap.{from_entries}
use Rattle.json.specs.Json.{read_key}
use Rattle.json.proofs.Grammar.{read_key-shorter}
use Rattle.serde_json.specs.Data.{no_members, put}
use Rattle.principal_rows.specs.NameMap.{pairs}
use Rattle.principal_rows.specs.Row.{IsRow}
use Rattle.principal_rows.specs.declared.name_map.Entry.{Entry}
use Rattle.principal_rows.specs.declared.row.Row.{Row}
use Rattle.principals_text.specs.Ahead.{rows_in}
use Rattle.principals_text.proofs.NextMembers.{member_next, no_member_next}
use Rattle.principals_text.proofs.RowByRow.{key_is, if_ok, row_more}
use Rattle.principals_text.proofs.RowEntries.{rows_push}
use Rattle.principals_text.proofs.by_rows.read_rows.Goals as goal

pub loop-entries-init : goal.loop-entries-init
loop-entries-init c =
    let none = c.new-entries.ensures.items in
    let rows : rows_in no_members ≡ Some (from_entries (pairs (reverse c.new-entries.result.items))) = ap (λ (es : List (Entry Row)). Some (from_entries (pairs (reverse es)))) (sym none) in
    let all : All (λ (entry : Entry Row). IsRow entry.value) c.new-entries.result.items = search rules in
    (length c.args.reader.now, no_members, omega arith, refl, rows, all, omega arith)

pub loop-entries-smaller : goal.loop-entries-smaller
loop-entries-smaller c =
    let l = c.loop-entries in
    let s = c.next_key.new.self in
    let named : read_key l.reader ≡ Some (Some c.in-Some.text.now, s) = key_is c.next_key.result l.reader s c.in_ok-text.field-0 c.next_key.ensures.value c.in_ok-text.ensures.value ∙ ap (λ (k : Option (Bor (List ℕ))). Some (option_map (λ (t : Bor (List ℕ)). t.now) k, s)) c.in-Some.is in
    let before : length s < length l.reader = read_key-shorter l.reader (Some c.in-Some.text.now) s named in
    let less : length c.read_entry.new.reader < length s = c.in_ok-entry.ensures.shorter (search rules) in
    let smaller : length c.read_entry.new.reader < length l.reader = omega (arith, before, less) in
    smaller

pub loop-entries-preserved : goal.loop-entries-preserved
loop-entries-preserved c =
    let l = c.loop-entries in
    let n = l.invariant.0 in
    let found = l.invariant.1 in
    let s = c.next_key.new.self in
    let r = c.read_entry.new.reader in
    let entry = c.in_ok-entry.entry in
    let row = c.in_ok-entry.ensures.row in
    let named : read_key l.reader ≡ Some (Some c.in-Some.text.now, s) = key_is c.next_key.result l.reader s c.in_ok-text.field-0 c.next_key.ensures.value c.in_ok-text.ensures.value ∙ ap (λ (k : Option (Bor (List ℕ))). Some (option_map (λ (t : Bor (List ℕ)). t.now) k, s)) c.in-Some.is in
    let before : length s < length l.reader = read_key-shorter l.reader (Some c.in-Some.text.now) s named in
    let less : length r < length s = c.in_ok-entry.ensures.shorter (search rules) in
    let made : c.push.new.self.items ≡ l.entries.items ++ entry ∷ [] = if_ok c.push.result c.in_ok-ok.field-0 c.push.new.self.items (l.entries.items ++ entry ∷ []) l.entries.items c.push.ensures.items c.in_ok-ok.ensures.value in (
      n - 1,
      put c.in-Some.text.now row.0 found,
      omega (arith, l.invariant.2, before, less),
      l.invariant.3 ∙ member_next 125 found n c.in-Some.text.now l.reader s r row.0 (omega (arith, l.invariant.2, before)) named row.1,
      row_more c.in-Some.text.now row.0 entry found l.entries.items c.push.new.self.items row.2 row.3 l.invariant.4 made,
      rows_push l.entries.items c.push.new.self.items entry l.invariant.5 c.in_ok-entry.ensures.fits made,
      omega (arith, l.invariant.6, before, less),
    )

pub returns-clause-rows : goal.returns-clause-rows
returns-clause-rows c =
    let l = c.loop-entries in
    let s = c.next_key.new.self in
    let none : c.in_ok-text.field-0 ≡ None = search rules in
    let ended : read_key l.reader ≡ Some (None, s) = key_is c.next_key.result l.reader s c.in_ok-text.field-0 c.next_key.ensures.value c.in_ok-text.ensures.value ∙ ap (λ (k : Option (Bor (List ℕ))). Some (option_map (λ (t : Bor (List ℕ)). t.now) k, s)) none in
    (l.invariant.1, l.invariant.3 ∙ no_member_next 125 l.invariant.1 l.invariant.0 l.reader s l.invariant.2 ended, l.invariant.4)
