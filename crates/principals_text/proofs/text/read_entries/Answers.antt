use Rattle.std.proofs.Common.{rules, ◌≡◌, [], ◌∷◌, ◌++◌, Some, None, Err, string_bytes, sym, ap, ◌∙◌, append_assoc}
use Rattle.serde_json.specs.View.{view, members_view}
use Rattle.principals_text.specs.NameOf.{name_of}
use Rattle.principals_text.specs.RowValue.{row_of}
use Rattle.principals_text.specs.Value.{entries_of}
use Rattle.principals_text.specs.declared.row_fault.RowError.TheVariants.{BadRow}
use Rattle.principals_text.proofs.RowEntries.{Text, entries_more, no_name, no_row}
use Rattle.principals_text.proofs.RowEntries.{rows_push}
use Rattle.principals_text.proofs.text.read_entries.Goals as goal

pub loop-text-preserved : goal.loop-text-preserved
loop-text-preserved c =
    let l = c.loop-text in
    let done = l.invariant.0 in
    let e : Text = (c.in-Some.text.now, c.in-Some.row.now) in
    let left = c.next.new.self in
    let all : c.args.members.now.entries ≡ done ++ e ∷ left = l.invariant.1 ∙ ap (λ es. done ++ es) c.in-Some.ensures.steps in
    let named : name_of (string_bytes c.in-Some.text.now) ≡ Some c.in_ok-name.name.components = search rules in (
      done ++ e ∷ [],
      all ∙ sym (append_assoc done (e ∷ []) left),
      entries_more c.args.format done e l.entries.items c.push.new.self.items (record { name = c.in_ok-name.name; value = c.in_ok-value.value }) l.invariant.2 named c.in_ok-value.ensures.ok c.in_ok-push.ensures.items,
      rows_push l.entries.items c.push.new.self.items (record { name = c.in_ok-name.name; value = c.in_ok-value.value }) l.invariant.3 c.in_ok-value.ensures.fits c.in_ok-push.ensures.items,
    )

pub returns-in_err-name-clause-bad : goal.returns-in_err-name-clause-bad
returns-in_err-name-clause-bad c err =
    let l = c.loop-text in
    let done = l.invariant.0 in
    let e : Text = (c.in-Some.text.now, c.in-Some.row.now) in
    let left = c.next.new.self in
    let all : c.args.members.now.entries ≡ done ++ e ∷ left = l.invariant.1 ∙ ap (λ es. done ++ es) c.in-Some.ensures.steps in
    let refused : c.read_name.result ≡ Err BadRow = search rules in
    let fails = c.read_name.ensures.bad refused in
    let none : name_of (string_bytes c.in-Some.text.now) ≡ None = search rules in
    ap (λ es. entries_of c.args.format (members_view es)) all ∙ no_name c.args.format done left e none

pub returns-in_err-value-clause-bad : goal.returns-in_err-value-clause-bad
returns-in_err-value-clause-bad c err =
    let l = c.loop-text in
    let done = l.invariant.0 in
    let e : Text = (c.in-Some.text.now, c.in-Some.row.now) in
    let left = c.next.new.self in
    let all : c.args.members.now.entries ≡ done ++ e ∷ left = l.invariant.1 ∙ ap (λ es. done ++ es) c.in-Some.ensures.steps in
    let refused : c.read_row.result ≡ Err BadRow = search rules in
    let none : row_of c.args.format (view c.in-Some.row.now) ≡ None = c.read_row.ensures.bad refused in
    ap (λ es. entries_of c.args.format (members_view es)) all ∙ no_row c.args.format done left e none
