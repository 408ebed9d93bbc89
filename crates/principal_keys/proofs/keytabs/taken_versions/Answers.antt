use Rattle.std.proofs.Common.{rules, ◌≡◌, ◌∙◌, [], ◌∷◌, ◌<◌, ◌^◌, None, Some, Err, Result, ap, sym}
use Rattle.principal_rows.specs.KeyList.{has_type_twice}
use Rattle.principal_rows.specs.declared.key_list.KeyListError.{KeyListError}
use Rattle.principal_rows.specs.declared.key_list.KeyListError.TheVariants.{Doubled}
use Rattle.principal_keys.specs.Keytabs.{keys_at, next_number, with_version}
use Rattle.principal_keys.proofs.KeytabFaults.{none_ordered, ordered_to}
use Rattle.principal_keys.proofs.KeytabVersions.{all_taken, less_room, none_taken, taken_to}
use Rattle.principal_keys.proofs.keytabs.taken_versions.Goals as goal

pub loop-number-init : goal.loop-number-init
loop-number-init c =
    let none : c.new-versions.result.items ≡ [] = search rules in
    let s = c.args.of.now.realm.now ∷ c.args.of.now.who.now.components in
    (none_taken c.args.of.now.keytab.now s c.args.etypes.now c.new-versions.result.items none, none_ordered c.new-versions.result.items none)

pub loop-number-smaller : goal.loop-number-smaller
loop-number-smaller c =
    let s = c.args.of.now.realm.now ∷ c.args.of.now.who.now.components in
    let fits : c.in-Some.number < 2 ^ 32 = search rules in
    less_room c.loop-number.bound s c.args.of.now.keytab.now c.in-Some.number fits
    (sym (ap (next_number s c.loop-number.bound) c.entries.ensures) ∙ sym c.number_below.ensures ∙ c.in-Some.is)

pub loop-number-preserved : goal.loop-number-preserved
loop-number-preserved c =
    let s = c.args.of.now.realm.now ∷ c.args.of.now.who.now.components in
    let next : next_number s c.loop-number.bound c.args.of.now.keytab.now ≡ Some c.in-Some.number =
    sym (ap (next_number s c.loop-number.bound) c.entries.ensures) ∙ sym c.number_below.ensures ∙ c.in-Some.is in
    let pushed : c.push_version.new.versions.items ≡ with_version c.in-Some.number (keys_at c.args.of.now.keytab.now s c.args.etypes.now c.in-Some.number) c.loop-number.versions.items =
    c.in_ok-push_version.ensures.pushed ∙ ap (λ keys. with_version c.in-Some.number keys c.loop-number.versions.items) (c.deref.ensures.value ∙ c.in_ok-keys.ensures) in (
      taken_to c.args.of.now.keytab.now s c.args.etypes.now c.loop-number.bound c.loop-number.versions.items c.push_version.new.versions.items c.in-Some.number next pushed c.loop-number.invariant.0,
      ordered_to s c.loop-number.bound c.args.of.now.keytab.now c.in-Some.number _ c.loop-number.versions.items c.push_version.new.versions.items next pushed c.loop-number.invariant.1,
    )

pub returns-clause-taken : goal.returns-clause-taken
returns-clause-taken c =
    let s = c.args.of.now.realm.now ∷ c.args.of.now.who.now.components in
    let none : c.number_below.result ≡ None = search rules in
    all_taken c.args.of.now.keytab.now s c.args.etypes.now c.loop-number.bound c.loop-number.versions.items
    (sym (ap (next_number s c.loop-number.bound) c.entries.ensures) ∙ sym c.number_below.ensures ∙ none) c.loop-number.invariant.0

pub returns-in_err-push_version-clause-doubled : goal.returns-in_err-push_version-clause-doubled
returns-in_err-push_version-clause-doubled c is =
    let doubled : c.in_err-push_version.field-0.0 ≡ Doubled = search rules in (
      c.in-Some.number,
      ap has_type_twice (sym (c.deref.ensures.value ∙ c.in_ok-keys.ensures)) ∙ c.in_err-push_version.ensures.doubled (ap err doubled),
    )
  where
    err : KeyListError → Result (Unit {0}) KeyListError
    err fault = Err fault
