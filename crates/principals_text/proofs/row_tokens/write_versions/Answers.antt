use Rattle.std.proofs.Common.{rules, ◌≡◌, ◌<◌, ◌≤◌, [], ◌++◌, length, get_or, subst, refl}
use Rattle.std.proofs.lemmas.Result.{on_ok_weaker}
use Rattle.principal_rows.specs.declared.row.KeyVersion.{KeyVersion}
use Rattle.principals_text.specs.RowWritten.{version_value, versions_value}
use Rattle.principals_text.specs.Tokens.{IsLonger, data_tokens}
use Rattle.principals_text.proofs.RowTokens.{none_more, one_more, if_one_more, chain, value_more, values_done, array_written}
use Rattle.principals_text.proofs.row_tokens.write_versions.Goals as goal

pub loop-version-init : goal.loop-version-init
loop-version-init c = ([], none_more c.begin_array.new.self, refl)

pub loop-version-preserved : goal.loop-version-preserved
loop-version-preserved c =
    let held = c.loop-version.invariant in
    let items = c.as_slice-version-items.result.now in
    let within : c.loop-version.version-index < length c.as_slice-version-items.result.now = search rules in
    let here : ◌≡◌ {A = KeyVersion} c.version-item.result (get_or c.as_slice-version-items.result.now c.loop-version.version-index c.version-item.result) = search rules in (
      held.0 ++ data_tokens (version_value c.version-item.result),
      chain held.1 c.in_ok-write_version.ensures,
      value_more version_value items c.loop-version.version-index c.version-item.result held.0 within here held.2,
    )

pub returns : goal.returns
returns c =
    let held = c.loop-version.invariant in
    let items = c.as_slice-version-items.result.now in
    let past : length c.as_slice-version-items.result.now ≤ c.loop-version.version-index = search rules in
    let all = values_done version_value items c.loop-version.version-index held.0 past held.2 in
    on_ok_weaker c.end_array.result (λ e.
    subst (λ versions. IsLonger c.args.out.now c.end_array.new.self (data_tokens (versions_value versions))) c.as_slice-version-items.ensures.versions
    (array_written version_value c.args.out.now c.begin_array.new.self c.loop-version.out c.end_array.new.self items held.0 (one_more c.in_ok-begin_array.ensures) held.1 all e))
    (if_one_more c.end_array.result _ _ _ c.end_array.ensures)
