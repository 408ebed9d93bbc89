use Rattle.std.proofs.Common.{rules, ◌≡◌, ◌+◌, ◌≤◌, suc, arith, true, false, [], ◌∷◌, ◌++◌, length, map, take, option_map, None, sym, ap, ◌∙◌}
use Rattle.std.specs.Prelude.{cond}
use Rattle.std.specs.FinMap.{entries, len-entries}
use Rattle.std.proofs.lemmas.List.{map-append, take_all}
use Rattle.kadm_changes.specs.Denying.{is_user}
use Rattle.kadm_changes.proofs.Users.{passing, stepped, with_entry}
use Rattle.kadm_changes.proofs.denying.users_of.Goals as goal
use Rattle.kadm_changes.proofs.denying.users_of.Goals.{in-Some+then-is_user+in_ok-copy+in_ok-push, in-Some+else-is_user, in_default}

pub loop-place-preserved : goal.loop-place-preserved
loop-place-preserved c =
    let es = entries c.args.database.now.rows in
    let seen = map (λ name. name.components) c.loop-place.users.items in
    let more : suc c.loop-place.place ≡ c.loop-place.place + 1 = omega arith in
    let further = stepped is_user es c.loop-place.place (option_map (λ e. (e.0.now.components, e.1.now)) c.at.result) seen c.at.ensures c.loop-place.invariant ∙ ap (λ k. passing is_user (take k es)) more in
    elim c.match-at.branch [
      | in-Some+then-is_user+in_ok-copy+in_ok-push w ↦
          (let test : is_user w.in-Some.name.now.components ≡ true = search rules in
          let is : c.match-at.users.items ≡ c.loop-place.users.items ++ w.in_ok-copy.field-0 ∷ [] = search rules in
          let pushed = ap (map (λ name. name.components)) is ∙ map-append (λ name. name.components) c.loop-place.users.items (w.in_ok-copy.field-0 ∷ []) ∙ ap (λ name. seen ++ name.components ∷ []) w.in_ok-copy.ensures in
          pushed ∙ sym (ap (λ o. with_entry is_user (option_map (λ e. (e.0.now.components, e.1.now)) o) seen) w.in-Some.is ∙ ap (λ b. cond b (seen ++ w.in-Some.name.now.components ∷ []) seen) test) ∙ further)
      | in-Some+else-is_user w ↦
          (let test : is_user w.in-Some.name.now.components ≡ false = search rules in
          ap (λ u. map (λ name. name.components) u.items) w.users-is ∙ sym (ap (λ o. with_entry is_user (option_map (λ e. (e.0.now.components, e.1.now)) o) seen) w.in-Some.is ∙ ap (λ b. cond b (seen ++ w.in-Some.name.now.components ∷ []) seen) test) ∙ further)
      | in_default w ↦
          (let none : c.at.result ≡ None = search rules in
          ap (λ u. map (λ name. name.components) u.items) w.users-is ∙ sym (ap (λ o. with_entry is_user (option_map (λ e. (e.0.now.components, e.1.now)) o) seen) none) ∙ further)
    ]

pub returns : goal.returns
returns c =
    let es = entries c.args.database.now.rows in
    let many : c.len-place-end.result ≡ length es = c.len-place-end.ensures ∙ len-entries c.args.database.now.rows in
    let past : c.len-place-end.result ≤ c.loop-place.place = search rules in
    let all : length es ≤ c.loop-place.place = omega (arith, many, past) in
    c.loop-place.invariant ∙ ap (passing is_user) (take_all c.loop-place.place es all)
