use Rattle.std.proofs.Common.{rules, ◌≤◌, length, subst, sym}
use Rattle.journal.proofs.Lengths.{header_short}
use Rattle.journal.proofs.keeping.make_header.Goals as goal

pub returns-clause-short : goal.returns-clause-short
returns-clause-short c =
    let realm : length c.args.place.now.realm.now ≤ 255 = search rules in
    let boot : length c.args.place.now.boot.now ≤ 255 = search rules in
    let link : length c.args.link.now ≤ 16 = search rules in
    header_short _ (subst (λ l. length l ≤ 255) (sym c.in_ok-from_slice.ensures) realm) (subst (λ l. length l ≤ 255) (sym c.in_ok-from_slice-2.ensures) boot) (subst (λ l. length l ≤ 16) (sym c.in_ok-from_slice-3.ensures) link)
