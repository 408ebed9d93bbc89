use Rattle.std.proofs.Common.{rules, ◌≡◌, ◌∙◌, ap, ◌++◌, ◌∷◌, [], true, false, Err, SFits, to_z, w64, sym, subst}
use Rattle.std.specs.Int.{int_max}
use Rattle.std.proofs.lemmas.Int.{to_z-of_z}
use Rattle.journal.specs.Decision.{above, came, latest_of, recent}
use Rattle.journal.specs.Holding.{AgreeFrom}
use Rattle.journal.specs.Texts.{UnlessMemory}
use Rattle.journal.proofs.Chains.{done_only, fails, goes_on, is_none, is_some}
use Rattle.journal.proofs.Recent.{none_taken, one_taken, only_taken}
use Rattle.journal.proofs.reading.take_entries.Goals as goal

pub loop-alloc-init : goal.loop-alloc-init
loop-alloc-init c =
    let latest : SFits w64 c.seconds-latest.result = search rules in
    let high : SFits w64 c.seconds-high.result = search rules in
    simp to_z-of_z
    (none_taken c.args.reader.now c.args.before c.args.at c.args.floor c.new-entries.result.items c.seconds-latest.result c.seconds-high.result
    c.new-entries.ensures.items c.seconds-latest.ensures.value c.seconds-high.ensures.value c.seconds-latest.ensures.range.0)

pub returns-in_err-taken-clause-only : goal.returns-in_err-taken-clause-only
returns-in_err-taken-clause-only c =
    λ es has is.
    let test : c.is_empty.result ≡ false = search rules in
    let fault : c.from_residual.result ≡ Err c.in_err-taken.field-0.0 = search rules in
    subst (λ r. UnlessMemory r (λ t. t.entries.items ≡ recent (latest_of c.args.at es) es)) (sym fault)
    (fails c.args.reader.now c.args.before c.loop-alloc.invariant.all c.loop-alloc.reader c.loop-alloc.check c.loop-alloc.invariant.read c.in_err-taken.field-0.0 (λ t. t.entries.items ≡ recent (latest_of c.args.at es) es) (λ x r t. (t.entry ≡ x) × (c.take_entry.new.reader ≡ r)) (is_some c.loop-alloc.reader (sym test ∙ c.is_empty.ensures)) c.in_err-taken.ensures.only es has is)

pub loop-alloc-preserved : goal.loop-alloc-preserved
loop-alloc-preserved c =
    let e = c.in_ok-taken.taken.entry in
    let pushed : c.push.new.self.items ≡ c.make_room-most.new.entries.items ++ e ∷ [] = search rules in
    let latest : SFits w64 c.max-latest.result = search rules in
    let high : SFits w64 c.above-high.result = search rules in
    let came_fits : SFits w64 c.in_ok-taken.taken.came = search rules in
    let latest_is : c.max-latest.result ≡ int_max (to_z w64 c.loop-alloc.latest-bits) (came e) = (simp to_z-of_z at c.max-latest.ensures.value) ∙ ap (int_max (to_z w64 c.loop-alloc.latest-bits)) c.in_ok-taken.ensures.came in
    let high_is : c.above-high.result ≡ above (to_z w64 c.loop-alloc.high-bits) e.ctime = c.above-high.ensures ∙ ap (above (to_z w64 c.loop-alloc.high-bits)) c.in_ok-taken.ensures.ctime in
    let agree : AgreeFrom (to_z w64 c.loop-alloc.latest-bits) c.make_room-most.new.entries.items c.loop-alloc.entries.items = c.make_room-most.ensures in
    simp to_z-of_z
    (one_taken c.args.reader.now c.args.before c.args.at c.args.floor c.loop-alloc.entries.items (to_z w64 c.loop-alloc.latest-bits) (to_z w64 c.loop-alloc.high-bits) c.loop-alloc.reader c.loop-alloc.check c.loop-alloc.invariant
    e c.take_entry.new.reader c.in_ok-taken.taken.check c.make_room-most.new.entries.items c.push.new.self.items c.max-latest.result c.above-high.result agree pushed latest_is high_is
    (goes_on c.args.reader.now c.args.before c.loop-alloc.invariant.all c.loop-alloc.reader c.loop-alloc.check c.loop-alloc.invariant.read e c.take_entry.new.reader c.in_ok-taken.taken.check c.in_ok-taken.ensures.has c.in_ok-taken.ensures.found c.in_ok-taken.ensures.check c.in_ok-taken.ensures.only))

pub returns-clause-only : goal.returns-clause-only
returns-clause-only c =
    λ es has is.
    let test : c.is_empty.result ≡ true = search rules in
    let none = is_none c.loop-alloc.reader (sym test ∙ c.is_empty.ensures) in
    c.drop_old.ensures
    ∙ only_taken c.args.reader.now c.args.before c.args.at c.args.floor c.loop-alloc.entries.items (to_z w64 c.loop-alloc.latest-bits) (to_z w64 c.loop-alloc.high-bits) c.loop-alloc.reader c.loop-alloc.check c.loop-alloc.invariant none es
    (done_only c.args.reader.now c.args.before c.loop-alloc.invariant.all c.loop-alloc.reader c.loop-alloc.check c.loop-alloc.invariant.read none es has is)
