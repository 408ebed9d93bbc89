use Rattle.std.proofs.Common.{rules, sym, ap, ◌∙◌, SFits, w64}
use Rattle.std.proofs.lemmas.Int.{to_z-of_z}
use Rattle.replay.specs.declared.keep.Kept.{Kept}
use Rattle.replay.specs.declared.cache.ReplayCache.{ReplayCache}
use Rattle.replay.specs.ReplayCache.{recorded}
use Rattle.kdc_state.proofs.Storing.{is_there, stored_ok, stored_err, stored_first}
use Rattle.kdc_state.proofs.state.State.record_seen.Goals as goal

pub returns-then-replace-clause-ok : goal.returns-then-replace-clause-ok
returns-then-replace-clause-ok c =
    let ctime : SFits w64 c.args.seen.now.ctime = search rules in
    let out = c.replace.ensures in
    let back = c.replace-then-replace.ensures in
    let there = out.taken c.if-replace.true in
    let left = out.given c.if-replace.true in
    let f = λ (m : ReplayCache Kept). recorded m c.args.at.sec (c.args.seen.now.ctime, c.args.seen.now.cusec) c.args.kept in
    stored_ok c.args.self.now c.args.seen.now.client.components f c.empty-cache.result c.replace.new.value c.record_seen-done.new.self c.replace.new.self c.replace-then-replace.new.self there left c.record_seen-done.result
    (simp to_z-of_z at c.record_seen-done.ensures.ok)
    (back.given (back.there ∙ is_there c.args.self.now c.args.seen.now.client.components f c.empty-cache.result c.replace.new.value c.record_seen-done.new.self c.replace.new.self c.replace-then-replace.new.self there left))

pub returns-then-replace-clause-err : goal.returns-then-replace-clause-err
returns-then-replace-clause-err c =
    let out = c.replace.ensures in
    let back = c.replace-then-replace.ensures in
    let there = out.taken c.if-replace.true in
    let left = out.given c.if-replace.true in
    stored_err c.args.self.now c.args.seen.now.client.components (λ m. m) c.empty-cache.result c.replace.new.value c.record_seen-done.new.self c.replace.new.self c.replace-then-replace.new.self there left c.record_seen-done.result
    c.record_seen-done.ensures.err
    (back.given (back.there ∙ is_there c.args.self.now c.args.seen.now.client.components (λ m. m) c.empty-cache.result c.replace.new.value c.record_seen-done.new.self c.replace.new.self c.replace-then-replace.new.self there left))

pub returns-in_ok-copy-clause-ok : goal.returns-in_ok-copy-clause-ok
returns-in_ok-copy-clause-ok c =
    let ctime : SFits w64 c.args.seen.now.ctime = search rules in
    let floor : SFits w64 c.args.self.now.floor = search rules in
    let out = c.replace.ensures in
    let none = out.absent c.if-replace.false in
    let f = λ (m : ReplayCache Kept). recorded m c.args.at.sec (c.args.seen.now.ctime, c.args.seen.now.cusec) c.args.kept in
    stored_first c.args.self.now c.args.seen.now.client.components c.in_ok-copy.field-0.components f c.empty-cache.result c.replace.new.value c.record_seen.new.self c.replace.new.self c.put.new.self c.put.result
    (sym out.there ∙ c.if-replace.false) none.0 (simp to_z-of_z at c.empty-cache.ensures) none.1 (ap (λ n. n.components) c.in_ok-copy.ensures) (simp to_z-of_z at c.in_ok-record_seen.ensures.ok) c.put.ensures.ok
