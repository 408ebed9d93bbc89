use Rattle.std.proofs.Common.{rules, sym, ap, ◌∙◌, SFits, w64}
use Rattle.std.proofs.lemmas.Int.{to_z-of_z}
use Rattle.std.specs.Prelude.{⊤}
use Rattle.replay.specs.ReplayCache.{recorded}
use Rattle.replay.specs.declared.cache.ReplayCache.{ReplayCache}
use Rattle.ap_accept.specs.Accepts.{stamp_of}
use Rattle.ap_accept.specs.Clients.{empty_cache}
use Rattle.ap_accept.proofs.Storing.{is_there, stored_ok, stored_err, stored_first}
use Rattle.ap_accept.proofs.clients.record_among.Goals as goal

pub returns-then-replace-clause-ok : goal.returns-then-replace-clause-ok
returns-then-replace-clause-ok c =
    let out = c.replace.ensures in
    let back = c.replace-then-replace.ensures in
    let there = out.taken c.if-replace.true in
    let left = out.given c.if-replace.true in
    let f = λ (m : ReplayCache ⊤). recorded m c.args.at.sec (stamp_of c.args.presented.now) tt in
    let d = empty_cache c.args.floor in
    stored_ok c.args.caches.now c.args.presented.now.ticket.cname.components f d c.empty-cache.result c.replace.new.value c.record_in-done.new.cache c.replace.new.self c.replace-then-replace.new.self there left c.record_in-done.result
    c.record_in-done.ensures.ok
    (back.given (back.there ∙ is_there c.args.caches.now c.args.presented.now.ticket.cname.components f d c.empty-cache.result c.replace.new.value c.record_in-done.new.cache c.replace.new.self c.replace-then-replace.new.self there left))

pub returns-then-replace-clause-err : goal.returns-then-replace-clause-err
returns-then-replace-clause-err c =
    let out = c.replace.ensures in
    let back = c.replace-then-replace.ensures in
    let there = out.taken c.if-replace.true in
    let left = out.given c.if-replace.true in
    let f = λ (m : ReplayCache ⊤). m in
    let d = empty_cache c.args.floor in
    stored_err c.args.caches.now c.args.presented.now.ticket.cname.components f d c.empty-cache.result c.replace.new.value c.record_in-done.new.cache c.replace.new.self c.replace-then-replace.new.self there left c.record_in-done.result
    c.record_in-done.ensures.err
    (back.given (back.there ∙ is_there c.args.caches.now c.args.presented.now.ticket.cname.components f d c.empty-cache.result c.replace.new.value c.record_in-done.new.cache c.replace.new.self c.replace-then-replace.new.self there left))

pub returns-in_ok-copy-clause-ok : goal.returns-in_ok-copy-clause-ok
returns-in_ok-copy-clause-ok c =
    let floor : SFits w64 c.args.floor = search rules in
    let out = c.replace.ensures in
    let none = out.absent c.if-replace.false in
    let f = λ (m : ReplayCache ⊤). recorded m c.args.at.sec (stamp_of c.args.presented.now) tt in
    stored_first c.args.caches.now c.args.presented.now.ticket.cname.components f (empty_cache c.args.floor) c.in_ok-copy.field-0.components c.replace.new.value c.record_in.new.cache c.replace.new.self c.put.new.self c.put.result
    (sym out.there ∙ c.if-replace.false) none.0 (none.1 ∙ simp to_z-of_z at c.empty-cache.ensures) (ap (λ n. n.components) c.in_ok-copy.ensures) c.in_ok-record_in.ensures.ok c.put.ensures.ok
