use Rattle.std.proofs.Common.{rules, sym, ap, ◌∙◌, SFits, w64}
use Rattle.std.proofs.lemmas.Int.{to_z-of_z}
use Rattle.replay.specs.ReplayCache.{recorded}
use Rattle.ap_accept.specs.Accepts.{stamp_of}
use Rattle.ap_accept.specs.Clients.{drop_expired, cache_in, opened_clients, with_cache}
use Rattle.ap_accept.specs.declared.clients.Clients.{Clients}
use Rattle.ap_accept.proofs.Storing.{changed, is_there, stored_ok, stored_err, stored_first}
use Rattle.ap_accept.proofs.Frame.{ok_within, err_within}
use Rattle.ap_accept.proofs.state.State.record_seen.Goals as goal

pub returns-then-replace-clause-ok : goal.returns-then-replace-clause-ok
returns-then-replace-clause-ok c =
    let out = c.replace.ensures in
    let back = c.replace-then-replace.ensures in
    let there = out.taken c.if-replace.true in
    let left = out.given c.if-replace.true in
    let client = c.args.presented.now.ticket.cname.components in
    let f = λ (clients : Clients). drop_expired c.args.at.sec (with_cache clients client (recorded (cache_in clients client) c.args.at.sec (stamp_of c.args.presented.now) tt)) in
    ok_within c.replace-then-replace.new.self (changed c.args.self.now.services c.args.presented.now.service.components f (opened_clients c.args.self.now.floor)) c.args.self.now c.record_seen-done.result
    (stored_ok c.args.self.now.services c.args.presented.now.service.components f (opened_clients c.args.self.now.floor) c.opened-clients.result c.replace.new.value c.record_seen-done.new.self c.replace.new.self c.replace-then-replace.new.self there left c.record_seen-done.result
    c.record_seen-done.ensures.ok
    (back.given (back.there ∙ is_there c.args.self.now.services c.args.presented.now.service.components f (opened_clients c.args.self.now.floor) c.opened-clients.result c.replace.new.value c.record_seen-done.new.self c.replace.new.self c.replace-then-replace.new.self there left)))

pub returns-then-replace-clause-err : goal.returns-then-replace-clause-err
returns-then-replace-clause-err c =
    let out = c.replace.ensures in
    let back = c.replace-then-replace.ensures in
    let there = out.taken c.if-replace.true in
    let left = out.given c.if-replace.true in
    let f = λ (clients : Clients). clients in
    err_within c.replace-then-replace.new.self c.args.self.now c.record_seen-done.result
    (stored_err c.args.self.now.services c.args.presented.now.service.components f (opened_clients c.args.self.now.floor) c.opened-clients.result c.replace.new.value c.record_seen-done.new.self c.replace.new.self c.replace-then-replace.new.self there left c.record_seen-done.result
    c.record_seen-done.ensures.err
    (back.given (back.there ∙ is_there c.args.self.now.services c.args.presented.now.service.components f (opened_clients c.args.self.now.floor) c.opened-clients.result c.replace.new.value c.record_seen-done.new.self c.replace.new.self c.replace-then-replace.new.self there left)))

pub returns-in_ok-copy-clause-ok : goal.returns-in_ok-copy-clause-ok
returns-in_ok-copy-clause-ok c =
    let floor : SFits w64 c.args.self.now.floor = search rules in
    let out = c.replace.ensures in
    let none = out.absent c.if-replace.false in
    let client = c.args.presented.now.ticket.cname.components in
    let f = λ (clients : Clients). drop_expired c.args.at.sec (with_cache clients client (recorded (cache_in clients client) c.args.at.sec (stamp_of c.args.presented.now) tt)) in
    ok_within c.put.new.self (changed c.args.self.now.services c.args.presented.now.service.components f (opened_clients c.args.self.now.floor)) c.args.self.now c.put.result
    (stored_first c.args.self.now.services c.args.presented.now.service.components f (opened_clients c.args.self.now.floor) c.in_ok-copy.field-0.components c.replace.new.value c.record_seen.new.self c.replace.new.self c.put.new.self c.put.result
    (sym out.there ∙ c.if-replace.false) none.0 (none.1 ∙ simp to_z-of_z at c.opened-clients.ensures) (ap (λ n. n.components) c.in_ok-copy.ensures) c.in_ok-record_seen.ensures.ok c.put.ensures.ok)
