use Rattle.std.proofs.Common.{refl, sym, ap, length, ◌∙◌}
use Rattle.kdc_hub.proofs.Auditing.{none_hold}
use Rattle.std.specs.Option.{is_some}
use Rattle.std.specs.FinMap as map
use Rattle.kdc_hub.specs.Hub.{hub_state}
use Rattle.kdc_hub.specs.Issuing.{issuing}
use Rattle.kdc_hub.proofs.Tables.{is_there}
use Rattle.kdc_hub.proofs.Steps.{stays_there, is_closed, is_stopped, not_fed}
use Rattle.kdc_hub.proofs.hub.Hub.take_piece.Goals as goal

pub returns-in_default-feed-clause-step : goal.returns-in_default-feed-clause-step
returns-in_default-feed-clause-step g c =
    let p = not_fed (hub_state g.R.Rng.stream c.args.self.now) c.args.at c.args.conn c.args.piece.now (map.get c.args.self.now.connections c.args.conn)
    c.nothing_done.result.done.items c.nothing_done.result.draws c.new-place.result c.replace.new.self c.remove.new.self
    c.nothing_done.ensures.done c.nothing_done.ensures.draws (c.in-Some.ensures.put refl) c.remove.ensures in
    (p.0, p.1, c.nothing_done.ensures.conn)

pub returns-then-served-clause-step : goal.returns-then-served-clause-step
returns-then-served-clause-step g c =
    let first = c.in-Some.ensures.put refl in
    stays_there (hub_state g.R.Rng.stream c.args.self.now) c.args.at c.args.conn c.args.piece.now (map.get c.args.self.now.connections c.args.conn) c.in-Some.stream c.feed.new.self
    (sym c.in-Some.ensures.taken) c.in-Ok.ensures.ok
    c.in-Ok-answer_stream.served.actions.items (issuing g.R.Rng.stream c.answer_stream.new.seeded_kdc) c.answer_stream.new.stream c.new-place.result c.replace.new.self c.replace-then-served.new.self c.in-Ok-answer_stream.served.stays
    c.in-Ok-answer_stream.ensures.actions c.in-Ok-answer_stream.ensures.issuing c.in-Ok-answer_stream.ensures.stays c.if-served.true
    (c.in-Ok-answer_stream.ensures.left c.if-served.true) first
    (c.replace-then-served.ensures.put (ap is_some (c.replace-then-served.ensures.taken ∙ ap (λ m. map.get m c.args.conn) first ∙ is_there c.args.self.now.connections c.args.conn c.new-place.result)))

pub returns-in-Ok-answer_stream-clause-step : goal.returns-in-Ok-answer_stream-clause-step
returns-in-Ok-answer_stream-clause-step g c =
    is_closed (hub_state g.R.Rng.stream c.args.self.now) c.args.at c.args.conn c.args.piece.now (map.get c.args.self.now.connections c.args.conn) c.in-Some.stream c.feed.new.self
    (sym c.in-Some.ensures.taken) c.in-Ok.ensures.ok
    c.in-Ok-answer_stream.served.actions.items (issuing g.R.Rng.stream c.answer_stream.new.seeded_kdc) c.new-place.result c.replace.new.self c.remove-in-Ok-answer_stream.new.self c.in-Ok-answer_stream.served.stays
    c.in-Ok-answer_stream.ensures.actions c.in-Ok-answer_stream.ensures.issuing c.in-Ok-answer_stream.ensures.stays c.if-served.false
    (c.in-Some.ensures.put refl) c.remove-in-Ok-answer_stream.ensures

pub returns-clause-step : goal.returns-clause-step
returns-clause-step g c =
    let p = is_stopped (hub_state g.R.Rng.stream c.args.self.now) c.args.at c.args.conn c.args.piece.now (map.get c.args.self.now.connections c.args.conn) c.in-Some.stream c.feed.new.self
    (sym c.in-Some.ensures.taken) c.in-Ok.ensures.ok
    c.in-Err.fault.done.items (issuing g.R.Rng.stream c.answer_stream.new.seeded_kdc) c.in-Err.fault.draws c.new-place.result c.replace.new.self c.remove-in-Err.new.self
    c.in-Err.ensures.done c.in-Err.ensures.kdc c.in-Err.ensures.drawn c.answer_stream.ensures.keeps (c.in-Some.ensures.put refl) c.remove-in-Err.ensures in
    (p.0, p.1, c.in-Err.ensures.conn)

pub returns-in_default-clause-audits : goal.returns-in_default-clause-audits
returns-in_default-clause-audits g c = none_hold _ c.args.at _ _ _ (ap (λ l. length l) c.new.ensures.items)

pub returns-in_default-feed-clause-audits : goal.returns-in_default-feed-clause-audits
returns-in_default-feed-clause-audits g c = none_hold _ c.args.at _ _ _ (ap (λ l. length l) c.nothing_done.ensures.done)
