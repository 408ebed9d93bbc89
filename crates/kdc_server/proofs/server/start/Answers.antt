use Rattle.std.proofs.Common.{rules, ◌≡◌, ◌∙◌, SFits, w64, Some, true, ap, subst, sym}
use Rattle.std.proofs.lemmas.Int.{to_z-of_z}
use Rattle.kdc_hub.specs.Hub.{hub_state}
use Rattle.kdc_hub.specs.Wire.{Records}
use Rattle.std.specs.Prelude.{IfSome}
use Rattle.kdc_files.specs.Keeping.{BeginsOver}
use Rattle.server_notices.specs.Clocks.{refused_at_start}
use Rattle.kdc_server.specs.Resuming.{IsReady, began}
use Rattle.kdc_server.specs.Starting.{chacha20}
use Rattle.kdc_server.proofs.OnFiles.{failed_later, failed_then, failed_to_begin, if_failed}
use Rattle.kdc_server.proofs.server.start.Goals as goal

pub returns-clause-start : goal.returns-clause-start
returns-clause-start g c =
    let ready = c.in_ok-hub.field-0 in
    let begins = ready.beginning in
    let middle = g.H.Host.recorded c.open_tally-tally.new.self in
    let records = c.open_tally-tally.ensures.records ∙ c.open_errors.ensures.records ∙ c.open_log.ensures.records in
    let fits : SFits w64 begins.floor = search rules in
    let moment : c.new.result.came.at ≡ begins.at = ap (λ came. came.at) c.new.ensures.came in
    let floor : c.new.result.clock.floor ≡ begins.floor = ap (λ clock. clock.floor) c.new.ensures.clock ∙ to_z-of_z w64 begins.floor fits in
    let news : c.refused_at_start-refused.result ≡ refused_at_start begins.floor begins.at.sec = c.refused_at_start-refused.ensures ∙ ap (λ f. refused_at_start f begins.at.sec) (to_z-of_z w64 begins.floor fits) in
    record {
      beginning = begins;
      middle = middle;
      ready = subst (λ after. IsReady c.args.options.now (g.H.Host.recorded c.args.host.now) after (hub_state chacha20 ready.hub) begins ready.row_count) (sym records) c.in_ok-hub.ensures.start;
      begins = subst (λ there. Records middle (began there begins) (g.H.Host.recorded c.begin_journal.new.host)) c.in_ok-hub.ensures.files c.in-Ok.ensures.began;
      moment = moment;
      floor_is = floor;
      found = c.found_at-found.ensures;
      refused = subst (λ f. c.refused_at_start-refused.result ≡ refused_at_start f c.new.result.came.at.sec) (sym floor)
          (subst (λ a. c.refused_at_start-refused.result ≡ refused_at_start begins.floor a.sec) (sym moment) news);
    }

pub returns-clause-over : goal.returns-clause-over
returns-clause-over g c =
    let ready = c.in_ok-hub.field-0 in
    let begins = ready.beginning in
    let middle = g.H.Host.recorded c.open_tally-tally.new.self in
    let records = c.open_tally-tally.ensures.records ∙ c.open_errors.ensures.records ∙ c.open_log.ensures.records in
    let fits : SFits w64 begins.floor = search rules in
    let moment : c.new.result.came.at ≡ begins.at = ap (λ came. came.at) c.new.ensures.came in
    let floor : c.new.result.clock.floor ≡ begins.floor = ap (λ clock. clock.floor) c.new.ensures.clock ∙ to_z-of_z w64 begins.floor fits in
    let news : c.refused_at_start-refused.result ≡ refused_at_start begins.floor begins.at.sec = c.refused_at_start-refused.ensures ∙ ap (λ f. refused_at_start f begins.at.sec) (to_z-of_z w64 begins.floor fits) in
    let state = g.H.Journal.JournalWriter.state in
    λ has.
    let files = c.in_ok-hub.ensures.files ∙ has in
    record {
      started = record {
        beginning = begins;
        middle = middle;
        ready = subst (λ after. IsReady c.args.options.now (g.H.Host.recorded c.args.host.now) after (hub_state chacha20 ready.hub) begins ready.row_count) (sym records) c.in_ok-hub.ensures.start;
        begins = subst (λ there. Records middle (began there begins) (g.H.Host.recorded c.begin_journal.new.host)) c.in_ok-hub.ensures.files c.in-Ok.ensures.began;
        moment = moment;
        floor_is = floor;
        found = c.found_at-found.ensures;
        refused = subst (λ f. c.refused_at_start-refused.result ≡ refused_at_start f c.new.result.came.at.sec) (sym floor)
            (subst (λ a. c.refused_at_start-refused.result ≡ refused_at_start begins.floor a.sec) (sym moment) news);
      };
      begins = record {
        read = g.H.Host.world c.ready.new.host;
        reads = c.in_ok-hub.ensures.reads has;
        begins = subst (λ j. BeginsOver begins true (g.H.Host.world c.ready.new.host) (state j)) (sym c.new.ensures.journal)
            (subst (λ o. BeginsOver begins true o (state c.in-Ok.journal)) (c.open_tally-tally.ensures.world ∙ c.open_errors.ensures.world ∙ c.open_log.ensures.world) (c.in-Ok.ensures.begins files));
      };
      left_is = subst (λ j. IfSome (g.H.Host.world c.begin_journal.new.host) (λ w. (state j).files ≡ Some w)) (sym c.new.ensures.journal) (c.in-Ok.ensures.world files);
    }

pub returns-in-Err-clause-failed : goal.returns-in-Err-clause-failed
returns-in-Err-clause-failed g c =
    let ready = c.in_ok-hub.field-0 in
    let recorded = g.H.Host.recorded in
    let world = g.H.Host.world in
    failed_to_begin c.args.options.now (recorded c.args.host.now) (recorded c.ready.new.host) (hub_state chacha20 ready.hub) ready.beginning ready.row_count
    (world c.args.host.now) (world c.ready.new.host) (world c.open_tally-tally.new.self) (world c.begin_journal.new.host)
    c.in_ok-hub.ensures.start c.in_ok-hub.ensures.reads (c.open_tally-tally.ensures.world ∙ c.open_errors.ensures.world ∙ c.open_log.ensures.world) c.in-Err.ensures.fails

pub returns-in_err-log-clause-failed : goal.returns-in_err-log-clause-failed
returns-in_err-log-clause-failed g c =
    let world = g.H.Host.world in
    if_failed c.from_residual-in_err-log.result
    (failed_then c.args.options.now (world c.args.host.now) (world c.ready.new.host) (world c.open_log.new.self) c.ready.ensures.finished c.open_log.ensures.world)

pub returns-in_err-errors-clause-failed : goal.returns-in_err-errors-clause-failed
returns-in_err-errors-clause-failed g c =
    let world = g.H.Host.world in
    if_failed c.from_residual-in_err-errors.result
    (failed_later c.args.options.now (world c.args.host.now) (world c.ready.new.host) (world c.open_log.new.self) (world c.open_errors.new.self) c.ready.ensures.finished c.open_log.ensures.world c.open_errors.ensures.world)
