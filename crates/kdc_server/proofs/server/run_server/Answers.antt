use Rattle.std.proofs.Common.{◌∙◌}
use Rattle.kdc_hub.specs.Hub.{hub_state}
use Rattle.kdc_hub.specs.Recorded.{is_fixed_if, recorded_by_any}
use Rattle.kdc_server.specs.Starting.{chacha20}
use Rattle.kdc_server.proofs.Fixed.{there_if_changing}
use Rattle.kdc_server.proofs.OnFiles.{began_and_left, if_failed}
use Rattle.kdc_server.proofs.OneRun.{has_run}
use Rattle.kdc_server.proofs.server.run_server.Goals as goal

pub returns-clause-run : goal.returns-clause-run
returns-clause-run g c =
    let server = c.in_ok-server.server in
    let source = c.in_ok-rows.rows in
    has_run c.args.options.now (g.H.Host.recorded c.args.host.now) (g.H.Host.recorded c.start.new.host) (g.H.Host.recorded c.take_rows.new.host) _ (hub_state chacha20 server.hub) server.wire.came.at server.wire.clock.floor server.news
    (g.H.Tally.Tally.recorded server.wire.tally) (is_fixed_if g.H.Rows.RowSource.is_fixed source) (recorded_by_any g.H.Rows.RowSource.recorded source) c.round_limit-rounds.result
    c.live-wire.result.totals (g.H.Tally.Tally.recorded c.live-wire.result.wire.tally) (recorded_by_any g.H.Rows.RowSource.recorded c.live-wire.new.source) (hub_state chacha20 c.live-wire.new.hub)
    c.in_ok-server.ensures.start c.in_ok-rows.ensures.took (c.take_metrics.ensures.records ∙ c.announce.ensures.records) c.in_ok-server.ensures.tally c.in_ok-rows.ensures.new
    c.in_ok-rows.ensures.changes c.round_limit-rounds.ensures c.live-wire.ensures.life

pub returns-clause-source : goal.returns-clause-source
returns-clause-source g c = there_if_changing g.H.Rows.RowSource.is_fixed c.in_ok-rows.rows c.live-wire.new.source c.args.options.now.is_fixed c.live-wire.ensures.stays c.in_ok-rows.ensures.changes

pub returns-clause-over : goal.returns-clause-over
returns-clause-over g c =
    let server = c.in_ok-server.server in
    let source = c.in_ok-rows.rows in
    λ there.
    let started = c.in_ok-server.ensures.over there in
    record {
      run = has_run c.args.options.now (g.H.Host.recorded c.args.host.now) (g.H.Host.recorded c.start.new.host) (g.H.Host.recorded c.take_rows.new.host) _ (hub_state chacha20 server.hub) server.wire.came.at server.wire.clock.floor server.news
          (g.H.Tally.Tally.recorded server.wire.tally) (is_fixed_if g.H.Rows.RowSource.is_fixed source) (recorded_by_any g.H.Rows.RowSource.recorded source) c.round_limit-rounds.result
          c.live-wire.result.totals (g.H.Tally.Tally.recorded c.live-wire.result.wire.tally) (recorded_by_any g.H.Rows.RowSource.recorded c.live-wire.new.source) (hub_state chacha20 c.live-wire.new.hub)
          started.started c.in_ok-rows.ensures.took (c.take_metrics.ensures.records ∙ c.announce.ensures.records) c.in_ok-server.ensures.tally c.in_ok-rows.ensures.new
          c.in_ok-rows.ensures.changes c.round_limit-rounds.ensures c.live-wire.ensures.life;
      begun = g.H.Journal.JournalWriter.state server.wire.journal;
      begins = started.begins;
      asked = c.live-wire.ensures.asked;
    }

pub returns-in_err-rows-clause-failed : goal.returns-in_err-rows-clause-failed
returns-in_err-rows-clause-failed g c =
    let server = c.in_ok-server.server in
    let recorded = g.H.Host.recorded in
    let world = g.H.Host.world in
    if_failed c.from_residual-in_err-rows.result
    (began_and_left c.args.options.now (recorded c.args.host.now) (recorded c.start.new.host) (hub_state chacha20 server.hub) server.wire.came.at server.wire.clock.floor server.news
    (world c.args.host.now) (world c.start.new.host) (world c.take_rows.new.host) (g.H.Journal.JournalWriter.state server.wire.journal) c.in_ok-server.ensures.over c.take_rows.ensures.world)
