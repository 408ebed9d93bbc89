use Rattle.std.proofs.Common.{rules, tests, ◌∙◌, not}
use Rattle.std.specs.Map.{values_of}
use Rattle.std.proofs.lemmas.Iterator.Consumers.{YieldsList-at, YieldsList-from_filter, YieldsList-from_rest, count_from_yields_List}
use Rattle.std.proofs.lemmas.List.Sums.{length-filter}
use Rattle.kdc_sockets.specs.declared.connection.Connection.{Connection}
use Rattle.kdc_sockets.specs.Table.{open_count}
use Rattle.kdc_sockets.proofs.connections.Connections.count_open.Goals as goal

pub returns : goal.returns
unfolding open_count
returns c =
    let is_open = λ (connection : Connection). not connection.is_closing in
    count_from_yields_List c.filter.result c.count.result c.count.ensures.ran
    (YieldsList-from_filter _ is_open (YieldsList-at c.filter.ensures.source (YieldsList-from_rest _ c.values.ensures.rest)) c.filter.ensures.closure (λ x r q k. search (rules, tests)))
    ∙ length-filter is_open (values_of c.args.self.now.held.entries)
