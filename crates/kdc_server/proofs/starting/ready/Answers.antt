use Rattle.std.proofs.Common.{◌∙◌, ap, subst, [], ◌∷◌}
use Rattle.std.specs.Option.{option_copied}
use Rattle.kdc_hub.specs.Wire.{Records}
use Rattle.kdc_server.specs.Starting.{Held, IsSeed, seeded}
use Rattle.kdc_server.proofs.Ready.{all_recorded}
use Rattle.kdc_server.proofs.starting.ready.Goals as goal

pub returns-clause-start : goal.returns-clause-start
returns-clause-start g c =
    let seed : IsSeed (option_copied c.args.options.now.seed) (g.H.Host.recorded c.read_rows.new.self) (g.H.Host.recorded c.take_seed.new.host) c.in_ok-seed.seed = c.in_ok-seed.ensures.seed in
    let held : Records (g.H.Host.recorded c.take_seed.new.host) (Held c.args.options.now.udp.items c.args.options.now.tcp.items ∷ []) (g.H.Host.recorded c.hold.new.self) =
    subst (λ us. Records (g.H.Host.recorded c.take_seed.new.host) (Held us c.args.options.now.tcp.items ∷ []) (g.H.Host.recorded c.hold.new.self)) c.deref.ensures.value
    (subst (λ ts. Records (g.H.Host.recorded c.take_seed.new.host) (Held c.deref.result.now ts ∷ []) (g.H.Host.recorded c.hold.new.self)) c.deref-2.ensures.value c.in-Ok-hold.ensures.held) in
    record {
      rows = c.in-Ok.rows;
      octets = seed.octets;
      did = all_recorded _ _ _ _ _ _ _ _ _ c.in-Ok.ensures.records seed.did held c.in_ok-files.ensures.did;
      found = c.in_ok-files.ensures.found;
      first = c.in_ok-files.ensures.first;
      decided = c.in_ok-files.ensures.decided;
      kdc = c.in_ok-hub.ensures.kdc;
      realm = c.in_ok-files.ensures.realm;
      floor = c.in_ok-files.ensures.floor;
      random = c.in_ok-hub.ensures.random ∙ ap seeded seed.is;
      audits = c.in_ok-hub.ensures.audits;
      connections = c.in_ok-hub.ensures.connections;
      count = c.len-row_count.ensures;
    }
