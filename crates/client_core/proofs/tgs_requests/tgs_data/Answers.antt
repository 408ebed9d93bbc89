use Rattle.std.proofs.Common.{length, ap, arith}
use Rattle.client_core.specs.ShortLaws.{presentable_realm}
use Rattle.client_core.proofs.tgs_requests.tgs_data.Goals as goal

pub tgs_authenticator-requires-clause-realm : goal.tgs_authenticator-requires-clause-realm
tgs_authenticator-requires-clause-realm c = presentable_realm c.args.credential.now c.requires.presentable

pub returns-clause-short : goal.returns-clause-short
returns-clause-short c = omega (arith, ap length c.new.ensures, c.in_ok-octets.ensures.short)
