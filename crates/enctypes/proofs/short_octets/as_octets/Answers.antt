use Rattle.std.proofs.Common.{◌<◌, arith}
use Rattle.std.proofs.lemmas.List.Elements.{All-from_get_or}
use Rattle.enctypes.proofs.short_octets.as_octets.Goals as goal

pub returns-clause-octets : goal.returns-clause-octets
returns-clause-octets c =
    All-from_get_or (λ b. b < 256) c.args.octets.now 0 (λ i lt. omega (arith, c.type_inv.octets i))
