use Rattle.std.proofs.Common.{◌≡◌, map, take}
use Rattle.client_core.specs.Credentials.{address_of}
use Rattle.client_core.proofs.credentials.addresses.Given as goal

abbrev pub invariant-loop-address : goal.invariant-loop-address
invariant-loop-address l = l.addresses ≡ map address_of (take l.address-index l.list)
