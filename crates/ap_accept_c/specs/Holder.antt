-- What C must hand back unchanged.
use Rattle.std.specs.Prelude.{◌≡◌, is_some}
use Rattle.ap_accept_c.specs.declared.holder.Holder.{Holder}

-- the flag says whether there is a service
abbrev pub IsHolder : Holder → Type 0
IsHolder holder = holder.is_open ≡ is_some holder.held.value
