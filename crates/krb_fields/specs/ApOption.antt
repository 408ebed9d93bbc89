-- The options of an AP-REQ (RFC 4120 section 5.5.1).
use Rattle.std.specs.Prelude.{ℕ}
use Rattle.krb_fields.specs.declared.ap_option.ApOption.{ApOption}
use Rattle.krb_fields.specs.declared.ap_option.ApOption.TheVariants.{UseSessionKey, MutualRequired}

-- the number of its bit
abbrev pub ap_option_number : ApOption → ℕ
ap_option_number UseSessionKey = 1
ap_option_number MutualRequired = 2
