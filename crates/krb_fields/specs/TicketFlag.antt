-- The flags of a ticket (RFC 4120 sections 2 and 5.3).
use Rattle.std.specs.Prelude.{ℕ}
use Rattle.krb_fields.specs.declared.ticket_flag.TicketFlag.{TicketFlag}
use Rattle.krb_fields.specs.declared.ticket_flag.TicketFlag.TheVariants.{
  Forwardable,
  Forwarded,
  Proxiable,
  Proxy,
  MayPostdate,
  Postdated,
  Invalid,
  Renewable,
  Initial,
  PreAuthent,
  HwAuthent,
  TransitedPolicyChecked,
  OkAsDelegate,
}

-- the number of its bit
abbrev pub ticket_flag_number : TicketFlag → ℕ
ticket_flag_number Forwardable = 1
ticket_flag_number Forwarded = 2
ticket_flag_number Proxiable = 3
ticket_flag_number Proxy = 4
ticket_flag_number MayPostdate = 5
ticket_flag_number Postdated = 6
ticket_flag_number Invalid = 7
ticket_flag_number Renewable = 8
ticket_flag_number Initial = 9
ticket_flag_number PreAuthent = 10
ticket_flag_number HwAuthent = 11
ticket_flag_number TransitedPolicyChecked = 12
ticket_flag_number OkAsDelegate = 13
