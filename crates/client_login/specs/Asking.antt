-- What a client requests from a KDC (RFC 4120, section 5.4.1).
use Rattle.std.specs.Prelude.{ℕ, ℤ, pos, ◌+◌, ◌+ℤ◌, int_lt, Bool, true, if◌then◌else◌, is_some}
use Rattle.std.specs.Prelude.{List, Option, Some, None, option_map}
use Rattle.std.specs.Option.{unwrap_or}
use Rattle.cred_files.specs.declared.principal.Principal.{Principal}
use Rattle.client_core.specs.declared.asked.Asked.{Asked}
use Rattle.enctypes.specs.declared.etype.Etype.{Etype}
use Rattle.krb_fields.specs.Flags.{has_bit, with_bit}
use Rattle.krb_fields.specs.KdcOption.{kdc_option_number}
use Rattle.krb_fields.specs.PrincipalName.{Name}
use Rattle.krb_fields.specs.declared.kdc_option.KdcOption.{KdcOption}
use Rattle.krb_fields.specs.declared.kdc_option.KdcOption.TheVariants.{AllowPostdate, Forwardable, Postdated}
use Rattle.krb_fields.specs.declared.kdc_option.KdcOption.TheVariants.{Proxiable, Renewable}
use Rattle.krb_fields.specs.declared.kdc_option.KdcOption.TheVariants as options
use Rattle.client_login.specs.declared.ticket_requests.Renewal.{Renewal}
use Rattle.client_login.specs.declared.ticket_requests.Renewal.TheVariants.{Renew, Validate}
use Rattle.client_login.specs.declared.ticket_requests.Login.{Login}
use Rattle.client_login.specs.declared.ticket_requests.TicketRequest.{TicketRequest}
use Rattle.client_login.specs.Keys.{offered}

-- ---- the options

abbrev pub with_if : Bool → KdcOption → ℕ → ℕ
with_if wanted option bits = if wanted then with_bit bits (kdc_option_number option) else bits

-- for the ticket of a request; one that starts later is requested as postdated
abbrev pub options_of : TicketRequest → ℕ
options_of w =
    with_if (is_some w.start) Postdated
    (with_if w.proxiable Proxiable (with_if w.forwardable Forwardable (with_if w.renewable Renewable 0)))

-- an option is kept if the ticket has the flag with its number
abbrev pub with_kept : ℕ → KdcOption → ℕ → ℕ
with_kept flags option bits = with_if (has_bit flags (kdc_option_number option)) option bits

abbrev pub renewal_option : Renewal → KdcOption
renewal_option Renew = options.Renew
renewal_option Validate = options.Validate

-- for a ticket with these flags that is renewed or validated: some KDCs clear a flag whose option is not requested
-- again
abbrev pub renewal_options : Renewal → ℕ → ℕ
renewal_options renewal flags =
    with_kept flags Renewable
    (with_kept flags AllowPostdate
    (with_kept flags Proxiable (with_kept flags Forwardable (with_if true (renewal_option renewal) 0))))

-- ---- the times

-- the second, or the last one of the year 9999 if it is later
abbrev pub up_to_last : ℤ → ℤ
up_to_last second = if int_lt (pos 253402300799) second then pos 253402300799 else second

abbrev pub time_after : ℤ → ℕ → ℤ
time_after now seconds = up_to_last (now +ℤ pos seconds)

-- when it starts: this many seconds from now; absent: at once
abbrev pub from_of : ℤ → TicketRequest → Option ℤ
from_of now w = option_map (time_after now) w.start

-- this many seconds after the start; the start of 1970 requests no bound
abbrev pub till_by : ℤ → ℕ → Option ℕ → ℤ
till_by now start (Some life) = time_after now (life + start)
till_by now start None = pos 0

-- when it ends
abbrev pub till_of : ℤ → TicketRequest → ℤ
till_of now w = till_by now (unwrap_or w.start 0) w.lifetime

-- until when it is to be renewable
abbrev pub rtime_of : ℤ → TicketRequest → Option ℤ
rtime_of now w = if w.renewable then Some (till_by now (unwrap_or w.start 0) w.renew_lifetime) else None

-- ---- the whole request

-- a first ticket for a service of the client's realm, with these types
abbrev pub first_asked : Login → List Etype → ℤ → ℕ → Asked
first_asked login etypes now nonce = record {
  options = options_of login.request;
  client = login.client.name;
  realm = login.client.realm;
  service = login.service;
  from = from_of now login.request;
  till = till_of now login.request;
  rtime = rtime_of now login.request;
  nonce = nonce;
  etypes = etypes;
}

-- with a ticket-granting ticket: a ticket that ends as late as that one
abbrev pub further_asked : ℕ → Principal → Name → ℕ → Asked
further_asked option_bits client service nonce = record {
  options = option_bits;
  client = client.name;
  realm = client.realm;
  service = service;
  from = None;
  till = pos 0;
  rtime = None;
  nonce = nonce;
  etypes = offered;
}
