-- The flags of a ticket (RFC 4120 sections 2, 3.1.3 and 3.3.3).
use Rattle.std.specs.Prelude.{ℕ, Bool, true, ◌&&◌, ◌||◌, if◌then◌else◌, [], ◌∷◌, is_some}
use Rattle.krb_fields.specs.Flags.{without_bit}
use Rattle.krb_fields.specs.declared.ticket_flag.TicketFlag.TheVariants.{Forwardable, Forwarded, Proxiable, Proxy}
use Rattle.krb_fields.specs.declared.ticket_flag.TicketFlag.TheVariants.{MayPostdate, Postdated, Invalid, Renewable}
use Rattle.krb_fields.specs.declared.ticket_flag.TicketFlag.TheVariants.{Initial, PreAuthent, OkAsDelegate}
use Rattle.krb_fields.specs.TicketFlag.{ticket_flag_number}
use Rattle.krb_fields.specs.declared.kdc_option.KdcOption as options
use Rattle.krb_types.specs.ReqBody.{ReqBody}
use Rattle.principal_rows.specs.declared.policy.Policy.{Policy}
use Rattle.ticket_times.specs.declared.ticket_terms.TicketTerms.{TicketTerms}
use Rattle.ticket_times.specs.declared.times.Times.{Times}
use Rattle.ticket_times.specs.Asked.{asks, keeps_ticket}
use Rattle.ticket_times.specs.TicketTerms.{has_flag}
use Rattle.ticket_times.specs.FlagSet.{Conditions, flags_where}

-- the AS exchange; `good` is whether a timestamp was good
abbrev pub as_conditions : ReqBody → Policy → Policy → Bool → Times → Conditions
as_conditions body client service good times =
    (Initial, true)
    ∷ (PreAuthent, good)
    ∷ (Forwardable, asks body options.TheVariants.Forwardable && client.forwardable && service.forwardable)
    ∷ (Proxiable, asks body options.TheVariants.Proxiable && client.proxiable && service.proxiable)
    ∷ (MayPostdate, asks body options.TheVariants.AllowPostdate)
    ∷ (Postdated, asks body options.TheVariants.Postdated)
    ∷ (Invalid, asks body options.TheVariants.Postdated)
    ∷ (Renewable, is_some times.renew_till)
    ∷ (OkAsDelegate, service.ok_as_delegate)
    ∷ []

abbrev pub as_flags : ReqBody → Policy → Policy → Bool → Times → ℕ
as_flags body client service good times = flags_where (as_conditions body client service good times)

-- the TGS exchange, for a ticket that is neither a renewed nor a validated one
abbrev pub tgs_conditions : ReqBody → TicketTerms → Policy → Times → Conditions
tgs_conditions body ticket service times =
    (Forwardable, asks body options.TheVariants.Forwardable)
    ∷ (Forwarded, asks body options.TheVariants.Forwarded || has_flag ticket Forwarded)
    ∷ (Proxiable, asks body options.TheVariants.Proxiable)
    ∷ (Proxy, asks body options.TheVariants.Proxy)
    ∷ (PreAuthent, has_flag ticket PreAuthent)
    ∷ (MayPostdate, asks body options.TheVariants.AllowPostdate)
    ∷ (Postdated, asks body options.TheVariants.Postdated)
    ∷ (Invalid, asks body options.TheVariants.Postdated)
    ∷ (Renewable, is_some times.renew_till)
    ∷ (OkAsDelegate, service.ok_as_delegate)
    ∷ []

-- a renewed or validated ticket keeps its flags, also those without a name
abbrev pub kept_flags : TicketTerms → ℕ
kept_flags ticket = without_bit (without_bit ticket.flags (ticket_flag_number Initial)) (ticket_flag_number Invalid)

abbrev pub tgs_flags : ReqBody → TicketTerms → Policy → Times → ℕ
tgs_flags body ticket service times =
    if keeps_ticket body then kept_flags ticket
    else flags_where (tgs_conditions body ticket service times)
