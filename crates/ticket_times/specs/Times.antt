-- The times of a ticket (RFC 4120 sections 3.1.3 and 3.3.3), in whole seconds since 1970. Each is the least of a set of
-- bounds.
use Rattle.std.specs.Prelude.{ℕ, ℤ, pos, ◌+ℤ◌, ◌-ℤ◌, ◌<ℤ◌, IfSome, int_lt, int_le, Bool, true, not, ◌&&◌, if◌then◌else◌}
use Rattle.std.specs.Prelude.{List, [], ◌∷◌, Option, Some, None, option_map}
use Rattle.std.specs.Bool.{then_some}
use Rattle.std.specs.Int.{int_max}
use Rattle.std.specs.Option.{unwrap_or}
use Rattle.std.specs.Ordering.{int_eq}
use Rattle.krb_der.specs.Civil.{IsCivilSecond}
use Rattle.krb_fields.specs.Skew.{skew}
use Rattle.krb_fields.specs.declared.kdc_option.KdcOption.TheVariants.{Postdated, Renewable, RenewableOk, Renew}
use Rattle.krb_fields.specs.declared.kdc_option.KdcOption.TheVariants.{Validate}
use Rattle.krb_fields.specs.declared.ticket_flag.TicketFlag.TheVariants.{Renewable as RenewableFlag}
use Rattle.krb_types.specs.ReqBody.{ReqBody}
use Rattle.principal_rows.specs.declared.limits.Limits.{Limits}
use Rattle.principal_rows.specs.declared.policy.Policy.{Policy}
use Rattle.ticket_times.specs.declared.ceiling.Ceiling.{Ceiling}
use Rattle.ticket_times.specs.declared.ticket_terms.TicketTerms.{TicketTerms}
use Rattle.ticket_times.specs.declared.times.Times.{Times}
use Rattle.ticket_times.specs.Least.{last_second, least}
use Rattle.ticket_times.specs.Asked.{asks}
use Rattle.ticket_times.specs.TicketTerms.{has_flag, start_of_ticket, renewal_of_ticket}

-- a requested time; zero asks for no bound
abbrev pub bound_asked : ℤ → ℤ
bound_asked time = if int_eq time (pos 0) then last_second else time

-- this many seconds later
abbrev pub later : ℤ → ℕ → ℤ
later time seconds = time +ℤ pos seconds

-- the requested start lies beyond the clock skew, without the option POSTDATED
abbrev pub starts_too_late : ℤ → ReqBody → Bool
starts_too_late now body = not (asks body Postdated) && int_lt (later now skew) (unwrap_or body.from now)

abbrev pub start_of : ℤ → ReqBody → ℤ
start_of now body = if asks body Postdated then int_max now (unwrap_or body.from now) else now

-- the bounds on the end
abbrev pub ends : ℤ → Ceiling → Policy → Policy → Limits → ReqBody → List ℤ
ends start ceiling client service limits body =
    bound_asked body.till
    ∷ ceiling.end
    ∷ later start client.greatest_life
    ∷ later start service.greatest_life
    ∷ later start limits.greatest_life
    ∷ last_second
    ∷ []

abbrev pub end_of : ℤ → Ceiling → Policy → Policy → Limits → ReqBody → ℤ
end_of start ceiling client service limits body = least (ends start ceiling client service limits body)

-- until when the ticket should be renewable, if at all
abbrev pub wanted : Ceiling → ReqBody → ℤ → Option ℤ
wanted ceiling body end =
    if asks body Renewable then Some (unwrap_or (option_map bound_asked body.rtime) last_second)
    else if asks body RenewableOk && ceiling.renewable_ok && not (int_eq body.till (pos 0)) && int_lt end body.till
    then Some body.till
    else None

-- the bounds on the renew-till
abbrev pub renewals : ℤ → ℤ → Ceiling → Policy → Policy → Limits → List ℤ
renewals start wanted ceiling client service limits =
    wanted
    ∷ ceiling.renew_till
    ∷ later start client.greatest_renewable
    ∷ later start service.greatest_renewable
    ∷ later start limits.greatest_renewable
    ∷ last_second
    ∷ []

-- until when the ticket is renewable; none if that would not be after the start
abbrev pub renewable_until : ℤ → ℤ → Ceiling → Policy → Policy → Limits → Option ℤ
renewable_until start wanted ceiling client service limits =
    let until : ℤ = least (renewals start wanted ceiling client service limits) in then_some (int_lt start until) until

abbrev pub renew_till_of : ℤ → Option ℤ → Ceiling → Policy → Policy → Limits → Option ℤ
renew_till_of start None ceiling client service limits = None
renew_till_of start (Some wanted) ceiling client service limits =
    renewable_until start wanted ceiling client service limits

-- the end is not after the start
abbrev pub is_never_valid : ℤ → ℤ → Bool
is_never_valid start end = int_le end start

-- these times, or none if the ticket would never be valid
abbrev pub valid_times : ℤ → ℤ → Option ℤ → Option Times
valid_times start end renew_till =
    if is_never_valid start end then None else Some (record { start = start; end = end; renew_till = renew_till })

-- times that a ticket can hold, and a lifetime of at least a second
pub record IsTimes (times : Times) : Type 0 where
  pub start : IsCivilSecond times.start
  pub end : IsCivilSecond times.end
  pub renew_till : IfSome times.renew_till IsCivilSecond
  pub lasting : times.start <ℤ times.end

-- the times of a new ticket within these bounds
abbrev pub fresh_times : ℤ → Ceiling → Policy → Policy → Limits → ReqBody → Option Times
fresh_times now ceiling client service limits body =
    let start : ℤ = start_of now body in
    let end : ℤ = end_of start ceiling client service limits body in
    valid_times start end (renew_till_of start (wanted ceiling body end) ceiling client service limits)

-- ---- the AS exchange

-- no bounds
abbrev pub no_ceiling : Ceiling
no_ceiling = record { end = last_second; renew_till = last_second; renewable_ok = true }

abbrev pub as_times : ℤ → Policy → Policy → Limits → ReqBody → Option Times
as_times now client service limits body = fresh_times now no_ceiling client service limits body

-- ---- the TGS exchange

-- the bounds of the presented ticket
abbrev pub ceiling_of : TicketTerms → Ceiling
ceiling_of ticket =
    record { end = ticket.endtime; renew_till = renewal_of_ticket ticket; renewable_ok = has_flag ticket RenewableFlag }

-- its renew-till, which only a renewable ticket has
abbrev pub kept_renewal : TicketTerms → Option ℤ
kept_renewal ticket = then_some (has_flag ticket RenewableFlag) (renewal_of_ticket ticket)

abbrev pub validated_times : TicketTerms → Option Times
validated_times ticket = valid_times (start_of_ticket ticket) ticket.endtime (kept_renewal ticket)

-- the end of a ticket that starts now and has the lifetime of this one
abbrev pub lived_again : ℤ → TicketTerms → ℤ
lived_again now ticket = now +ℤ (ticket.endtime -ℤ start_of_ticket ticket)

abbrev pub renewed_ends : ℤ → TicketTerms → List ℤ
renewed_ends now ticket = lived_again now ticket ∷ renewal_of_ticket ticket ∷ []

abbrev pub renewed_times : ℤ → TicketTerms → Option Times
renewed_times now ticket = valid_times now (least (renewed_ends now ticket)) (kept_renewal ticket)

abbrev pub tgs_times : ℤ → TicketTerms → Policy → Policy → Limits → ReqBody → Option Times
tgs_times now ticket client service limits body =
    if asks body Validate then validated_times ticket
    else if asks body Renew then renewed_times now ticket
    else fresh_times now (ceiling_of ticket) client service limits body
