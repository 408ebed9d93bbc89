-- The terms in the service's row for the types that a request lists, and the times of the ticket.
use Rattle.std.specs.Prelude.{ℤ, List, Option, Some, None}
use Rattle.kdc_replies.specs.ServiceTerms.{service_terms}
use Rattle.kdc_replies.specs.declared.services.ServiceTerms.{ServiceTerms}
use Rattle.krb_fields.specs.PrincipalName.{Name}
use Rattle.krb_types.specs.ReqBody.{ReqBody}
use Rattle.principal_rows.specs.declared.limits.Limits.{Limits}
use Rattle.principal_rows.specs.declared.row.Row.{Row}
use Rattle.ticket_times.specs.Times.{tgs_times}
use Rattle.ticket_times.specs.declared.ticket_terms.TicketTerms.{TicketTerms}
use Rattle.ticket_times.specs.declared.times.Times.{Times}
use Rattle.tgs_exchange.specs.View.{TgsView}
use Rattle.tgs_exchange.specs.declared.terms.Terms.{Terms}
use Rattle.tgs_exchange.specs.declared.terms.Admission.{Admission}

abbrev pub terms_by : Row → Option ServiceTerms → Option Terms
terms_by client (Some service) = Some (record { client_policy = client.policy; service = service })
terms_by client None = None

abbrev pub terms_if : List ℤ → Option Name → Option Row → Option Row → Option Terms
terms_if types (Some sname) (Some client) (Some service) = terms_by client (service_terms types sname service)
terms_if types (Some sname) (Some client) None = None
terms_if types (Some sname) None service = None
terms_if types None client service = None

-- none if the name or a row is absent, or there is no common type
abbrev pub terms : TgsView → ReqBody → Option Terms
terms v body = terms_if body.etype body.sname v.client v.service

-- the times of a ticket by these terms; none if it would end no later than it starts
abbrev pub times_of : Limits → ℤ → TicketTerms → ReqBody → Option Terms → Option Times
times_of limits now ticket body (Some t) = tgs_times now ticket t.client_policy t.service.policy limits body
times_of limits now ticket body None = None

abbrev pub admission_of : Option Terms → Option Times → Option Admission
admission_of (Some t) (Some times) = Some (record { terms = t; times = times })
admission_of (Some t) None = None
admission_of None times = None
