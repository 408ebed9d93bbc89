-- The keys for the encryption types that a request asks for, and the times of the ticket.
use Rattle.std.specs.Prelude.{ℤ, List, Option, Some, None}
use Rattle.enctypes.specs.declared.key.Key.{Key}
use Rattle.kdc_replies.specs.ServiceTerms.{current_keys, service_terms}
use Rattle.kdc_replies.specs.declared.services.ServiceTerms.{ServiceTerms}
use Rattle.krb_fields.specs.PrincipalName.{Name}
use Rattle.krb_types.specs.ReqBody.{ReqBody}
use Rattle.preauth.specs.Keys.{first_key}
use Rattle.preauth.specs.declared.timestamp.Outcome.{Outcome}
use Rattle.principal_rows.specs.Versions.{current}
use Rattle.principal_rows.specs.declared.limits.Limits.{Limits}
use Rattle.principal_rows.specs.declared.row.Row.{Row}
use Rattle.ticket_times.specs.Times.{as_times}
use Rattle.ticket_times.specs.declared.times.Times.{Times}
use Rattle.as_exchange.specs.View.{AsView}
use Rattle.as_exchange.specs.declared.terms.Terms.{Terms}
use Rattle.as_exchange.specs.declared.terms.Admission.{Admission}

-- The reply key is the client's current key of the first requested encryption type for which it has one.
abbrev pub terms_by : Name → Row → Option Key → Option ServiceTerms → Option Terms
terms_by cname client (Some reply) (Some service) = Some (record {
  client_name = cname;
  client_policy = client.policy;
  reply_key = reply;
  reply_version = (current client.versions).number;
  service = service;
})
terms_by cname client (Some reply) None = None
terms_by cname client None service = None

abbrev pub common_terms : List ℤ → Name → Name → Row → Row → Option Terms
common_terms types cname sname client service =
    terms_by cname client (first_key (current_keys client) types) (service_terms types sname service)

abbrev pub terms_if : List ℤ → Option Name → Option Name → Option Row → Option Row → Option Terms
terms_if types (Some cname) (Some sname) (Some client) (Some service) = common_terms types cname sname client service
terms_if types (Some cname) (Some sname) (Some client) None = None
terms_if types (Some cname) (Some sname) None service = None
terms_if types (Some cname) None client service = None
terms_if types None sname client service = None

-- none if a name or a row is absent, or there is no common encryption type
abbrev pub terms : AsView → ReqBody → Option Terms
terms v body = terms_if body.etype body.cname body.sname v.client v.service

-- the times of a ticket with these terms; none if it would not end after it starts
abbrev pub times_of : Limits → ℤ → ReqBody → Option Terms → Option Times
times_of limits now body (Some t) = as_times now t.client_policy t.service.policy limits body
times_of limits now body None = None

abbrev pub admission_of : Outcome → Option Terms → Option Times → Option Admission
admission_of timestamp (Some t) (Some times) = Some (record { terms = t; times = times; timestamp = timestamp })
admission_of timestamp (Some t) None = None
admission_of timestamp None times = None
