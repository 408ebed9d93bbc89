-- The kinds of requests that are counted apart.
use Rattle.std.specs.Prelude.{Bool, true, false, Option, Some, None}
use Rattle.as_exchange.specs.declared.outcome.AsOutcome.{AsOutcome}
use Rattle.as_exchange.specs.declared.outcome.AsOutcome.TheVariants.{Refused as AsOutcomeRefused}
use Rattle.as_exchange.specs.declared.outcome.AsOutcome.TheVariants.{Issued as AsOutcomeIssued}
use Rattle.as_exchange.specs.declared.outcome.AsOutcome.TheVariants.{TooBig as AsOutcomeTooBig}
use Rattle.tgs_exchange.specs.declared.outcome.TgsOutcome.{TgsOutcome}
use Rattle.tgs_exchange.specs.declared.outcome.TgsOutcome.TheVariants.{Refused, Issued, Resent, TooBig}
use Rattle.kdc_core.specs.Audit.{AuditRecord}
use Rattle.kdc_core.specs.declared.audit.AuditRecord.TheVariants.{NoRequest as NothingAsked, As, Tgs}
use Rattle.kdc_metrics.specs.declared.kind.Kind.{Kind}
use Rattle.kdc_metrics.specs.declared.kind.Kind.TheVariants.{NoRequest, Unanswered, AsTicket, AsTooBig, AsRefused}
use Rattle.kdc_metrics.specs.declared.kind.Kind.TheVariants.{TgsTicket, TgsTooBig, TgsAgain, TgsRefused}

abbrev pub as_kind : AsOutcome → Kind
as_kind (AsOutcomeRefused rule) = AsRefused rule
as_kind (AsOutcomeIssued granted) = AsTicket
as_kind AsOutcomeTooBig = AsTooBig

abbrev pub tgs_kind : TgsOutcome → Kind
tgs_kind (Refused rule) = TgsRefused rule
tgs_kind (Issued granted) = TgsTicket
tgs_kind (Resent bears) = TgsAgain bears
tgs_kind TooBig = TgsTooBig

-- by the audit record of the request, or by that memory ran out
abbrev pub kind_of : Option AuditRecord → Kind
kind_of None = Unanswered
kind_of (Some NothingAsked) = NoRequest
kind_of (Some (As client service outcome)) = as_kind outcome
kind_of (Some (Tgs client service outcome)) = tgs_kind outcome

-- whether a request of this kind has a reply
abbrev pub has_reply : Kind → Bool
has_reply NoRequest = false
has_reply Unanswered = false
has_reply AsTicket = true
has_reply AsTooBig = true
has_reply (AsRefused rule) = true
has_reply TgsTicket = true
has_reply TgsTooBig = true
has_reply (TgsAgain bears) = true
has_reply (TgsRefused rule) = true
