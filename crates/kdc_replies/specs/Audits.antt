-- What the audit record of a request says about the bytes of its reply.
use Rattle.std.specs.Prelude.{◌≡◌, ℕ, List, Option, Some, None}
use Rattle.krb_fields.specs.Code.{number_of}
use Rattle.krb_fields.specs.PrincipalName.{Name}
use Rattle.krb_fields.specs.declared.code.Code.{Code}
use Rattle.krb_types.specs.KrbError.{KrbError, krb_error}
use Rattle.kdc_replies.specs.Granted.{granted}
use Rattle.kdc_replies.specs.Issue.{Issue, IsIssued}
use Rattle.kdc_replies.specs.declared.granted.Granted.{Granted}

-- these bytes are an error with this code
abbrev pub IsErrorWith : Code → List ℕ → Type 0
IsErrorWith code octets = (error : KrbError) × (error.error_code ≡ number_of code) × krb_error.Spells error octets

-- These bytes are the reply with a ticket of this client for this service. The reply key and the service's key decrypt
-- it to these encryption types, flags and times.
pub record IsIssuedTo (client service : Option Name) (terms : Granted) (issue : Issue) (octets : List ℕ) : Type 0 where
  pub reply : IsIssued issue octets
  pub client_is : client ≡ Some issue.grant.client
  pub service_is : service ≡ Some issue.grant.service
  pub granted_is : terms ≡ granted issue

-- a ticket was issued, and the bytes are its reply
abbrev pub WasIssuedTo : Option Name → Option Name → Granted → Option Issue → List ℕ → Type 0
WasIssuedTo client service terms (Some issue) octets = IsIssuedTo client service terms issue octets
WasIssuedTo client service terms None octets = ⊥
