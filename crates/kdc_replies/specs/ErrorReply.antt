-- The KDC's error replies.
use Rattle.std.specs.Prelude.{ℕ, List, Option, None}
use Rattle.std.specs.Option.{unwrap_or}
use Rattle.krb_fields.specs.declared.code.Code.{Code}
use Rattle.krb_fields.specs.declared.code.Code.TheVariants.{KrbErrResponseTooBig}
use Rattle.krb_fields.specs.declared.moment.Moment.{Moment}
use Rattle.krb_fields.specs.Code.{number_of}
use Rattle.krb_fields.specs.PrincipalName.{Name}
use Rattle.krb_types.specs.KrbError.{KrbError}
use Rattle.krb_types.specs.ReqBody.{ReqBody}
use Rattle.krb_fields.specs.Granting.{tgs_name}

-- KRB-ERROR (RFC 4120, section 5.9.1): the moment, the code, this realm, the requested service or else the
-- ticket-granting service, and the data for the code
abbrev pub error_reply : List ℕ → Moment → Code → Option Name → Option (List ℕ) → KrbError
error_reply realm at code sname e_data = record {
  ctime = None;
  cusec = None;
  stime = at.sec;
  susec = at.usec;
  error_code = number_of code;
  crealm = None;
  cname = None;
  realm = realm;
  sname = unwrap_or sname (tgs_name realm);
  e_text = None;
  e_data = e_data;
}

-- sent instead of a reply that doesn't fit
abbrev pub too_big : List ℕ → Moment → ReqBody → KrbError
too_big realm at body = error_reply realm at KrbErrResponseTooBig body.sname None
