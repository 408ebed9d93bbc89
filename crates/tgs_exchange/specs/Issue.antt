-- The ticket of an admission, and the reply that carries it (RFC 4120, section 3.3.3).
use Rattle.std.specs.Prelude.{ℕ, List, Option, Some, None}
use Rattle.enctypes.specs.declared.key.Key.{Key}
use Rattle.enctypes.specs.declared.key_usage.KeyUsage.TheVariants.{TgsRepEncPartSessionKey, TgsRepEncPartSubkey}
use Rattle.kdc_replies.specs.Grant.{session_key}
use Rattle.kdc_replies.specs.Reply.{reply_of}
use Rattle.kdc_replies.specs.declared.grant.Grant.{Grant}
use Rattle.encrypted_data.specs.declared.encrypting.PartKey.{PartKey}
use Rattle.krb_fields.specs.declared.numbers.TheConstants.{TGS_REP, ENC_TGS_REP_PART}
use Rattle.krb_fields.specs.declared.moment.Moment.{Moment}
use Rattle.krb_types.specs.KdcRep.{KdcRep}
use Rattle.krb_types.specs.ReqBody.{ReqBody}
use Rattle.ticket_times.specs.Flags.{tgs_flags}
use Rattle.tgs_opening.specs.declared.presented.Presented.{Presented}
use Rattle.tgs_exchange.specs.View.{TgsView}
use Rattle.ap_req.specs.Validity.{ticket_terms}
use Rattle.tgs_exchange.specs.declared.terms.Admission.{Admission}

-- the client, its authtime and the authorization data are those of the presented ticket
abbrev pub grant_by : TgsView → List ℕ → ReqBody → Presented → Admission → Grant
grant_by v random body p admission = record {
  realm = v.realm;
  client = p.ticket.cname;
  service = admission.terms.service.name;
  session_key = session_key admission.terms.service.session_type random;
  flags = tgs_flags body (ticket_terms p.ticket) admission.terms.service.policy admission.times;
  authtime = p.ticket.authtime;
  times = admission.times;
  authorization_data = p.ticket.authorization_data;
}

-- the key that the client chose, or else the session key of the presented ticket
abbrev pub subkey_or_session_key : Key → Option Key → PartKey
subkey_or_session_key session (Some subkey) = record { key = subkey; usage = TgsRepEncPartSubkey; kvno = None }
subkey_or_session_key session None = record { key = session; usage = TgsRepEncPartSessionKey; kvno = None }

abbrev pub reply_key_of : Presented → PartKey
reply_key_of p = subkey_or_session_key p.session_key p.subkey

abbrev pub tgs_rep : TgsView → Moment → List ℕ → ReqBody → Presented → Admission → KdcRep TGS_REP
tgs_rep v at random body p admission =
    reply_of TGS_REP ENC_TGS_REP_PART (grant_by v random body p admission) admission.terms.service.key
    (reply_key_of p) None body.nonce at.sec random
