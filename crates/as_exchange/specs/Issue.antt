-- The ticket for an admitted request, and the reply that carries it (RFC 4120, section 3.1.3).
use Rattle.std.specs.Prelude.{pos, ℕ, List, [], ◌∷◌, Some, None}
use Rattle.enctypes.specs.Etype.{number}
use Rattle.enctypes.specs.declared.key_usage.KeyUsage.TheVariants.{AsRepEncPart}
use Rattle.kdc_replies.specs.Grant.{session_key}
use Rattle.kdc_replies.specs.Reply.{reply_of}
use Rattle.kdc_replies.specs.declared.grant.Grant.{Grant}
use Rattle.encrypted_data.specs.declared.encrypting.PartKey.{PartKey}
use Rattle.krb_fields.specs.declared.numbers.TheConstants.{AS_REP, ENC_AS_REP_PART}
use Rattle.krb_fields.specs.PaData.{PaData}
use Rattle.krb_fields.specs.Salt.{default_salt}
use Rattle.krb_fields.specs.declared.moment.Moment.{Moment}
use Rattle.krb_types.specs.KdcRep.{KdcRep}
use Rattle.krb_types.specs.ReqBody.{ReqBody}
use Rattle.preauth.specs.MethodData.{etype_info2}
use Rattle.ticket_times.specs.Flags.{as_flags}
use Rattle.as_exchange.specs.View.{AsView}
use Rattle.as_exchange.specs.Rules.{is_good}
use Rattle.as_exchange.specs.declared.terms.Terms.{Terms}
use Rattle.as_exchange.specs.declared.terms.Admission.{Admission}

abbrev pub grant_by : AsView → Moment → List ℕ → ReqBody → Admission → Grant
grant_by v at random body admission = record {
  realm = v.realm;
  client = admission.terms.client_name;
  service = admission.terms.service.name;
  session_key = session_key admission.terms.service.session_type random;
  flags =
      as_flags body admission.terms.client_policy admission.terms.service.policy
      (is_good admission.timestamp) admission.times;
  authtime = at.sec;
  times = admission.times;
  authorization_data = None;
}

-- the client's key with its key version
abbrev pub reply_key_of : Terms → PartKey
reply_key_of terms = record { key = terms.reply_key; usage = AsRepEncPart; kvno = Some (pos terms.reply_version) }

-- PA-ETYPE-INFO2, which says how to derive the reply key from a password
abbrev pub reply_info : AsView → Terms → PaData
reply_info v terms = etype_info2 (default_salt v.realm terms.client_name.components) (number terms.reply_key.etype ∷ [])

abbrev pub as_rep : AsView → Moment → List ℕ → ReqBody → Admission → KdcRep AS_REP
as_rep v at random body admission =
    reply_of AS_REP ENC_AS_REP_PART (grant_by v at random body admission) admission.terms.service.key
    (reply_key_of admission.terms) (Some (reply_info v admission.terms ∷ []))
    body.nonce at.sec random
