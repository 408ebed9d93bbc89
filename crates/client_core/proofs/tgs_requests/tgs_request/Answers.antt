use Rattle.std.proofs.Common.{◌≡◌, ℕ, List, None, Some}
use Rattle.enctypes.specs.KeyUsage.{usage_number}
use Rattle.enctypes.specs.declared.key_usage.KeyUsage.TheVariants.{TgsReqAuthenticator}
use Rattle.krb_elements.specs.Codec.{written}
use Rattle.krb_types.specs.Authenticator as parts
use Rattle.krb_types.specs.KdcReq.{KdcReq, SpellsKdcReq, message}
use Rattle.krb_types.specs.declared.kdc_req.Exchange.TheVariants.{Tgs}
use Rattle.krb_types.specs.ReqBody.{ReqBody}
use Rattle.encrypted_data.specs.Encrypted.{decrypted}
use Rattle.client_core.specs.Requests.{body_of, tgs_authenticator, tgs_presents}
use Rattle.client_core.specs.Sessions.{session}
use Rattle.client_core.specs.declared.sessions.Session.{Session}
use Rattle.client_core.proofs.Results.{with_equal}
use Rattle.client_core.proofs.Written.{tgs_written}
use Rattle.client_core.proofs.tgs_requests.tgs_request.Goals as goal

pub returns-clause-written : goal.returns-clause-written
returns-clause-written c =
    tgs_written (λ (r : KdcReq) (octets : List ℕ). octets ≡ written (message Tgs) r) (λ v. v.items) c.tgs_req.result (session c.args.credential.now)
    c.args.asked.now c.args.credential.now.client c.args.at c.args.subkey c.args.confounder.now c.in_ok-body.body c.in_ok-entry.entry
    c.in_ok-entry.ensures.value c.in_ok-body.ensures.value c.tgs_req.ensures.written

pub returns-clause-spelled : goal.returns-clause-spelled
returns-clause-spelled c =
    tgs_written (λ (r : KdcReq) (octets : List ℕ). SpellsKdcReq (Tgs, r) octets) (λ v. v.items) c.tgs_req.result (session c.args.credential.now)
    c.args.asked.now c.args.credential.now.client c.args.at c.args.subkey c.args.confounder.now c.in_ok-body.body c.in_ok-entry.entry
    c.in_ok-entry.ensures.value c.in_ok-body.ensures.value c.tgs_req.ensures.spelled

pub returns-clause-opens : goal.returns-clause-opens
returns-clause-opens c =
    with_equal
    (λ (s : Session) (b : ReqBody). decrypted parts.authenticator s.key (usage_number TgsReqAuthenticator) (tgs_presents c.args.credential.now.client s c.args.at c.args.subkey c.args.confounder.now b).authenticator ≡ Some (tgs_authenticator c.args.credential.now.client s c.args.at c.args.subkey b))
    c.tgs_req.result (session c.args.credential.now) c.in_ok-body.body (body_of None c.args.asked.now) c.in_ok-body.ensures.value c.in_ok-entry.ensures.opens
