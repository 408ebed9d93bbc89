-- How a client reads the reply to its request: by the exchange and by its key.
use Rattle.std.specs.Prelude.{◌≡◌, ℕ, List, Result}
use Rattle.cred_files.specs.declared.credential.Credential.{Credential}
use Rattle.enctypes.specs.KeyUsage.{usage_number}
use Rattle.enctypes.specs.declared.key_usage.KeyUsage.TheVariants.{AsRepEncPart, TgsRepEncPartSubkey}
use Rattle.enctypes.specs.declared.key_usage.KeyUsage.TheVariants.{TgsRepEncPartSessionKey}
use Rattle.krb_types.specs.declared.kdc_req.Exchange.{Exchange}
use Rattle.krb_types.specs.declared.kdc_req.Exchange.TheVariants.{As, Tgs}
use Rattle.kdc_replies.specs.Issue.{Issue, reply_type}
use Rattle.client_core.specs.Replies.{reads}
use Rattle.client_core.specs.Taken.{IsTaken}
use Rattle.client_core.specs.declared.asked.Asked.{Asked}
use Rattle.client_core.specs.declared.fault.ReplyError.{ReplyError}
use Rattle.client_core.specs.declared.key_role.KeyRole.{KeyRole}
use Rattle.client_core.specs.declared.key_role.KeyRole.TheVariants.{Client, Subkey, Session}
use Rattle.krb_joined.specs.declared.reading.Reader.{Reader}

abbrev pub exchange_of : KeyRole → Exchange
exchange_of Client = As
exchange_of Subkey = Tgs
exchange_of Session = Tgs

abbrev pub usage_of : KeyRole → ℕ
usage_of Client = usage_number AsRepEncPart
usage_of Subkey = usage_number TgsRepEncPartSubkey
usage_of Session = usage_number TgsRepEncPartSessionKey

-- the client reads the reply by its exchange, with the reply key and its usage
pub record IsReader (reader : Reader) (issue : Issue) : Type 0 where
  pub exchange : exchange_of reader.role ≡ issue.exchange
  pub reply_key : reader.key ≡ issue.reply_key.key
  pub usage : usage_of reader.role ≡ usage_number issue.reply_key.usage

-- the result of the client's rules for the bytes of a reply: a credential or the first error
abbrev pub reads_reply : Reader → Asked → List ℕ → Result Credential ReplyError
reads_reply reader asked octets =
    reads (reply_type (exchange_of reader.role)) reader.role asked reader.key reader.at.sec octets

-- the bytes are a reply to the request and hold this credential
abbrev pub IsTakenBy : Reader → Asked → List ℕ → Credential → Type 0
IsTakenBy reader asked octets credential =
    IsTaken (reply_type (exchange_of reader.role)) reader.role asked reader.key reader.at.sec octets credential
