-- The credential of an issued ticket yields that ticket and its session key.
use Rattle.std.proofs.Common.{◌≡◌, inl, ℕ, ℤ, pos, List, length, Some, Result, Ok, Err, refl, ap, ◌∙◌}
use Rattle.std.specs.Prelude.{IfOk}
use Rattle.cred_files.specs.declared.credential.Credential.{Credential}
use Rattle.enctypes.specs.Etype.{key_len, number}
use Rattle.enctypes.specs.declared.etype.Etype.{Etype}
use Rattle.enctypes.specs.declared.etype.Etype.TheVariants.{Aes128CtsHmacSha1_96, Aes256CtsHmacSha1_96}
use Rattle.enctypes.specs.declared.etype.Etype.TheVariants.{Aes128CtsHmacSha256_128, Aes256CtsHmacSha384_192}
use Rattle.enctypes.specs.declared.key.Key.{Key}
use Rattle.krb_der.specs.Spelling.{IsBytes}
use Rattle.krb_types.specs.ReplyTicketLaws.{ticket_again}
use Rattle.encrypted_data.specs.KeyLaws.{key_again}
use Rattle.encrypted_data.specs.Keys.{key_of}
use Rattle.encrypted_data.specs.Parts.{ok_of}
use Rattle.kdc_replies.specs.Issue.{Issue, IsIssued, issued_reply, reply_type}
use Rattle.client_core.specs.Credentials.{in_16_bits}
use Rattle.client_core.specs.Sessions.{session, session_key, session_by}
use Rattle.client_core.specs.declared.asked.Asked.{Asked}
use Rattle.client_core.specs.declared.fault.ReplyError.{ReplyError}
use Rattle.krb_joined.specs.Credential.{IsCredentialOf, issued_credential}
use Rattle.krb_joined.specs.Reading.{IsReader, IsTakenBy}
use Rattle.krb_joined.specs.declared.reading.Reader.{Reader}
use Rattle.krb_joined.proofs.Taken.{credential_taken}

-- an encryption type's number has 16 bits
same_number : (etype : Etype) → pos (in_16_bits (number etype)) ≡ number etype
same_number Aes128CtsHmacSha1_96 = refl
same_number Aes256CtsHmacSha1_96 = refl
same_number Aes128CtsHmacSha256_128 = refl
same_number Aes256CtsHmacSha384_192 = refl

key_kept : (key : Key) → length key.bytes ≡ key_len key.etype → key_of (pos (in_16_bits (number key.etype))) key.bytes ≡ Some key
key_kept key size = ap (λ (n : ℤ). key_of n key.bytes) (same_number key.etype) ∙ key_again key size

pub credential_is : (issue : Issue) (octets : List ℕ) (credential : Credential) → IsBytes octets → IsIssued issue octets → credential ≡ issued_credential issue → IsCredentialOf issue credential
credential_is issue octets credential fits is same =
    let ticket = ticket_again (reply_type issue.exchange) (issued_reply issue) octets fits is.spelled in
    let key = key_kept issue.grant.session_key is.session_key in
    record {
      is = same;
      session = ap session same ∙ (λ i. session_by (ok_of (ticket i)) (key i));
      key = ap session_key same ∙ key;
      size = is.session_key;
      service_reads = is.service_reads;
    }

-- what a client with the key reads from an issued reply, whenever it was issued
pub credential_if_issued : (issue : Issue) (octets : List ℕ) → IsBytes octets → IsIssued issue octets → (own : Reader) (asked : Asked) → IsReader own issue → (r : Result Credential ReplyError) → IfOk r (IsTakenBy own asked octets) → IfOk r (IsCredentialOf issue)
credential_if_issued issue octets fits is own asked reader (Ok c) taken = credential_is issue octets c fits is (credential_taken issue octets fits own asked c reader (inl is) taken).1
credential_if_issued issue octets fits is own asked reader (Err fault) taken = tt
