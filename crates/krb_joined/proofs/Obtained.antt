-- A client reads the credential of the issued ticket from the reply to its request.
use Rattle.std.proofs.Common.{◌≡◌, ◌≤◌, ℕ, List, length, Option, Some, None, Ok, refl, subst, ◌∙◌}
use Rattle.std.specs.Prelude.{IfSome}
use Rattle.cred_files.specs.declared.credential.Credential.{Credential}
use Rattle.krb_der.specs.Spelling.{IsBytes}
use Rattle.krb_fields.specs.declared.moment.Moment.{Moment}
use Rattle.kdc_core.specs.Answer.{OneTicketTwoKeys, contents_answer}
use Rattle.kdc_core.specs.Contents.{contents}
use Rattle.kdc_core.specs.Issued.{issued, contents_issue}
use Rattle.kdc_core.specs.IssuedLaws.{reply_is_issued}
use Rattle.kdc_core.specs.Request.{Request}
use Rattle.kdc_core.specs.View.{View}
use Rattle.kdc_core.specs.Held.{Contents}
use Rattle.kdc_core.specs.Held.Contents.{NoRequest, AsReq, RefusedTgsReq, TgsReq}
use Rattle.kdc_replies.specs.Incoming.{Incoming}
use Rattle.kdc_replies.specs.Issue.{Issue}
use Rattle.client_core.specs.declared.asked.Asked.{Asked}
use Rattle.krb_joined.specs.Credential.{IsCredentialOf}
use Rattle.krb_joined.specs.Joined.{IsRead}
use Rattle.krb_joined.specs.Reading.{IsReader, IsTakenBy, reads_reply}
use Rattle.krb_joined.specs.declared.reading.Reader.{Reader}
use Rattle.krb_joined.proofs.Sessions.{credential_is}
use Rattle.krb_joined.proofs.Taken.{credential_taken}

module _ (v : View) (at : Moment) (random : List ℕ) where
  -- ---- without a reply, nothing was issued

  replied : (incoming : Incoming) (held : Contents) → (contents_answer v incoming held).reply ≡ None → contents_issue v at random held ≡ None
  replied incoming NoRequest none = refl
  replied incoming (AsReq message) none = absurd cc
  replied incoming (RefusedTgsReq message rejected) none = refl
  replied incoming (TgsReq message p) none = absurd cc

  pub none_issued : (room : ℕ) (bytes : List ℕ) (request : Option Request)
      → (contents_answer v (record { at = at; random = random; room = room; octets = bytes }) (contents v request)).reply ≡ None → issued v at random request ≡ None
  none_issued room bytes request none = replied (record { at = at; random = random; room = room; octets = bytes }) (contents v request) none

  -- ---- a reply

  module _ (octets : List ℕ) (request : Option Request) (long : 32 ≤ length random) (fits : IsBytes octets) (keys : OneTicketTwoKeys v at random request (Some octets)) where
    pub obtained : (own : Reader) (asked : Asked) (c : Credential) → IsTakenBy own asked octets c → IfSome (issued v at random request) (λ issue. IsReader own issue → IsCredentialOf issue c)
    obtained own asked c taken = by_issue (issued v at random request) refl
      where
        by_issue : (o : Option Issue) → issued v at random request ≡ o → IfSome o (λ issue. IsReader own issue → IsCredentialOf issue c)
        by_issue (Some issue) e = λ reader.
            let t = credential_taken issue octets fits own asked c reader (reply_is_issued v at random octets long issue request keys e) taken in
            credential_is issue octets c fits t.0 t.1
        by_issue None e = tt

-- the client reads the KDC's reply
pub taken_reply : (own : Reader) (asked : Asked) (octets : List ℕ) (reply : Option (List ℕ)) (c : Credential) → Some octets ≡ reply → reads_reply own asked octets ≡ Ok c → IsRead reply asked own c
taken_reply own asked octets reply c same read = subst (λ (o : Option (List ℕ)). IsRead o asked own c) same read

pub same_octets : (octets items : List ℕ) (reply : Option (List ℕ)) → reply ≡ Some octets → Some items ≡ reply → octets ≡ items
same_octets octets items reply sent given = let k : Some items ≡ Some octets = given ∙ sent in cc
