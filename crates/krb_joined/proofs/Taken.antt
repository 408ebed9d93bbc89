-- From an issued reply, a client reads the credential of that ticket.
use Rattle.std.proofs.Common.{◌≡◌, inl, inr, ℕ, true, false, List, [], Option, Some, Result, eqb, eq-eqb, refl, sym, ap, subst, ◌∙◌}
use Rattle.std.specs.Option.{unwrap_or}
use Rattle.cred_files.specs.declared.credential.Credential.{Credential}
use Rattle.enctypes.specs.KeyUsage.{usage_number}
use Rattle.enctypes.specs.declared.key.Key.{Key}
use Rattle.enctypes.specs.declared.key_usage.KeyUsage.TheVariants.{AsRepEncPart}
use Rattle.krb_der.specs.Spelling.{IsBytes}
use Rattle.krb_der.specs.StepLaws.{ok_is}
use Rattle.krb_elements.specs.Format.{whole}
use Rattle.krb_elements.specs.Laws.{IsWhole, inside_starts, whole_ok}
use Rattle.krb_elements.specs.Codec.{Codec, in_tag, list_of, octets as octet_string, sequence, string}
use Rattle.krb_fields.specs.EncryptedData.{EncryptedData, encrypted_data}
use Rattle.krb_fields.specs.PaData.{pa_data}
use Rattle.krb_fields.specs.PrincipalName.{name}
use Rattle.krb_types.specs.EncKdcRepPart.{EncKdcRepPart}
use Rattle.krb_types.specs.KdcRep.{KdcRep, kdc_rep, kdc_rep_form}
use Rattle.krb_types.specs.KrbError.{KrbError, krb_error, krb_error_form}
use Rattle.krb_types.specs.declared.kdc_req.Exchange.{Exchange}
use Rattle.krb_types.specs.declared.kdc_req.Exchange.TheVariants.{As, Tgs}
use Rattle.krb_types.specs.Ticket.{ticket}
use Rattle.kdc_replies.specs.Issue.{Issue, IsIssued, IsIssuedOrError, issued_part, issued_reply, part_tag, reply_type}
use Rattle.client_core.specs.Credentials.{credential_of}
use Rattle.client_core.specs.Replies.{opened_as, opened_in, or_else, reads}
use Rattle.client_core.specs.Taken.{IsTaken}
use Rattle.client_core.specs.Faults.{Gives}
use Rattle.client_core.specs.declared.asked.Asked.{Asked}
use Rattle.client_core.specs.declared.fault.ReplyError.{ReplyError}
use Rattle.client_core.specs.declared.key_role.KeyRole.{KeyRole}
use Rattle.client_core.specs.declared.key_role.KeyRole.TheVariants.{Client, Subkey, Session}
use Rattle.krb_joined.specs.Credential.{issued_credential}
use Rattle.krb_joined.specs.Reading.{IsReader, IsTakenBy, exchange_of, reads_reply, usage_of}
use Rattle.krb_joined.specs.declared.reading.Reader.{Reader}

-- ---- bytes of an AS-REP or a TGS-REP are not those of a KRB-ERROR

-- bytes begin with one tag only
one_tag : {A B : Type 0} (a b : ℕ) (c : Codec A) (d : Codec B) (x : A) (y : B) (bytes : List ℕ) → (in_tag (Some a) c).Spells x bytes → (in_tag (Some b) d).Spells y bytes → eqb b a ≡ true
one_tag a b c d x y bytes s t = sym (inside_starts b a d.Spells y bytes [] t) ∙ (inside_starts a a c.Spells x bytes [] s ∙ eq-eqb a a refl)

abbrev error_body : Codec KrbError
error_body = sequence (krb_error_form string name octet_string)

reply_or_error : (exchange : Exchange) (reply : KdcRep (reply_type exchange)) (error : KrbError) (bytes : List ℕ) → (kdc_rep (reply_type exchange)).Spells reply bytes → krb_error.Spells error bytes → ⊥
reply_or_error As reply error bytes s t =
    let e : false ≡ true = one_tag 107 126 (sequence (kdc_rep_form 11 (list_of pa_data) string name ticket encrypted_data)) error_body reply error bytes s t in cc
reply_or_error Tgs reply error bytes s t =
    let e : false ≡ true = one_tag 109 126 (sequence (kdc_rep_form 13 (list_of pa_data) string name ticket encrypted_data)) error_body reply error bytes s t in cc

-- ---- the part, by the key's role

opens_so : (role : KeyRole) (key : Key) (sealed : EncryptedData) (part : EncKdcRepPart) → opened_in (part_tag (exchange_of role)) key (usage_of role) sealed ≡ Some part → opened_as role key sealed ≡ Some part
opens_so Client key sealed part e = ap (λ (o : Option EncKdcRepPart). or_else o (opened_in 26 key (usage_number AsRepEncPart) sealed)) e
opens_so Subkey key sealed part e = e
opens_so Session key sealed part e = e

some_is : {A : Type 0} (x y : A) → Some x ≡ Some y → x ≡ y
some_is x y e = ap (λ o. unwrap_or o x) e

-- what is read in each role
pub read_so : (own : Reader) (asked : Asked) (octets : List ℕ) (r : Result Credential ReplyError) {role : KeyRole} → own.role ≡ role → Gives r (reads (reply_type (exchange_of role)) role asked own.key own.at.sec octets) → Gives r (reads_reply own asked octets)
read_so own asked octets r is gives = subst (λ (x : KeyRole). Gives r (reads (reply_type (exchange_of x)) x asked own.key own.at.sec octets)) (sym is) gives

-- ---- the issued reply

module _ (issue : Issue) (octets : List ℕ) (fits : IsBytes octets) (own : Reader) (asked : Asked) (c : Credential) (reader : IsReader own issue) where
  reading : IsWhole (kdc_rep (reply_type issue.exchange)).Spells (whole (kdc_rep (reply_type issue.exchange)).at)
  reading = whole_ok (kdc_rep (reply_type issue.exchange)).Spells (kdc_rep (reply_type issue.exchange)).at (kdc_rep (reply_type issue.exchange)).laws.element.reading

  opened : IsIssued issue octets → opened_as own.role own.key (issued_reply issue).enc_part ≡ Some (issued_part issue)
  opened is =
      let sealed = (issued_reply issue).enc_part in
      let same : opened_in (part_tag (exchange_of own.role)) own.key (usage_of own.role) sealed ≡ opened_in (part_tag issue.exchange) issue.reply_key.key (usage_number issue.reply_key.usage) sealed =
      (λ i. opened_in (part_tag (reader.exchange i)) (reader.reply_key i) (reader.usage i) sealed) in
      opens_so own.role own.key sealed (issued_part issue) (same ∙ is.client_reads)

  by_reply : IsIssuedOrError issue octets → IsTaken (reply_type issue.exchange) own.role asked own.key own.at.sec octets c → IsIssued issue octets × (c ≡ issued_credential issue)
  by_reply (inl is) taken =
      let reply : taken.reply ≡ issued_reply issue = ok_is taken.reply (issued_reply issue) (sym taken.spelled ∙ reading.again (issued_reply issue) octets is.spelled) in
      let part : taken.part ≡ issued_part issue = some_is taken.part (issued_part issue) (sym taken.opens ∙ (ap (λ (r : KdcRep (reply_type issue.exchange)). opened_as own.role own.key r.enc_part) reply ∙ opened is)) in
      (is, taken.is ∙ (λ i. credential_of (reply_type issue.exchange) (reply i) (part i)))
  by_reply (inr is) taken = absurd (reply_or_error issue.exchange taken.reply is.0 octets (reading.takes octets taken.reply fits taken.spelled) is.1)

  pub credential_taken : IsIssuedOrError issue octets → IsTakenBy own asked octets c → IsIssued issue octets × (c ≡ issued_credential issue)
  credential_taken is taken = by_reply is (subst (λ (x : Exchange). IsTaken (reply_type x) own.role asked own.key own.at.sec octets c) reader.exchange taken)
