-- A ticket that a keytab decrypts to a credential's client and session key is that credential's; and a login that is
-- verified by one.
use Rattle.std.proofs.Common.{◌≡◌, ℕ, ℤ, pos, Bool, true, false, List, Option, Some, None, Result, Ok, Err, refl, sym, subst}
use Rattle.std.specs.Prelude.{◌&&◌, IfErr, IfOk, if◌then◌else◌, nat_eq}
use Rattle.std.specs.Cmp.Lexicographic.{pointwise, bytes_decides}
use Rattle.std.specs.Ordering.{int_eq, eq_by_cmp}
use Rattle.std.specs.declared.net.socket_addr.SocketAddr.{SocketAddr}
use Rattle.std.proofs.lemmas.Bool.Decides.{Decides-int_eq}
use Rattle.ap_req.specs.Keytab.{ticket_key}
use Rattle.client_core.specs.Replies.{is_principal}
use Rattle.client_core.specs.Sessions.{ticket_in}
use Rattle.client_core.specs.Taken.{AreSame}
use Rattle.client_core.specs.declared.asked.Asked.{Asked}
use Rattle.cred_files.specs.declared.credential.Credential.{Credential}
use Rattle.cred_files.specs.declared.keytab_entry.KeytabEntry.{KeytabEntry}
use Rattle.enctypes.specs.declared.key.Key.{Key}
use Rattle.krb_fields.specs.Name.{name_cmp, same_name}
use Rattle.krb_types.specs.Ticket.{Ticket}
use Rattle.krb_types.specs.EncTicketPart.{EncTicketPart}
use Rattle.rule_lists.specs.Refusals.{unless_found}
use Rattle.client_login.specs.Faults.{IsFurtherFault}
use Rattle.client_login.specs.Logins.{IsFurther}
use Rattle.client_login.specs.Verifying.{IsDoubted, IsTicketOf, IsUnverified, IsValidAt, if_of, if_valid, is_of}
use Rattle.client_login.specs.Verifying.{is_session_key, is_valid, opened, part_by, part_in, part_under, verified}
use Rattle.client_login.specs.declared.faults.LoginError.{LoginError}
use Rattle.client_login.specs.declared.faults.LoginError.TheVariants as says

-- ---- what a keytab decrypts

both : (a b : Bool) → (a && b) ≡ true → (a ≡ true) × (b ≡ true)
both true b e = (refl, e)
both false b e = absurd cc

module _ (keytab : List KeytabEntry) (credential : Credential) (part : EncTicketPart) where
  is_ticket : (ticket : Ticket) (key : Key) (found : EncTicketPart) → ticket_in credential.ticket ≡ Some ticket
      → ticket_key keytab ticket ≡ Some key → part_under key ticket ≡ Some found → is_of credential found ≡ true
      → IsTicketOf keytab credential
  is_ticket ticket key found spelled named opens is =
      let client = credential.client in
      let ours = is_principal found.crealm found.cname client.realm client.name in
      let parts = both ours (is_session_key credential.key found.key) is in
      let named_so = eq_by_cmp name_cmp found.cname.components client.name.components in
      let who = both (pointwise nat_eq found.crealm client.realm) named_so parts.0 in
      let typed = int_eq found.key.number (pos credential.key.key_type) in
      let shared = both typed (pointwise nat_eq found.key.octets credential.key.octets) parts.1 in
      record {
        ticket = ticket;
        key = key;
        part = found;
        spelled = spelled;
        named = named;
        opens = opens;
        client = record {
          realms = (bytes_decides found.crealm client.realm).0 who.0;
          names = same_name found.cname.components client.name.components who.1;
        };
        key_type = (Decides-int_eq found.key.number (pos credential.key.key_type)).0 shared.0;
        key_octets = (bytes_decides found.key.octets credential.key.octets).0 shared.1;
      }

  by_of : (ticket : Ticket) (key : Key) (found : EncTicketPart) (b : Bool) → ticket_in credential.ticket ≡ Some ticket
      → ticket_key keytab ticket ≡ Some key → part_under key ticket ≡ Some found → is_of credential found ≡ b
      → (if b then Ok found else Err says.OtherTicket) ≡ Ok part → IsTicketOf keytab credential
  by_of ticket key found true spelled named opens is e = is_ticket ticket key found spelled named opens is
  by_of ticket key found false spelled named opens is e = absurd cc

  by_part : (ticket : Ticket) (key : Key) (o : Option EncTicketPart) → ticket_in credential.ticket ≡ Some ticket
      → ticket_key keytab ticket ≡ Some key → part_under key ticket ≡ o
      → if_of credential (unless_found o says.TicketNotOpened) ≡ Ok part → IsTicketOf keytab credential
  by_part ticket key (Some found) spelled named opens e =
      by_of ticket key found (is_of credential found) spelled named opens refl e
  by_part ticket key None spelled named opens e = absurd cc

  by_key : (ticket : Ticket) (o : Option Key) → ticket_in credential.ticket ≡ Some ticket → ticket_key keytab ticket ≡ o
      → if_of credential (part_by o ticket) ≡ Ok part → IsTicketOf keytab credential
  by_key ticket (Some key) spelled named e = by_part ticket key (part_under key ticket) spelled named refl e
  by_key ticket None spelled named e = absurd cc

  by_ticket : (o : Option Ticket) → ticket_in credential.ticket ≡ o → if_of credential (part_in keytab o) ≡ Ok part
      → IsTicketOf keytab credential
  by_ticket (Some ticket) spelled e = by_key ticket (ticket_key keytab ticket) spelled refl e
  by_ticket None spelled e = absurd cc

  pub opened_is : opened keytab credential ≡ Ok part → IsTicketOf keytab credential
  opened_is e = by_ticket (ticket_in credential.ticket) refl e

-- the same for what a call returned
pub opened_if : (keytab : List KeytabEntry) (credential : Credential) (found : Result EncTicketPart LoginError)
    → found ≡ opened keytab credential → IfOk found (λ part. IsTicketOf keytab credential)
opened_if keytab credential (Ok part) e = opened_is keytab credential part (sym e)
opened_if keytab credential (Err doubt) e = tt

-- ---- at a moment

module _ (keytab : List KeytabEntry) (credential : Credential) (now : ℤ) (part : EncTicketPart) where
  by_valid : (found : EncTicketPart) (b : Bool) → opened keytab credential ≡ Ok found → is_valid now found ≡ b
      → (if b then Ok found else Err says.TicketNotValid) ≡ Ok part → IsValidAt now keytab credential
  by_valid found true opens is e = record { part = found; opens = opens; valid = is }
  by_valid found false opens is e = absurd cc

  by_opened : (r : Result EncTicketPart LoginError) → opened keytab credential ≡ r → if_valid now r ≡ Ok part
      → IsValidAt now keytab credential
  by_opened (Ok found) opens e = by_valid found (is_valid now found) opens refl e
  by_opened (Err doubt) opens e = absurd cc

  pub valid_at : Ok part ≡ verified keytab now credential → IsValidAt now keytab credential
  valid_at e = by_opened (opened keytab credential) refl (sym e)

  pub ticket_of : Ok part ≡ verified keytab now credential → IsTicketOf keytab credential
  ticket_of e = let is = valid_at e in opened_is keytab credential is.part is.opens

-- ---- why it is doubted

-- for one of four reasons
abbrev IsDoubt : LoginError → Type 0
IsDoubt says.NoServiceKey = Unit {0}
IsDoubt says.TicketNotOpened = Unit {0}
IsDoubt says.OtherTicket = Unit {0}
IsDoubt says.TicketNotValid = Unit {0}
IsDoubt why = ⊥

part_doubts : (o : Option EncTicketPart) → IfErr (unless_found o says.TicketNotOpened) IsDoubt
part_doubts (Some part) = tt
part_doubts None = tt

by_key_doubts : (ticket : Ticket) (o : Option Key) → IfErr (part_by o ticket) IsDoubt
by_key_doubts ticket (Some key) = part_doubts (part_under key ticket)
by_key_doubts ticket None = tt

in_doubts : (keytab : List KeytabEntry) (o : Option Ticket) → IfErr (part_in keytab o) IsDoubt
in_doubts keytab (Some ticket) = by_key_doubts ticket (ticket_key keytab ticket)
in_doubts keytab None = tt

of_doubts : (credential : Credential) (r : Result EncTicketPart LoginError) → IfErr r IsDoubt
    → IfErr (if_of credential r) IsDoubt
of_doubts credential (Err why) is = is
of_doubts credential (Ok part) is = by_of (is_of credential part)
  where
    by_of : (b : Bool) → IfErr (if b then Ok part else Err says.OtherTicket) IsDoubt
    by_of true = tt
    by_of false = tt

valid_doubts : (now : ℤ) (r : Result EncTicketPart LoginError) → IfErr r IsDoubt → IfErr (if_valid now r) IsDoubt
valid_doubts now (Err why) is = is
valid_doubts now (Ok part) is = by_valid (is_valid now part)
  where
    by_valid : (b : Bool) → IfErr (if b then Ok part else Err says.TicketNotValid) IsDoubt
    by_valid true = tt
    by_valid false = tt

verified_doubts : (keytab : List KeytabEntry) (now : ℤ) (credential : Credential) (why : LoginError)
    → Err why ≡ verified keytab now credential → IsDoubt why
verified_doubts keytab now credential why e =
    subst (λ (r : Result EncTicketPart LoginError). IfErr r IsDoubt) (sym e)
    (valid_doubts now (opened keytab credential)
    (of_doubts credential (part_in keytab (ticket_in credential.ticket)) (in_doubts keytab (ticket_in credential.ticket))))

-- ---- a login

module _ (answers : SocketAddr → List ℕ → List ℕ → Type 0) where
  -- a further ticket is for the client that was asked for
  pub further_client : (granting : Credential) (asked : Asked) (now : ℤ) (credential : Credential)
      → IsFurther answers granting asked now credential
      → AreSame credential.client.realm credential.client.name asked.realm asked.client
  further_client granting asked now credential is =
      let taken = is.replied.says.taken in
      subst (λ (c : Credential). AreSame c.client.realm c.client.name asked.realm asked.client) (sym taken.is) taken.client

  unverified : (keytab : List KeytabEntry) (granting : Credential) (asked : Asked) (now : ℤ) (why : LoginError)
      → IsDoubt why → IsDoubted answers keytab granting asked now why
      → IsUnverified answers keytab granting asked now why None
  unverified keytab granting asked now says.NoServiceKey doubt is = (refl, is)
  unverified keytab granting asked now says.TicketNotOpened doubt is = (refl, is)
  unverified keytab granting asked now says.OtherTicket doubt is = (refl, is)
  unverified keytab granting asked now says.TicketNotValid doubt is = (refl, is)
  unverified keytab granting asked now says.NotAskable doubt is = absurd doubt
  unverified keytab granting asked now says.NotPresentable doubt is = absurd doubt
  unverified keytab granting asked now says.NoClientKey doubt is = absurd doubt
  unverified keytab granting asked now says.NoKey doubt is = absurd doubt
  unverified keytab granting asked now (says.Silence error) doubt is = absurd doubt
  unverified keytab granting asked now (says.Refused error) doubt is = absurd doubt
  unverified keytab granting asked now says.NotAReply doubt is = absurd doubt
  unverified keytab granting asked now (says.Mismatch what) doubt is = absurd doubt
  unverified keytab granting asked now says.CannotOpen doubt is = absurd doubt
  unverified keytab granting asked now says.SessionCannotOpen doubt is = absurd doubt
  unverified keytab granting asked now says.NoKnownType doubt is = absurd doubt
  unverified keytab granting asked now says.CountTooLarge doubt is = absurd doubt
  unverified keytab granting asked now says.WeakCount doubt is = absurd doubt
  unverified keytab granting asked now says.Memory doubt is = absurd doubt

  pub doubted : (keytab : List KeytabEntry) (granting : Credential) (asked : Asked) (now : ℤ) (credential : Credential)
      (why : LoginError) → IsFurther answers granting asked now credential
      → Err why ≡ verified keytab now credential → IsUnverified answers keytab granting asked now why None
  doubted keytab granting asked now credential why came e =
      unverified keytab granting asked now why (verified_doubts keytab now credential why e)
      (record { credential = credential; came = came; doubted = sym e })

  -- no ticket came
  pub not_come : (keytab : List KeytabEntry) (granting : Credential) (asked : Asked) (now : ℤ) (why : LoginError)
      (kdc : Option SocketAddr) → IsFurtherFault answers granting asked now why kdc
      → IsUnverified answers keytab granting asked now why kdc
  not_come keytab granting asked now says.NotAskable kdc is = is
  not_come keytab granting asked now says.NotPresentable kdc is = is
  not_come keytab granting asked now says.NoClientKey kdc is = is
  not_come keytab granting asked now says.NoKey kdc is = is
  not_come keytab granting asked now (says.Silence error) kdc is = is
  not_come keytab granting asked now (says.Refused error) kdc is = is
  not_come keytab granting asked now says.NotAReply kdc is = is
  not_come keytab granting asked now (says.Mismatch what) kdc is = is
  not_come keytab granting asked now says.CannotOpen kdc is = is
  not_come keytab granting asked now says.SessionCannotOpen kdc is = is
  not_come keytab granting asked now says.NoKnownType kdc is = is
  not_come keytab granting asked now says.CountTooLarge kdc is = is
  not_come keytab granting asked now says.WeakCount kdc is = is
  not_come keytab granting asked now says.Memory kdc is = is
  not_come keytab granting asked now says.NoServiceKey (Some kdc) is = absurd is.says.says
  not_come keytab granting asked now says.TicketNotOpened (Some kdc) is = absurd is.says.says
  not_come keytab granting asked now says.OtherTicket (Some kdc) is = absurd is.says.says
  not_come keytab granting asked now says.TicketNotValid (Some kdc) is = absurd is.says.says
  not_come keytab granting asked now says.NoServiceKey None is = absurd is
  not_come keytab granting asked now says.TicketNotOpened None is = absurd is
  not_come keytab granting asked now says.OtherTicket None is = absurd is
  not_come keytab granting asked now says.TicketNotValid None is = absurd is

-- what a login that is verified by a ticket needs to know
pub ruleset verified_login = (valid_at, ticket_of, further_client, doubted, not_come)
