-- What a call gives, from what its login gives: of the state before the call, whose fields were read.
use Rattle.std.proofs.Common.{◌≡◌, ℕ, ℤ, List, Option, Some, subst}
use Rattle.std.specs.declared.net.socket_addr.SocketAddr.{SocketAddr}
use Rattle.client_files.specs.Clocks.{IsShown}
use Rattle.client_login.specs.Asking.{further_asked}
use Rattle.client_login.specs.Draws.{drawn_nonce}
use Rattle.client_login.specs.Logins.{IsFurther}
use Rattle.client_login.specs.Replies.{IsExchanged}
use Rattle.client_login.specs.declared.kdc_places.KdcPlace.{KdcPlace}
use Rattle.client_sockets.specs.Clients.{ClientState, IsGranted, IsGrantedFor, IsGrantedIn, IsServiceIn, bytes_from}
use Rattle.cred_files.specs.declared.credential.Credential.{Credential}
use Rattle.cred_files.specs.declared.keytab_entry.KeytabEntry.{KeytabEntry}
use Rattle.krb_fields.specs.NameText.{IsNameText}
use Rattle.krb_fields.specs.PrincipalName.{Name}
use Rattle.krb_fields.specs.declared.moment.Moment.{Moment}
use Rattle.file_store.specs.World.{World}

module _ {S : Type 0} (world : S → Option World) (finds : List ℕ → ℕ → SocketAddr → Type 0) (carries : List ℕ → Type 0)
    (answers : SocketAddr → List ℕ → List ℕ → Type 0) (state client : ClientState S) (view : state ≡ client)
    (at : Moment) (tgt ticket : Credential) (service : Name) (places : List KdcPlace) (sec : ℤ) where
  granted : IsShown (world state.store) at → state.tgt ≡ Some tgt → places ≡ state.places → sec ≡ at.sec
      → IsFurther (IsExchanged finds places carries answers) tgt
      (further_asked 0 tgt.client service (drawn_nonce (bytes_from state.generator))) sec ticket
      → IsGranted (IsExchanged finds client.places carries answers) (world client.store) client service ticket
  granted shown has there then further =
      subst (λ (c : ClientState S). IsGranted (IsExchanged finds c.places carries answers) (world c.store) c service ticket) view (record {
        at = at;
        shown = shown;
        tgt = tgt;
        has = has;
        further = subst (λ (p : List KdcPlace). IsFurther (IsExchanged finds p carries answers) tgt
            (further_asked 0 tgt.client service (drawn_nonce (bytes_from state.generator))) at.sec ticket) there
            (subst (λ (n : ℤ). IsFurther (IsExchanged finds places carries answers) tgt
            (further_asked 0 tgt.client service (drawn_nonce (bytes_from state.generator))) n ticket) then further);
      })

  pub granted_for : (words : List ℕ) → IsShown (world state.store) at → state.tgt ≡ Some tgt → places ≡ state.places
      → sec ≡ at.sec → IsFurther (IsExchanged finds places carries answers) tgt
      (further_asked 0 tgt.client service (drawn_nonce (bytes_from state.generator))) sec ticket
      → IsNameText service.components words
      → IsGrantedFor (IsExchanged finds client.places carries answers) (world client.store) client words ticket
  granted_for words shown has there then further spelled =
      record { service = service; spelled = spelled; granted = granted shown has there then further }

  pub granted_in : (keytab : List KeytabEntry) → IsShown (world state.store) at → state.tgt ≡ Some tgt
      → places ≡ state.places → sec ≡ at.sec → IsFurther (IsExchanged finds places carries answers) tgt
      (further_asked 0 tgt.client service (drawn_nonce (bytes_from state.generator))) sec ticket
      → IsServiceIn keytab state.principal service
      → IsGrantedIn (IsExchanged finds client.places carries answers) (world client.store) client keytab ticket
  granted_in keytab shown has there then further listed = record {
    service = service;
    listed = subst (λ (c : ClientState S). IsServiceIn keytab c.principal service) view listed;
    granted = granted shown has there then further;
  }
