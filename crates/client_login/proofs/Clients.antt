-- A first ticket is for the client that asked.
use Rattle.std.proofs.Common.{ℕ, ℤ, List, Result, Ok, Err, subst, sym}
use Rattle.std.specs.Prelude.{IfOk}
use Rattle.std.specs.declared.net.socket_addr.SocketAddr.{SocketAddr}
use Rattle.client_core.specs.Taken.{AreSame}
use Rattle.client_core.specs.declared.asked.Asked.{Asked}
use Rattle.cred_files.specs.declared.credential.Credential.{Credential}
use Rattle.client_login.specs.Logins.{IsFirst}
use Rattle.client_login.specs.declared.faults.TicketError.{TicketError}
use Rattle.client_login.specs.declared.secrets.Secret.{Secret}

pub first_client : (answers : SocketAddr → List ℕ → List ℕ → Type 0) (secret : Secret) (asked : Asked) (now : ℤ)
    (found : Result Credential TicketError)
    → IfOk found (λ credential. IsFirst answers secret asked now credential)
    → IfOk found (λ credential. AreSame credential.client.realm credential.client.name asked.realm asked.client)
first_client answers secret asked now (Ok credential) is =
    let taken = is.replied.says.taken in
    subst (λ (c : Credential). AreSame c.client.realm c.client.name asked.realm asked.client) (sym taken.is) taken.client
first_client answers secret asked now (Err fault) is = tt
