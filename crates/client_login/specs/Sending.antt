-- Requests that prove at a moment who the client is.
use Rattle.std.specs.Prelude.{◌≡◌, ℕ, List, IfSome}
use Rattle.client_core.specs.Asked.{IsAskable}
use Rattle.client_core.specs.Sessions.{IsPresentable, session}
use Rattle.krb_fields.specs.declared.moment.Moment.{Moment}
use Rattle.rand_core.specs.Stream.{Stream}
use Rattle.client_login.specs.Draws.{after_confounder, drawn_confounder}
use Rattle.client_login.specs.Logins.{presented_request, stamped_request}
use Rattle.client_login.specs.Moments.{IsNext}
use Rattle.client_login.specs.declared.sending.ProvingRequest.{ProvingRequest}
use Rattle.client_login.specs.declared.sending.ProvingRequest.TheVariants.{Stamped, Presented}

abbrev pub IsWritable : ProvingRequest → Type 0
IsWritable (Stamped asked key) = IsAskable asked.now
IsWritable (Presented asked granting) = IsAskable asked.now × IsPresentable granting.now

-- the bytes of a request, with a moment and a confounder
abbrev pub Spells : ProvingRequest → Moment → List ℕ → List ℕ → Type 0
Spells (Stamped asked key) = λ at confounder octets. octets ≡ stamped_request asked.now key.now at confounder
Spells (Presented asked granting) = λ at confounder octets.
    IfSome (session granting.now) (λ held. octets ≡ presented_request granting.now asked.now held at confounder)

-- a network takes these bytes: at the moment, and after a replay error a microsecond later
pub record CarriesProof (carries : List ℕ → Type 0) (Says : Moment → List ℕ → List ℕ → Type 0) (at : Moment)
    (random : Stream) : Type 0 where
  pub once : (octets : List ℕ) → Says at (drawn_confounder random) octets → carries octets
  pub again : (next : Moment) (octets : List ℕ) → IsNext at next
      → Says next (drawn_confounder (after_confounder random)) octets → carries octets
