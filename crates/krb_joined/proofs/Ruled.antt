-- The result for a credential is what the service's rules prescribe for the AP-REQ that its client makes.
use Rattle.std.proofs.Common.{◌≡◌, ℕ, Bool, true, false, ◌&&◌, List, Option, Some, None, is_some, Result, Ok, Err, refl, sym, ap, subst, ◌∙◌}
use Rattle.std.specs.Prelude.{IfSome, option_map}
use Rattle.cred_files.specs.declared.credential.Credential.{Credential}
use Rattle.enctypes.specs.declared.key.Key.{Key}
use Rattle.krb_types.specs.ApReq.{ap_req}
use Rattle.krb_elements.specs.Codec.{written}
use Rattle.krb_types.specs.Ticket.{Ticket}
use Rattle.client_core.specs.ServiceRequests.{asks_ap}
use Rattle.client_core.specs.Sessions.{is_presentable, session, session_by, session_key, ticket_in}
use Rattle.client_core.specs.declared.service_asked.ServiceAsked.{ServiceAsked}
use Rattle.client_core.specs.declared.sessions.Session.{Session}
use Rattle.ap_accept.specs.Accepts.{Answer, IsAfter, IsAnswer, accepts}
use Rattle.ap_accept.specs.declared.accepted.Accepted.{Accepted}
use Rattle.ap_accept.specs.declared.fault.ApFault.{ApFault}
use Rattle.ap_accept.specs.declared.state.State.{State}
use Rattle.krb_joined.specs.Joined.{IsHeard, IsRefused, IsRefusedAfter, IsRuled, IsServed, IsUnheardBy, ruled}
use Rattle.krb_joined.specs.declared.path_end.PathEnd.{PathEnd}
use Rattle.krb_joined.specs.declared.path_end.PathEnd.TheVariants.{NoReply, NotTaken, NotPresentable, NotAccepted, NotAnswered, Memory}
use Rattle.krb_joined.specs.declared.presenting.Sealing.{Sealing}

-- a credential that can be presented yields a session
some_session : (t : Option Ticket) (k : Option Key) (a b c : Bool) → (is_some k && is_some t && a && b && c) ≡ true → is_some (session_by t k) ≡ true
some_session (Some t) (Some key) a b c e = refl
some_session (Some t) None a b c e = absurd (let k : false ≡ true = e in cc)
some_session None (Some key) a b c e = absurd (let k : false ≡ true = e in cc)
some_session None None a b c e = absurd (let k : false ≡ true = e in cc)

has_session : (credential : Credential) → is_presentable credential ≡ true → is_some (session credential) ≡ true
has_session credential e = some_session (ticket_in credential.ticket) (session_key credential) _ _ _ e

module _ (state : State) (wanted : ServiceAsked) (presenting accepting : Sealing) (octets made : List ℕ) (same : octets ≡ made) (credential : Credential) where
  abbrev pub ruling : Answer
  ruling = accepts state accepting.at accepting.confounder octets

  abbrev of_session : Session → List ℕ
  of_session s = written ap_req (asks_ap credential.client s presenting.at wanted presenting.confounder)

  by_session : (o : Option Session) → is_some o ≡ true → IfSome o (λ s. made ≡ of_session s) → option_map (λ s. accepts state accepting.at accepting.confounder (of_session s)) o ≡ Some ruling
  by_session (Some s) some is = ap (λ (l : List ℕ). Some (accepts state accepting.at accepting.confounder l)) (sym (same ∙ is))
  by_session None some is = absurd (let k : false ≡ true = some in cc)

  -- the ruling for these bytes is the ruling for the AP-REQ
  is_ruled : is_presentable credential ≡ true → IfSome (session credential) (λ s. made ≡ of_session s) → ruled state wanted presenting accepting (Some credential) ≡ Some ruling
  is_ruled may is = by_session (session credential) (has_session credential may) is

  module _ (may : is_presentable credential ≡ true) (is : IfSome (session credential) (λ s. made ≡ of_session s)) where
    -- ---- refused

    pub refused_as : (key : Option Key) (fault : ApFault) → IsAnswer (Err fault) ruling.answer → IsRuled key presenting.at (ruled state wanted presenting accepting (Some credential)) (Err (NotAccepted fault))
    refused_as key fault h = subst (λ (o : Option Answer). IsRefused fault o) (sym (is_ruled may is)) h

    pub refused_after : (after : State) (fault : ApFault) → IsAfter (Err fault) state after ruling.state → IsServed state after (ruled state wanted presenting accepting (Some credential)) (Err (NotAccepted fault))
    refused_after after fault h = subst (λ (o : Option Answer). IsRefusedAfter fault state after o) (sym (is_ruled may is)) h

    -- ---- accepted

    heard_as : (key : Key) (a : Accepted) (heard : Result Accepted PathEnd) → ruling.answer ≡ Ok a → IsHeard key presenting.at a heard → IsRuled (Some key) presenting.at (Some ruling) heard
    heard_as key a (Ok b) e h = ap Some (e ∙ ap Ok (sym h.0))
    heard_as key a (Err (NotAnswered fault)) e h = subst (λ (r : Result Accepted ApFault). IsUnheardBy (Some key) presenting.at fault (Some r)) (sym e) h
    heard_as key a (Err NoReply) e h = tt
    heard_as key a (Err (NotTaken fault)) e h = tt
    heard_as key a (Err NotPresentable) e h = tt
    heard_as key a (Err (NotAccepted fault)) e h = absurd h
    heard_as key a (Err Memory) e h = tt

    pub accepted_as : (key : Key) (a : Accepted) (heard : Result Accepted PathEnd) → session_key credential ≡ Some key → ruling.answer ≡ Ok a → IsHeard key presenting.at a heard
        → IsRuled (session_key credential) presenting.at (ruled state wanted presenting accepting (Some credential)) heard
    accepted_as key a heard held e h =
        subst (λ (k : Option Key). IsRuled k presenting.at (ruled state wanted presenting accepting (Some credential)) heard) (sym held)
        (subst (λ (o : Option Answer). IsRuled (Some key) presenting.at o heard) (sym (is_ruled may is)) (heard_as key a heard e h))

    heard_after : (after : State) (key : Key) (a : Accepted) (heard : Result Accepted PathEnd) → after ≡ ruling.state → IsHeard key presenting.at a heard → IsServed state after (Some ruling) heard
    heard_after after key a (Ok b) e h = ap Some (sym e)
    heard_after after key a (Err (NotAnswered fault)) e h = ap Some (sym e)
    heard_after after key a (Err NoReply) e h = absurd h
    heard_after after key a (Err (NotTaken fault)) e h = absurd h
    heard_after after key a (Err NotPresentable) e h = absurd h
    heard_after after key a (Err (NotAccepted fault)) e h = absurd h
    heard_after after key a (Err Memory) e h = absurd h

    pub accepted_after : (after : State) (key : Key) (a : Accepted) (heard : Result Accepted PathEnd) → after ≡ ruling.state → IsHeard key presenting.at a heard
        → IsServed state after (ruled state wanted presenting accepting (Some credential)) heard
    accepted_after after key a heard e h = subst (λ (o : Option Answer). IsServed state after o heard) (sym (is_ruled may is)) (heard_after after key a heard e h)
