-- A property of a ticket that may have been issued, carried from one call to the next.
use Rattle.std.proofs.Common.{◌≡◌, inl, inr, ℕ, ℤ, List, Option, Some, None, Result, Ok, Err, refl, subst, sym, ap, ◌∙◌}
use Rattle.std.specs.Prelude.{IfErr, IfOk, IfSome}
use Rattle.std.specs.Result.{result_ok}
use Rattle.kdc_state.specs.declared.state.State as kdc_states
use Rattle.ap_accept.specs.Accepts.{Answer}
use Rattle.enctypes.specs.declared.key.Key.{Key}
use Rattle.krb_joined.specs.Joined.{IsNextState, IsNextStateOn, IsRuled, IsServed, IsUnpresentable, key_of, ruled, taken_of}
use Rattle.krb_joined.specs.declared.presenting.Sealing.{Sealing}
use Rattle.cred_files.specs.declared.credential.Credential.{Credential}
use Rattle.krb_fields.specs.declared.moment.Moment.{Moment}
use Rattle.kdc_replies.specs.Issue.{Issue}
use Rattle.client_core.specs.declared.asked.Asked.{Asked}
use Rattle.client_core.specs.declared.fault.ReplyError.{ReplyError}
use Rattle.client_core.specs.declared.service_asked.ServiceAsked.{ServiceAsked}
use Rattle.ap_accept.specs.declared.accepted.Accepted.{Accepted}
use Rattle.ap_accept.specs.declared.state.State.{State}
use Rattle.krb_joined.specs.Credential.{IsCredentialOf}
use Rattle.krb_joined.specs.Joined.{IsBefore, IsEnded, IsJoined, IsLater, IsPresented, IsRead, MayBeAccepted}
use Rattle.krb_joined.specs.Reading.{IsReader, reads_reply}
use Rattle.krb_joined.specs.declared.path_end.PathEnd.{PathEnd}
use Rattle.krb_joined.specs.declared.path_end.PathEnd.TheVariants.{NoReply, NotTaken, NotPresentable, NotAccepted, NotAnswered, Memory}
use Rattle.krb_joined.specs.declared.reading.Reader.{Reader}

-- the credential that was read is the one in the reply
taken_is : (own : Reader) (asked : Asked) (reply : Option (List ℕ)) (credential : Credential) → IsRead reply asked own credential → taken_of reply asked own ≡ Some credential
taken_is own asked (Some octets) credential read = ap result_ok read
taken_is own asked None credential read = absurd read

module _ (own : Reader) (state : State) (now : ℤ) (wanted : ServiceAsked) (sent : Moment) where
  -- the obtained credential is accepted
  pub carried : (o : Option Issue) (credential : Credential) (result : Result Accepted PathEnd) → IfSome o (λ issue. IsReader own issue → IsCredentialOf issue credential)
      → ((issue : Issue) → IsCredentialOf issue credential → MayBeAccepted issue state now sent → IsJoined issue wanted sent result)
      → IfSome o (λ issue. IsReader own issue → MayBeAccepted issue state now sent → IsJoined issue wanted sent result)
  carried (Some issue) credential result obtained presented = λ reader may. presented issue (obtained reader) may
  carried None credential result obtained presented = tt

  ended : (issue : Issue) (asked : Asked) (reply : Option (List ℕ)) (end : PathEnd) → (reply ≡ None → Some issue ≡ None) → IsBefore end → IsEnded reply asked own end → IsJoined issue wanted sent (Err end)
  ended issue asked reply NoReply silent is none = let k = silent none in absurd cc
  ended issue asked reply (NotTaken fault) silent is e = tt
  ended issue asked reply NotPresentable silent is e = absurd is
  ended issue asked reply (NotAccepted fault) silent is e = absurd is
  ended issue asked reply (NotAnswered fault) silent is e = absurd is
  ended issue asked reply Memory silent is e = tt

  -- without a credential, no service is asked; and there was a reply
  pub stopped : (o : Option Issue) (asked : Asked) (reply : Option (List ℕ)) (end : PathEnd) → (reply ≡ None → o ≡ None) → IsBefore end → IsEnded reply asked own end
      → IfSome o (λ issue. IsReader own issue → MayBeAccepted issue state now sent → IsJoined issue wanted sent (Err end))
  stopped (Some issue) asked reply end silent is e = λ reader may. ended issue asked reply end silent is e
  stopped None asked reply end silent is e = tt

  -- the client presents the credential that it got
  pub presented_so : (asked : Asked) (reply : Option (List ℕ)) (credential : Credential) (result : Result Accepted PathEnd) → IsRead reply asked own credential → IsPresented credential sent result
      → IfSome reply (λ octets. IfOk (reads_reply own asked octets) (λ c. IsPresented c sent result))
  presented_so asked (Some octets) credential result read is = subst (λ (r : Result Credential ReplyError). IfOk r (λ c. IsPresented c sent result)) (sym read) is
  presented_so asked None credential result read is = tt

  before : (credential : Credential) (end : PathEnd) → IsBefore end → IsPresented credential sent (Err end)
  before credential NoReply is = tt
  before credential (NotTaken fault) is = tt
  before credential NotPresentable is = absurd is
  before credential (NotAccepted fault) is = absurd is
  before credential (NotAnswered fault) is = absurd is
  before credential Memory is = tt

  pub not_presented : (asked : Asked) (reply : Option (List ℕ)) (end : PathEnd) → IsBefore end → IfSome reply (λ octets. IfOk (reads_reply own asked octets) (λ c. IsPresented c sent (Err end)))
  not_presented asked (Some octets) end is = by (reads_reply own asked octets)
    where
      by : (r : Result Credential ReplyError) → IfOk r (λ c. IsPresented c sent (Err end))
      by (Ok c) = before c end is
      by (Err e) = tt
  not_presented asked None end is = tt

  -- a later error is not the KDC's, and not of reading its reply
  pub later_ended : (asked : Asked) (reply : Option (List ℕ)) (credential : Credential) → IsRead reply asked own credential → (result : Result Accepted PathEnd) → IsPresented credential sent result → IfErr result IsLater
      → IfErr result (IsEnded reply asked own)
  later_ended asked reply credential read (Ok accepted) presented is = tt
  later_ended asked reply credential read (Err NoReply) presented is = absurd is
  later_ended asked reply credential read (Err (NotTaken fault)) presented is = absurd is
  later_ended asked reply credential read (Err NotPresentable) presented is = subst (λ (o : Option Credential). IsUnpresentable o) (sym (taken_is own asked reply credential read)) presented
  later_ended asked reply credential read (Err (NotAccepted fault)) presented is = tt
  later_ended asked reply credential read (Err (NotAnswered fault)) presented is = tt
  later_ended asked reply credential read (Err Memory) presented is = tt

  -- ---- a kept reply

  pub stopped_again : (issue : Issue) (octets : List ℕ) (asked : Asked) (reply : Option (List ℕ)) (end : PathEnd) → reply ≡ Some octets → IsBefore end → IsEnded reply asked own end → IsJoined issue wanted sent (Err end)
  stopped_again issue octets asked reply end again is e = ended issue asked reply end (λ none. absurd (let k : None ≡ Some octets = sym none ∙ again in cc)) is e

-- ---- the service's part

module _ (own : Reader) (asked : Asked) (reply : Option (List ℕ)) (state : State) (wanted : ServiceAsked) (presenting accepting : Sealing) where
  abbrev ruling : Option Answer
  ruling = ruled state wanted presenting accepting (taken_of reply asked own)

  module _ (credential : Credential) (read : IsRead reply asked own credential) (result : Result Accepted PathEnd) where
    pub ruled_so : IsRuled (key_of (Some credential)) presenting.at (ruled state wanted presenting accepting (Some credential)) result → IsRuled (key_of (taken_of reply asked own)) presenting.at ruling result
    ruled_so is = subst (λ (o : Option Credential). IsRuled (key_of o) presenting.at (ruled state wanted presenting accepting o) result) (sym (taken_is own asked reply credential read)) is

    pub served_so : (after : State) → IsServed state after (ruled state wanted presenting accepting (Some credential)) result → IsServed state after ruling result
    served_so after is = subst (λ (o : Option Credential). IsServed state after (ruled state wanted presenting accepting o) result) (sym (taken_is own asked reply credential read)) is

-- without a credential, the service is not asked
module _ (key : Option Key) (sent : Moment) (state : State) (ruling : Option Answer) where
  pub not_ruled : (end : PathEnd) → IsBefore end → IsRuled key sent ruling (Err end)
  not_ruled NoReply is = tt
  not_ruled (NotTaken fault) is = tt
  not_ruled NotPresentable is = tt
  not_ruled (NotAccepted fault) is = absurd is
  not_ruled (NotAnswered fault) is = absurd is
  not_ruled Memory is = tt

  pub not_served : (end : PathEnd) → IsBefore end → IsServed state state ruling (Err end)
  not_served NoReply is = refl
  not_served (NotTaken fault) is = refl
  not_served NotPresentable is = refl
  not_served (NotAccepted fault) is = absurd is
  not_served (NotAnswered fault) is = absurd is
  not_served Memory is = refl

-- ---- the KDC's state

module _ (old new ruling : kdc_states.State) where
  pub kept_on : (credential : Credential) (result : Result Accepted PathEnd) → IsNextState old new ruling (Ok credential) → IsNextStateOn old new ruling result
  kept_on credential (Ok accepted) is = is
  kept_on credential (Err NoReply) is = is
  kept_on credential (Err (NotTaken fault)) is = is
  kept_on credential (Err NotPresentable) is = is
  kept_on credential (Err (NotAccepted fault)) is = is
  kept_on credential (Err (NotAnswered fault)) is = is
  kept_on credential (Err Memory) is = inr is

  pub kept_before : (end : PathEnd) → IsNextState old new ruling (Err end) → IsNextStateOn old new ruling (Err end)
  kept_before NoReply is = is
  kept_before (NotTaken fault) is = is
  kept_before NotPresentable is = is
  kept_before (NotAccepted fault) is = is
  kept_before (NotAnswered fault) is = is
  kept_before Memory is = inl is
