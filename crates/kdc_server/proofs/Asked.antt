-- What a wire asked of its journal, poll by poll and act by act.
use Rattle.std.proofs.Common.{◌≡◌, true, false, List, [], ◌∷◌, ◌++◌, Option, Some, None, Result, Ok, Err, refl, subst}
use Rattle.std.specs.Prelude.{Bool, ◌&&◌, not}
use Rattle.std.specs.Result.{is_ok}
use Rattle.krb_fields.specs.declared.moment.Moment.{Moment}
use Rattle.kdc_hub.specs.Wire.{Records, acted, polled}
use Rattle.kdc_hub.specs.declared.event.Action.{Action}
use Rattle.kdc_hub.specs.declared.event.Event.{Event}
use Rattle.kdc_hub.specs.declared.wires.WireCall.{WireCall}
use Rattle.kdc_hub.specs.declared.wires.WireFault.{WireFault}
use Rattle.kdc_hub.proofs.Rounds.{records_on}
use Rattle.journal.specs.Life.{JournalState}
use Rattle.kdc_files.specs.Keeping.{AsksFor}
use Rattle.kdc_server.specs.Asking.{AskAll, Asks, HasAsked}

-- ---- a life

ask_on : (did : List WireCall) (one : WireCall) (old next new : JournalState) → AskAll did old next → Asks one next new → AskAll (did ++ one ∷ []) old new
ask_on [] one old next new same is = (new, subst (λ s. Asks one s new) same is, refl)
ask_on (first ∷ did) one old next new (mid, is, rest) more = (mid, is, ask_on did one mid next new rest more)

pub asked_more : (one : WireCall) (begun old new : JournalState) (tally tally_new : Option (List WireCall)) → Records tally (one ∷ []) tally_new
    → Asks one old new → HasAsked begun tally old → HasAsked begun tally_new new
asked_more one begun old new tally tally_new records asks has = record {
  did = has.did ++ one ∷ [];
  recorded = records_on (Some []) has.did tally (one ∷ []) tally_new has.recorded records;
  asked = ask_on has.did one begun old new has.asked asks;
}

pub polls_ask : (r : Result (Moment × Option Event) WireFault) (old new : JournalState) → new ≡ old → Asks (polled r) old new
polls_ask (Ok (at, Some event)) old new same = same
polls_ask (Ok (at, None)) old new same = same
polls_ask (Err fault) old new same = same

pub acts_ask : {T : Type 0} (action : Action) (r : Result T WireFault) (is_kept is_withheld : Bool) (old new : JournalState)
    → AsksFor action is_kept old new → (is_kept && not is_withheld ≡ false → is_ok r ≡ false) → Asks (acted action r) old new
acts_ask action (Ok done) true is_withheld old new asks fails = asks
acts_ask action (Ok done) false is_withheld old new asks fails = absurd (cc (fails refl))
acts_ask action (Err fault) is_kept is_withheld old new asks fails = (is_kept, asks)
