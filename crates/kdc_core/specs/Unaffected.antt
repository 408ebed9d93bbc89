-- Runs in which a client sends the same requests, whatever others request in either, and whatever rows others have.
use Rattle.std.specs.Prelude.{◌≡◌, ⊤, IsTrue, List, [], ◌∷◌}
use Rattle.std.specs.FinMap as map
use Rattle.krb_fields.specs.Name.{Components}
use Rattle.principals.specs.Database.{Principals}
use Rattle.krb_fields.specs.Granting.{tgs_principal}
use Rattle.replay.specs.Resumed.{resumed_cache}
use Rattle.replay.specs.declared.seen.Resumption.{Resumption}
use Rattle.kdc_state.specs.declared.state.State.{State}
use Rattle.kdc_core.specs.Run.{run}
use Rattle.kdc_core.specs.Struck.{AgreesFor, Names, ServicesWithin, is_clients_request, replies_to, strike}
use Rattle.kdc_core.specs.declared.run.Event.{Event}
use Rattle.kdc_core.specs.declared.run.Event.TheVariants.{Request, Change, Replace, Tidy, Restart, Reopen, Resume}

-- a second database of the same realm has the same row for c and the same rows for S
pub record HasSameRows (c : Components) (S : Names) (database other : Principals) : Type 0 where
  pub realm : other.realm ≡ database.realm
  pub row : map.get other.rows c ≡ map.get database.rows c
  pub rows : (name : Components) → IsTrue (S name) → map.get other.rows name ≡ map.get database.rows name

-- the same event; a database that replaces another may have other rows for others, and a resumption may have other
-- authenticators of others
abbrev pub IsAlike : Components → Names → Event → Event → Type 0
IsAlike c S (Request at random room request) other = other ≡ Request at random room request
IsAlike c S (Change change) other = other ≡ Change change
IsAlike c S (Replace database) other = (new : Principals) × (other ≡ Replace new) × HasSameRows c S database new
IsAlike c S (Tidy at) other = other ≡ Tidy at
IsAlike c S (Restart at) other = other ≡ Restart at
IsAlike c S (Reopen database limits at) other =
    (new : Principals) × (other ≡ Reopen new limits at) × HasSameRows c S database new
IsAlike c S (Resume database limits resumption) other =
    (new : Principals) × (others : Resumption) × (other ≡ Resume new limits others) × HasSameRows c S database new
    × (resumed_cache others c ≡ resumed_cache resumption c)

-- the events of two runs are alike, one by one
abbrev pub AreAlike : Components → Names → List Event → List Event → Type 0
AreAlike c S [] [] = ⊤
AreAlike c S [] (other ∷ others) = ⊥
AreAlike c S (event ∷ events) [] = ⊥
AreAlike c S (event ∷ events) (other ∷ others) = IsAlike c S event other × AreAlike c S events others

-- c's requests get the same replies, in order, and the final states agree for c
pub record GetsTheSame (c : Components) (S : Names) (state other : State) (events others : List Event) : Type 0 where
  pub replies : replies_to (is_clients_request c) other others ≡ replies_to (is_clients_request c) state events
  pub afterwards : AgreesFor c S (run state events) (run other others)

-- Two runs from states that agree for c, in which the same events stay for c; only what their replacement databases and
-- resumptions hold for others may differ. This holds for every set S of names that holds the ticket-granting service
-- and each service that c's requests name in either run.
abbrev pub Unaffected : Type 0
Unaffected = (c : Components) (S : Names) (state other : State) (events others : List Event)
    → IsTrue (S (tgs_principal state.database.realm)) → ServicesWithin c S state events
    → ServicesWithin c S other others → AgreesFor c S state other
    → AreAlike c S (strike c S state events) (strike c S other others)
    → GetsTheSame c S state other events others
