-- What is stored for an authenticator says whether its reply bears a ticket.
use Rattle.std.specs.Prelude.{◌≡◌, List, IfSome}
use Rattle.std.specs.FinMap as map
use Rattle.krb_fields.specs.Name.{Components}
use Rattle.principal_rows.specs.declared.limits.Limits.{Limits}
use Rattle.principals.specs.Database.{Principals}
use Rattle.replay.specs.Stamp.{Stamp}
use Rattle.replay.specs.declared.keep.Kept.{Kept}
use Rattle.replay.specs.declared.cache.ReplayCache.{ReplayCache}
use Rattle.replay.specs.declared.opening.Opening.{Opening}
use Rattle.kdc_state.specs.State.{cache_of, opened_state}
use Rattle.kdc_state.specs.declared.state.State.{State}
use Rattle.tgs_exchange.specs.Answer.{is_ticket}
use Rattle.kdc_core.specs.Run.{run}
use Rattle.kdc_core.specs.Tickets.{bears_ticket}
use Rattle.kdc_core.specs.declared.run.Event.{Event}

-- it says correctly whether its reply bears a ticket
abbrev pub IsMarked : Kept → Type 0
IsMarked kept = is_ticket kept.bears ≡ bears_ticket kept.reply

abbrev pub AreMarked : ReplayCache Kept → Type 0
AreMarked cache = (stamp : Stamp) → IfSome (map.get cache.pairs stamp) IsMarked

-- everything that is stored for any client
abbrev pub AllMarked : State → Type 0
AllMarked state = (client : Components) → AreMarked (cache_of state client)

-- in every run that begins with an opening, whatever events come
abbrev pub KeepsMarked : Type 0
KeepsMarked = (database : Principals) (limits : Limits) (opening : Opening) (events : List Event)
    → AllMarked (run (opened_state database limits opening) events)
