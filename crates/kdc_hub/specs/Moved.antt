-- What others send can move the moments at which a server takes new rows and tidies, and nothing else.
use Rattle.std.specs.Prelude.{◌≡◌, IsTrue, List}
use Rattle.krb_fields.specs.Name.{Components}
use Rattle.krb_fields.specs.Granting.{tgs_principal}
use Rattle.kdc_core.specs.Struck.{AgreesFor, Names, ServicesWithin, is_clients_request, strike}
use Rattle.kdc_core.specs.Unaffected.{AreAlike}
use Rattle.kdc_core.specs.Unseen.{RequestsFollow, untidied}
use Rattle.kdc_core.specs.declared.run.Event.{Event as KdcEvent}
use Rattle.kdc_hub.specs.History.{Turn, events_in, sent_to}
use Rattle.kdc_hub.specs.Hub.{HubState}

-- the events of a history that concern c, where the rows of S matter: its requests, and the replacements
abbrev pub concerning : Components → Names → HubState → List Turn → List KdcEvent
concerning c S start turns = strike c S start.issuing.kdc (events_in start turns)

-- Two histories, as two lives of a server, in which others send what they like, at any moments and in any pieces. In
-- both the requests of c are the same, each at its moment and with its draw, and the same replacements come between
-- them. Where a look finds new rows is by the polls between two looks, which the events of others use up too: so these
-- may move a replacement, but not what it is, nor, if none moves past a request of c, what c gets. Tidyings may be
-- anywhere, if no request of c is before the second of an earlier one. Then c gets the same replies, in order.
abbrev pub MovesNothingElseFrom : HubState → List Turn → Type 0
MovesNothingElseFrom start turns = (other : HubState) (others : List Turn) (c : Components) (S : Names)
    → IsTrue (S (tgs_principal start.issuing.kdc.database.realm))
    → ServicesWithin c S start.issuing.kdc (events_in start turns)
    → ServicesWithin c S other.issuing.kdc (events_in other others)
    → AgreesFor c S start.issuing.kdc other.issuing.kdc
    → RequestsFollow (concerning c S start turns) → RequestsFollow (concerning c S other others)
    → AreAlike c S (untidied (concerning c S start turns)) (untidied (concerning c S other others))
    → sent_to (is_clients_request c) other others ≡ sent_to (is_clients_request c) start turns

abbrev pub MovesNothingElse : Type 0
MovesNothingElse = (start : HubState) (turns : List Turn) → MovesNothingElseFrom start turns
