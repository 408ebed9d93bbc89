-- The authorization data of what was accepted (RFC 4120, section 5.2.6).
use Rattle.std.specs.Prelude.{◌≡◌, ◌==◌, ℕ, ℤ, pos, List, Option, Some, None, if◌then◌else◌, option_and_then}
use Rattle.std.specs.Prelude.{option_map}
use Rattle.std.specs.List.{slice_get}
use Rattle.std.specs.Option.{unwrap_or}
use Rattle.krb_fields.specs.Typed.{Typed}
use Rattle.ap_accept.specs.declared.accepted.Accepted.{Accepted}
use Rattle.ap_accept_c.specs.Calls.{IsFetchedOf}
use Rattle.ap_accept_c.specs.declared.elements.Place.{Place}
use Rattle.ap_accept_c.specs.declared.last.Last.{Last}
use Rattle.ap_accept_c.specs.declared.service.Service.{Service}
use Rattle.ap_accept_c.specs.declared.status.Status.{Status}
use Rattle.ap_accept_c.specs.declared.status.Status.TheVariants.{Closed}

-- 1 for the ticket's, 2 for the authenticator's
abbrev pub elements_in : ℕ → Accepted → Option (List Typed)
elements_in list accepted =
    if list == 1 then accepted.ticket_authorization
    else if list == 2 then accepted.authorization
    else None

abbrev pub element_in : Place → Last → Option Typed
element_in place last =
    option_and_then (λ accepted.
    option_and_then (λ elements. slice_get elements place.index) (elements_in place.list accepted)) last.accepted

-- its bytes are copied to the buffer, and its type is returned; both are absent without one
abbrev pub IsElement : Status → Option Service → Place → List ℕ → List ℕ → ℕ → ℤ → Type 0
IsElement status (Some service) place old new len number =
    IsFetchedOf status (option_map (λ t. t.octets) (element_in place service.last)) old new len
    × (number ≡ unwrap_or (option_map (λ t. t.number) (element_in place service.last)) (pos 0))
IsElement status None place old new len number =
    (status ≡ Closed) × (new ≡ old) × (len ≡ 0) × (number ≡ pos 0)
