-- Two principals that are the same as a third one are the same; what is at a place of a list is in it.
use Rattle.std.proofs.Common.{◌∙◌, ◌<◌, ℕ, List, get_or, length}
use Rattle.std.specs.List.{Contains}
use Rattle.std.proofs.lemmas.List.Elements.{Contains-get_or}
use Rattle.client_core.specs.Taken.{AreSame}
use Rattle.krb_fields.specs.PrincipalName.{Name}

pub same_as : (realm between other : List ℕ) (name middle last : Name) → AreSame realm name between middle
    → AreSame between middle other last → AreSame realm name other last
same_as realm between other name middle last first second =
    record { realms = first.realms ∙ second.realms; names = first.names ∙ second.names }

pub contained : {X : Type 0} (xs : List X) (i : ℕ) (d : X) → i < length xs → Contains xs (get_or xs i d)
contained xs i d below = Contains-get_or xs i d below
