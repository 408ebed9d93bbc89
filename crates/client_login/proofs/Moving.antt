-- The client's moment, and its generator, after no request, one and two.
use Rattle.std.proofs.Common.{◌≡◌, ◌∙◌, ap, refl, arith}
use Rattle.rand_core.specs.Stream.{Stream}
use Rattle.client_login.specs.Draws.{HasDrawn, after_confounder}
use Rattle.krb_fields.specs.declared.moment.Moment.{Moment}
use Rattle.client_login.specs.Moments.{IsMoved, IsNext}

pub moved_none : (at : Moment) → IsMoved at at
moved_none at = record { taken = 0; few = omega (arith); later = refl }

pub moved_once : (at after : Moment) → IsNext at after → IsMoved at after
moved_once at after next = record { taken = 1; few = omega (arith); later = (after, next, refl) }

pub moved_twice : (at between after : Moment) → IsNext at between → IsNext between after → IsMoved at after
moved_twice at between after first second =
    record { taken = 2; few = omega (arith); later = (between, first, (after, second, refl)) }

pub drawn_none : (random : Stream) → HasDrawn random random
drawn_none random = record { confounders = 0; few = omega (arith); later = refl }

pub drawn_once : (random after : Stream) → after ≡ after_confounder random → HasDrawn random after
drawn_once random after first = record { confounders = 1; few = omega (arith); later = first }

pub drawn_twice : (random between after : Stream) → between ≡ after_confounder random → after ≡ after_confounder between
    → HasDrawn random after
drawn_twice random between after first second =
    record { confounders = 2; few = omega (arith); later = second ∙ ap after_confounder first }
