-- Whether a ticket is valid (RFC 4120, section 3.2.3).
use Rattle.std.specs.Prelude.{ℤ, Bool, ◌||◌, List, [], ◌∷◌}
use Rattle.rule_lists.specs.Refusals.{Rule}
use Rattle.krb_fields.specs.declared.ticket_flag.TicketFlag.TheVariants.{Invalid}
use Rattle.ticket_times.specs.TicketTerms.{has_flag}
use Rattle.ticket_times.specs.declared.ticket_terms.TicketTerms.{TicketTerms}
use Rattle.ap_req.specs.Validity.{has_ended, has_not_started}
use Rattle.ap_req.specs.declared.refusal.ApRefusal.{ApRefusal}
use Rattle.ap_req.specs.declared.refusal.ApRefusal.TheVariants.{NotYetValid, TicketExpired}

-- it starts later than the clock skew allows, or has yet to be validated
abbrev pub is_not_yet_valid : TicketTerms → ℤ → Bool
is_not_yet_valid ticket now = has_not_started ticket now || has_flag ticket Invalid

abbrev pub validity_rules : TicketTerms → ℤ → List (Rule ApRefusal)
validity_rules ticket now =
    (is_not_yet_valid ticket now, NotYetValid)
    ∷ (has_ended ticket now, TicketExpired)
    ∷ []
