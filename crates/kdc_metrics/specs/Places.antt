-- The place of each kind of request among all kinds.
use Rattle.std.specs.Prelude.{ℕ, ◌+◌, Bool, nat_eq, List, [], ◌∷◌, ◌++◌, map}
use Rattle.as_exchange.specs.Refusal as as_refusals
use Rattle.tgs_opening.specs.Refusal as tgs_refusals
use Rattle.replay.specs.declared.keep.Bears.TheVariants.{Ticket, Error}
use Rattle.kdc_metrics.specs.declared.kind.Kind.{Kind}
use Rattle.kdc_metrics.specs.declared.kind.Kind.TheVariants.{NoRequest, Unanswered, AsTicket, AsTooBig, AsRefused}
use Rattle.kdc_metrics.specs.declared.kind.Kind.TheVariants.{TgsTicket, TgsTooBig, TgsAgain, TgsRefused}

-- ---- places

-- how many kinds there are beside the rules of the TGS exchange
abbrev before_tgs : ℕ
before_tgs = 8 + as_refusals.refusal_count

abbrev pub kind_count : ℕ
kind_count = before_tgs + tgs_refusals.refusal_count

abbrev pub place : Kind → ℕ
place NoRequest = 0
place Unanswered = 1
place AsTicket = 2
place AsTooBig = 3
place (AsRefused rule) = 4 + as_refusals.place_of rule
place TgsTicket = 4 + as_refusals.refusal_count
place TgsTooBig = 5 + as_refusals.refusal_count
place (TgsAgain Ticket) = 6 + as_refusals.refusal_count
place (TgsAgain Error) = 7 + as_refusals.refusal_count
place (TgsRefused rule) = before_tgs + tgs_refusals.place_of rule

-- one kind has one place
abbrev pub same_kind : Kind → Kind → Bool
same_kind kind other = nat_eq (place kind) (place other)

-- ---- all kinds, each at its place

abbrev pub before_rules : List Kind
before_rules = NoRequest ∷ Unanswered ∷ AsTicket ∷ AsTooBig ∷ []

abbrev pub between_rules : List Kind
between_rules = TgsTicket ∷ TgsTooBig ∷ TgsAgain Ticket ∷ TgsAgain Error ∷ []

abbrev pub kinds : List Kind
kinds =
    before_rules ++ map AsRefused as_refusals.all_refusals
    ++ between_rules ++ map TgsRefused tgs_refusals.all_refusals
