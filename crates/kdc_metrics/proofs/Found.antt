-- Each kind is found at its place.
use Rattle.std.proofs.Common.{◌≡◌, Some, refl, sym, ap, ◌∙◌}
use Rattle.std.specs.Prelude.{slice_get}
use Rattle.as_exchange.specs.declared.refusal.AsRefusal.TheVariants.{BadVersion as AsBadVersion}
use Rattle.ap_req.specs.declared.refusal.ApRefusal.TheVariants.{BadVersion as ApBadVersion}
use Rattle.tgs_opening.specs.declared.refusal.TgsRefusal.TheVariants.{BadVersion as TgsBadVersion, Ap}
use Rattle.replay.specs.declared.keep.Bears.TheVariants.{Ticket}
use Rattle.kdc_metrics.specs.declared.kind.Kind.{Kind}
use Rattle.kdc_metrics.specs.declared.kind.Kind.TheVariants.{NoRequest, AsRefused, TgsAgain, TgsRefused}
use Rattle.kdc_metrics.specs.Places.{kinds, place}

-- `_` stands for each other rule, and for each other kind
pub found : (kind : Kind) → slice_get kinds (place kind) ≡ Some kind
found NoRequest = refl
found (AsRefused AsBadVersion) = refl
found (AsRefused _) = refl
found (TgsAgain Ticket) = refl
found (TgsAgain _) = refl
found (TgsRefused (Ap ApBadVersion)) = refl
found (TgsRefused (Ap _)) = refl
found (TgsRefused TgsBadVersion) = refl
found (TgsRefused _) = refl
found _ = refl

same_some : (kind other : Kind) → Some kind ≡ Some other → kind ≡ other
same_some kind other e = cc

pub one_place : (kind other : Kind) → place kind ≡ place other → kind ≡ other
one_place kind other same = same_some kind other (sym (found kind) ∙ ap (slice_get kinds) same ∙ found other)
