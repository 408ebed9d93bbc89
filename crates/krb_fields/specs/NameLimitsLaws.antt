-- The limits of names, as facts.
use Rattle.std.proofs.Common.{◌≡◌, ◌==◌, ◌<◌, ◌≤◌, ℕ, Bool, true, false, List, length, get_or, refl, arith}
use Rattle.std.specs.Bool.{Decides}
use Rattle.std.specs.List.{All, list_all}
use Rattle.std.specs.Prelude.{◌&&◌, nat_lt, nat_le}
use Rattle.std.proofs.lemmas.Bool.{leb-true, le-leb, lt-ltb}
use Rattle.std.proofs.lemmas.List.Elements.{All-from_get_or}
use Rattle.std.proofs.lemmas.Bool.Decides.{nat_tests, Decides-and, Decides-ltb, Decides-like, Decides-by_and}
use Rattle.krb_fields.specs.Name.{Components}
use Rattle.krb_fields.specs.NameLimits.{is_component, is_within_limits, IsComponent, IsWithinLimits}

abbrev pub ComponentFacts : List ℕ → Type 0
ComponentFacts octets = (0 < length octets) × (length octets ≤ 255) × All (λ o. o < 256) octets

abbrev pub NameFacts : Components → Type 0
NameFacts name = (0 < length name) × (length name ≤ 16) × All IsComponent name

pub is_component-decides : (octets : List ℕ) → Decides (is_component octets) (ComponentFacts octets)
is_component-decides octets = Decides-like _ (λ p. (p.0.0, p.0.1, p.1)) (λ p. ((p.0, p.1), p.2)) (
    Decides-and _ _ (Decides-and _ _ (Decides-ltb 0 (length octets))
    (leb-true (length octets) 255, le-leb (length octets) 255))
    (Decides-by_and (λ o. nat_lt o 256) _ (list_all (λ o. nat_lt o 256)) (λ o. Decides-ltb o 256) refl
    (λ _ _. refl) octets))

component-decides : (octets : List ℕ) → Decides (is_component octets) (IsComponent octets)
component-decides octets = (λ e. e, λ e. e)

pub is_within_limits-decides : (name : Components) → Decides (is_within_limits name) (NameFacts name)
is_within_limits-decides name = Decides-like _ (λ p. (p.0.0, p.0.1, p.1)) (λ p. ((p.0, p.1), p.2)) (
    Decides-and _ _ (Decides-and _ _ (Decides-ltb 0 (length name)) (leb-true (length name) 16, le-leb (length name) 16))
    (Decides-by_and is_component IsComponent (list_all is_component) component-decides refl (λ _ _. refl) name))

pub component_facts : (octets : List ℕ) → IsComponent octets → ComponentFacts octets
component_facts octets is = (is_component-decides octets).0 is

pub component_is : (octets : List ℕ) → ComponentFacts octets → IsComponent octets
component_is octets facts = (is_component-decides octets).1 facts

pub name_facts : (name : Components) → IsWithinLimits name → NameFacts name
name_facts name is = (is_within_limits-decides name).0 is

pub name_is : (name : Components) → NameFacts name → IsWithinLimits name
name_is name facts = (is_within_limits-decides name).1 facts

and_true : (b : Bool) → b ≡ (b && true)
and_true true = refl
and_true false = refl

some_octets : (octets : List ℕ) → (length octets == 0) ≡ false → nat_lt 0 (length octets) ≡ true
some_octets octets e = lt-ltb 0 (length octets) (grind (arith, nat_tests))

below_256 : (octets : List ℕ) → ((i : ℕ) → get_or octets i 0 < 256) → list_all (λ o. nat_lt o 256) octets ≡ true
below_256 octets below =
    (Decides-by_and (λ o. nat_lt o 256) (λ o. o < 256) (list_all (λ o. nat_lt o 256)) (λ o. Decides-ltb o 256) refl
    (λ _ _. refl) octets).1
    (All-from_get_or (λ o. o < 256) octets 0 (λ i lt. below i))

-- non-empty bytes are a component if their length allows it
pub by_length : (octets : List ℕ) → ((i : ℕ) → get_or octets i 0 < 256) → (length octets == 0) ≡ false
    → nat_le (length octets) 255 ≡ is_component octets
by_length octets below some =
    rw (some_octets octets some, below_256 octets below) (and_true (nat_le (length octets) 255))
