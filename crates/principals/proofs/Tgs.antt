-- The name of the ticket-granting service, component by component.
use Rattle.std.proofs.Common.{◌≡◌, ◌≢◌, ℕ, length, get_or, arith, false, ◌&&◌, List, [], ◌∷◌, codes, refl, sym, ◌∙◌, bytes_eq, is_eq, Less, Equal, Greater, Ordering}
use Rattle.std.specs.Ordering.{eq_by_cmp, nat_cmp, ordering_then}
use Rattle.std.specs.Cmp.Lexicographic.{slice_cmp}
use Rattle.std.proofs.lemmas.Map.Text.{is_eq-slice_cmp}
use Rattle.krb_fields.specs.Name.{Components, name_cmp}
use Rattle.krb_fields.specs.Granting.{tgs_principal}

first_then : (o p : Ordering) → is_eq (ordering_then o p) ≡ (is_eq o && is_eq p)
first_then Less p = refl
first_then Equal p = refl
first_then Greater p = refl

last_one : (o : Ordering) → is_eq (ordering_then o Equal) ≡ is_eq o
last_one Less = refl
last_one Equal = refl
last_one Greater = refl

never : (o p : Ordering) → is_eq p ≡ false → is_eq (ordering_then o p) ≡ false
never Less p e = refl
never Equal p e = e
never Greater p e = refl

pub tgs_two : (service instance realm : List ℕ) → eq_by_cmp name_cmp (service ∷ instance ∷ []) (tgs_principal realm) ≡ (bytes_eq service (codes "krbtgt") && bytes_eq instance realm)
tgs_two service instance realm =
    first_then (slice_cmp nat_cmp service (codes "krbtgt")) _
    ∙ (λ i. is_eq-slice_cmp service (codes "krbtgt") i && (last_one (slice_cmp nat_cmp instance realm) ∙ is_eq-slice_cmp instance realm) i)

pub tgs_none : (realm : List ℕ) → eq_by_cmp name_cmp [] (tgs_principal realm) ≡ false
tgs_none realm = refl

pub tgs_one : (service realm : List ℕ) → eq_by_cmp name_cmp (service ∷ []) (tgs_principal realm) ≡ false
tgs_one service realm = never (slice_cmp nat_cmp service (codes "krbtgt")) Less refl

pub tgs_more : (service instance next : List ℕ) (name : Components) (realm : List ℕ) → eq_by_cmp name_cmp (service ∷ instance ∷ next ∷ name) (tgs_principal realm) ≡ false
tgs_more service instance next name realm =
    never (slice_cmp nat_cmp service (codes "krbtgt")) _ (never (slice_cmp nat_cmp instance realm) Greater refl)

-- comparing two components one by one
pub tgs_pair : (name : Components) (service instance realm : List ℕ) → length name ≡ 2 → service ≡ get_or name 0 service → instance ≡ get_or name 1 instance → eq_by_cmp name_cmp name (tgs_principal realm) ≡ (bytes_eq service (codes "krbtgt") && bytes_eq instance realm)
tgs_pair [] service instance realm two s i = absurd (omega (arith, two))
tgs_pair (a ∷ []) service instance realm two s i = absurd (omega (arith, two))
tgs_pair (a ∷ b ∷ []) service instance realm two s i =
    tgs_two a b realm ∙ (λ j. bytes_eq (sym s j) (codes "krbtgt") && bytes_eq (sym i j) realm)
tgs_pair (a ∷ b ∷ c ∷ name) service instance realm two s i = absurd (omega (arith, two))

pub tgs_other : (name : Components) (realm : List ℕ) → length name ≢ 2 → eq_by_cmp name_cmp name (tgs_principal realm) ≡ false
tgs_other [] realm other = tgs_none realm
tgs_other (a ∷ []) realm other = tgs_one a realm
tgs_other (a ∷ b ∷ []) realm other = absurd (other refl)
tgs_other (a ∷ b ∷ c ∷ name) realm other = tgs_more a b c name realm
