-- A cache with nothing recorded is determined by its floor, and stays empty when it is tidied.
use Rattle.std.proofs.Common.{◌≡◌, ◌&&◌, Bool, true, false, cond, ℕ, ℤ, pos, Option, None, refl, sym, ap, subst, ◌∙◌, arith}
use Rattle.std.specs.Prelude.{nat_eq}
use Rattle.std.specs.Ordering.{int_eq}
use Rattle.std.specs.FinMap.{empty_of_len, get-empty, get-retain_keys, same_map}
use Rattle.std.specs.FinMap as map
use Rattle.std.proofs.lemmas.Bool.Decides.{nat_tests}
use Rattle.std.specs.Cmp.{signed_Decides}
use Rattle.krb_elements.specs.Simple.{IsMicrosecond}
use Rattle.krb_fields.specs.Moment.{IsSecond}
use Rattle.replay.specs.declared.failures.Failures.{Failures}
use Rattle.replay.specs.declared.cache.ReplayCache.{ReplayCache}
use Rattle.replay.specs.Failures.{no_failures}
use Rattle.replay.specs.ReplayCache.{floor_at}
use Rattle.replay.specs.Stamp.{Stamp, is_from, stamp_cmp}
use Rattle.replay.specs.Tidied.{empty_cache, floor_on, is_empty, never_failed, tidied}
use Rattle.replay.proofs.Epoch.{no_failures_is}
use Rattle.replay.proofs.Stamps.{stamp_exact, stamp_total}
use Rattle.replay.proofs.Raising.{floor_on_empty}

three : (a b c : Bool) → (a && b && c) ≡ true → (a ≡ true) × (b ≡ true) × (c ≡ true)
three true true c e = (refl, refl, e)
three true false c e = absurd cc
three false b c e = absurd cc

same_nat : (a b : ℕ) → nat_eq a b ≡ true → a ≡ b
same_nat a b e = grind (arith, nat_tests)

same_int : (a b : ℤ) → int_eq a b ≡ true → a ≡ b
same_int a b e = (signed_Decides a b).0 e

four : (a b c d : Bool) → (a && b && c && d) ≡ true → (a ≡ true) × (b ≡ true) × (c ≡ true) × (d ≡ true)
four true true true d e = (refl, refl, refl, e)
four true true false d e = absurd cc
four true false c d e = absurd cc
four false b c d e = absurd cc

-- failures are determined by their numbers
failures_are : (count version : ℕ) (sec : ℤ) (usec : ℕ) → count ≡ 0 → version ≡ 0 → sec ≡ pos 0 → usec ≡ 0 → (s : IsSecond sec) (u : IsMicrosecond usec)
    → ◌≡◌ {A = Failures} (record { count = count; last = record { sec = sec; usec = usec; sec_in_range = s; usec_in_range = u }; version = version }) no_failures
failures_are count version sec usec counted current seconds micros =
    subst (λ (n : ℕ). (s : IsSecond sec) (u : IsMicrosecond usec) → ◌≡◌ {A = Failures} (record { count = n; last = record { sec = sec; usec = usec; sec_in_range = s; usec_in_range = u }; version = version }) no_failures) (sym counted)
    (subst (λ (n : ℕ). (s : IsSecond sec) (u : IsMicrosecond usec) → ◌≡◌ {A = Failures} (record { count = 0; last = record { sec = sec; usec = usec; sec_in_range = s; usec_in_range = u }; version = n }) no_failures) (sym current)
    (subst (λ (n : ℤ). (s : IsSecond n) (u : IsMicrosecond usec) → ◌≡◌ {A = Failures} (record { count = 0; last = record { sec = n; usec = usec; sec_in_range = s; usec_in_range = u }; version = 0 }) no_failures) (sym seconds)
    (subst (λ (n : ℕ). (s : IsSecond (pos 0)) (u : IsMicrosecond n) → ◌≡◌ {A = Failures} (record { count = 0; last = record { sec = pos 0; usec = n; sec_in_range = s; usec_in_range = u }; version = 0 }) no_failures) (sym micros)
    no_failures_is)))

none_failed : (f : Failures) → never_failed f ≡ true → f ≡ no_failures
none_failed f e =
    let all = four (nat_eq f.count 0) (nat_eq f.version 0) (int_eq f.last.sec (pos 0)) (nat_eq f.last.usec 0) e in
    failures_are f.count f.version f.last.sec f.last.usec (same_nat _ _ all.0) (same_nat _ _ all.1) (same_int _ _ all.2) (same_nat _ _ all.3) f.last.sec_in_range f.last.usec_in_range

-- it is the empty cache with that floor
pub is_empty_cache : {T : Type 0} (floor : ℤ) (m : ReplayCache T) → is_empty floor m ≡ true → m ≡ empty_cache floor
is_empty_cache floor m e =
    let all = three (never_failed m.failures) (int_eq m.floor floor) (nat_eq (map.len m.pairs) 0) e in
    let failures = none_failed m.failures all.0 in
    let same = same_int _ _ all.1 in
    let pairs = empty_of_len m.pairs (same_nat _ _ all.2) in
    λ i. record { failures = failures i; floor = same i; pairs = pairs i }

either_none : {T : Type 0} (b : Bool) (o : Option T) → o ≡ None → cond b o None ≡ None
either_none true o e = e
either_none false o e = refl

nothing_retained : {T : Type 0} (p : Stamp → Bool) → map.retain_keys (map.empty {X = T} {R = stamp_cmp}) p ≡ map.empty
nothing_retained p = same_map stamp_total stamp_exact _ _ (λ q.
    get-retain_keys map.empty p q (λ x t. ap p (sym (stamp_exact q x t))) ∙ either_none (p q) (map.get map.empty q) (get-empty stamp_cmp q) ∙ sym (get-empty stamp_cmp q))

pub tidied_empty : {T : Type 0} (floor now : ℤ) → tidied (empty_cache {T = T} floor) now ≡ empty_cache (floor_on floor now)
tidied_empty {T = T} floor now = λ i. record { failures = no_failures; floor = floor_on_empty T (floor_at floor now) floor now i; pairs = nothing_retained (is_from (floor_at floor now)) i }
