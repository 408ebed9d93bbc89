-- When a change lets krbtgt/REALM expire, and which times are past.
use Rattle.std.proofs.Common.{◌≡◌, ◌<◌, ◌≤ℤ◌, ℕ, ℤ, pos, true, false, Option, Some, None, IfSome, subst, sym}
use Rattle.file_store.specs.World.{IsNow, World}
use Rattle.kadm_changes.specs.Asking.{IsFrom}
use Rattle.principal_rows.specs.declared.policy.Policy.{Policy}
use Rattle.kadm_changes.specs.Realm.{IsAsOpen, IsGone}

-- each way in which the policy of krbtgt/REALM keeps everybody out
pub open_by : (world : Option World) (old new : Policy) → (new.service ≡ false → old.service ≡ false) → (new.disabled ≡ true → old.disabled ≡ true)
    → (new.greatest_life < 300 → old.greatest_life < 300) → IfSome world (λ held. IsGone held.now new.expires → IsGone held.now old.expires)
    → IfSome world (λ held. IsAsOpen held.now old new)
open_by None old new served enabled long lasting = tt
open_by (Some held) old new served enabled long lasting =
    record { enabled = enabled; served = served; lasting = lasting; long = long }

-- what never expires is not past
pub never_gone : (world : Option World) (new old : Option ℤ) → new ≡ None → IfSome world (λ held. IsGone held.now new → IsGone held.now old)
never_gone None new old none = tt
never_gone (Some held) new old none = λ gone. absurd (subst (IsGone held.now) none gone)

-- ---- times that are asked for

pub never_before : (world : Option World) (expires : Option ℤ) → expires ≡ None → IfSome world (λ held. IsFrom held.now expires)
never_before None expires none = tt
never_before (Some held) expires none = subst (IsFrom held.now) (sym none) tt

pub from_now : (world : Option World) (now : ℕ) (expires : Option ℤ) (second : ℤ) → expires ≡ Some second → IsNow world now → pos now ≤ℤ second
    → IfSome world (λ held. IsFrom held.now expires)
from_now None now expires second some is from = tt
from_now (Some held) now expires second some is from =
    subst (IsFrom held.now) (sym some) (subst (λ n. pos n ≤ℤ second) is from)
