-- What keeps everybody in a realm from logging in, by the policy of krbtgt/REALM.
use Rattle.std.specs.Prelude.{◌≡◌, ◌<◌, ◌≤ℤ◌, ◌<ℤ◌, ℕ, ℤ, pos, Bool, true, false, Option, Some, None, IfSome, List}
use Rattle.std.specs.Prelude.{option_map, unwrap_or, Result, Ok, Err, ⊤}
use Rattle.std.specs.FinMap.{get}
use Rattle.krb_fields.specs.Granting.{tgs_principal}
use Rattle.krb_fields.specs.Name.{Components}
use Rattle.principal_rows.specs.Policy.{default_policy}
use Rattle.principal_rows.specs.declared.policy.Policy.{Policy}
use Rattle.principals.specs.Database.{Principals}
use Rattle.principals_text.specs.Value.{text_database}
use Rattle.principals_text.specs.declared.read_fault.ReadError.{ReadError}
use Rattle.file_store.specs.World.{World}
use Rattle.kadm_changes.specs.declared.updates.RowUpdate.{RowUpdate}
use Rattle.kadm_changes.specs.declared.updates.RowUpdate.TheVariants as rows

-- the policy of krbtgt/REALM, which each database has
abbrev pub tgs_policy : Principals → Policy
tgs_policy p = unwrap_or (option_map (λ row. row.policy) (get p.rows (tgs_principal p.realm))) default_policy

-- what expires then is past at a second, or is this second
abbrev pub IsGone : ℕ → Option ℤ → Type 0
IsGone now None = ⊥
IsGone now (Some expires) = expires ≤ℤ pos now

-- what expires then is still to come
abbrev pub IsAhead : ℕ → Option ℤ → Type 0
IsAhead now None = ⊤
IsAhead now (Some expires) = pos now <ℤ expires

-- the second policy of krbtgt/REALM keeps nobody out whom the first let in: it is disabled, denied as a service,
-- expired, or has tickets of less than five minutes only if the first was, or had
pub record IsAsOpen (now : ℕ) (old new : Policy) : Type 0 where
  pub enabled : new.disabled ≡ true → old.disabled ≡ true
  pub served : new.service ≡ false → old.service ≡ false
  pub lasting : IsGone now new.expires → IsGone now old.expires
  pub long : new.greatest_life < 300 → old.greatest_life < 300

-- the same at the clock's second, unless a command may change the whole realm
abbrev pub KeepsRealm : Bool → Option World → Policy → Policy → Type 0
KeepsRealm whole world old new = whole ≡ false → IfSome world (λ held. IsAsOpen held.now old new)

-- a principal is not krbtgt/REALM
unfoldable pub IsOther : List ℕ → Components → Type 0
IsOther realm who = who ≡ tgs_principal realm → ⊥

-- a principal may have the keys of a password: it is not krbtgt/REALM, unless a command may change the whole realm
abbrev pub MayHavePassword : Bool → List ℕ → Components → Type 0
MayHavePassword whole realm who = whole ≡ false → IsOther realm who

-- the same for a change of a row: `passwd` and `add` take a password; a keytab of the next keys has rules of its own
abbrev pub MayHaveKeys : Bool → List ℕ → Components → RowUpdate → Type 0
MayHaveKeys whole realm who (rows.Password to) = MayHavePassword whole realm who
MayHaveKeys whole realm who (rows.Random to) = ⊤
MayHaveKeys whole realm who (rows.Staged keytab) = ⊤
MayHaveKeys whole realm who (rows.Import keytab) = ⊤

-- ---- the files

abbrev pub found_policy : Result Principals ReadError → Policy
found_policy (Ok p) = tgs_policy p
found_policy (Err fault) = default_policy

-- the policy of krbtgt/REALM in the text of a database; without a database it is that of a new realm
abbrev pub text_policy : Option (List ℕ) → Policy
text_policy (Some text) = found_policy (text_database text)
text_policy None = default_policy

-- the realm of the database at a path is as open as before; without a database there before, as open as a new realm
abbrev pub StaysOpen : List ℕ → Option World → Option World → Type 0
StaysOpen db before (Some after) =
    IfSome before (λ held. IsAsOpen held.now (text_policy (held.files db)) (text_policy (after.files db)))
StaysOpen db before None = ⊤
