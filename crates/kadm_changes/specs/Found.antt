-- The file of a password that was read before the database was locked.
use Rattle.std.specs.Prelude.{◌≡◌, List, ℕ, Option, IfSome, string_bytes, ⊤}
use Rattle.std.specs.Borrow.{Bor}
use Rattle.file_store.specs.World.{World, HasFirstLine}
use Rattle.kadm_changes.specs.declared.passwords.FoundLine.{FoundLine}
use Rattle.kadm_changes.specs.declared.passwords.FoundLine.TheVariants.{Password, TooLong, Fault}
use Rattle.kadm_changes.specs.declared.passwords.FoundPassword.{FoundPassword}

-- a password that was found is the first line of the file
abbrev pub IsFoundLine : Option World → List ℕ → FoundLine → Type 0
IsFoundLine world path (Password pass) = HasFirstLine world path pass.items
IsFoundLine world path TooLong = ⊤
IsFoundLine world path (Fault cause) = ⊤

abbrev pub IsFound : Option World → FoundPassword → Type 0
IsFound world found = IsFoundLine world (string_bytes found.path) found.line

abbrev pub IsFoundIn : Option World → Option (Bor FoundPassword) → Type 0
IsFoundIn world found = IfSome found (λ held. IsFound world held.now)

-- the line has this password
abbrev pub HasPassword : FoundLine → List ℕ → Type 0
HasPassword (Password found) pass = pass ≡ found.items
HasPassword TooLong pass = ⊥
HasPassword (Fault cause) pass = ⊥
