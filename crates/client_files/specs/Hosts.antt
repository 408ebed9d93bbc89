-- What a client read of its computer.
use Rattle.std.specs.Prelude.{◌≡◌, ℕ, List, Option, Some, None}
use Rattle.std.specs.Borrow.{Bor}
use Rattle.client_files.specs.declared.host.FoundConfig.{FoundConfig}
use Rattle.client_files.specs.declared.host.FoundConfig.TheVariants.{Read, Absent, Unread}

-- the text of the krb5.conf that was read, if there is one
abbrev pub HasConfig : FoundConfig → Option (Bor (List ℕ)) → Type 0
HasConfig found (Some config) = found ≡ Read config.now
HasConfig (Read config) None = ⊥
HasConfig (Absent fault) None = Unit {0}
HasConfig (Unread fault) None = ⊥
