-- Usages of keys that RFC 4120, section 7.5.1, reserves for applications.
use Rattle.std.specs.Prelude.{ℕ, ◌≤◌}

pub record IsApplicationUsage (number : ℕ) : Type 0 where
  pub least : 1024 ≤ number
  pub most : number ≤ 2047
