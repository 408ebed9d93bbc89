-- The lock for clients that fail to show their key.
use Rattle.std.specs.Prelude.{ℕ, ℤ, pos, ◌+◌, ◌+ℤ◌, Bool, not, ◌&&◌, ◌==◌, nat_le, int_lt, min, if◌then◌else◌}
use Rattle.krb_fields.specs.declared.moment.Moment.{Moment}
use Rattle.replay.specs.declared.failures.Failures.{Failures}
use Rattle.principal_rows.specs.declared.limits.Limits.{Limits}

-- the failures for a key version: those of another version don't count
abbrev pub counted_for : Failures → ℕ → Failures
counted_for failures version = record {
  count = if failures.version == version then failures.count else 0;
  last = failures.last;
  version = version;
}

-- enough failures, and the last less than lock_seconds ago; a lock_after of 0 locks nobody
abbrev pub is_locked : Failures → Limits → ℤ → Bool
is_locked failures limits now =
    not (limits.lock_after == 0) && nat_le limits.lock_after failures.count
    && int_lt now (failures.last.sec +ℤ pos limits.lock_seconds)

-- one more failure for that key version, up to the maximum count
abbrev pub after_failure : Failures → Moment → Failures
after_failure failures at =
    record { count = min (failures.count + 1) 4294967295; last = at; version = failures.version }

-- the count starts anew, for no key version; the time of the last failure stays
abbrev pub after_success : Failures → Failures
after_success failures = record { count = 0; last = failures.last; version = 0 }
