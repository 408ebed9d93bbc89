-- What is said of a start.
use Rattle.std.specs.Prelude.{◌+◌, ℤ, pos, ◌+ℤ◌, ◌-ℤ◌, int_lt, if◌then◌else◌, length, Option, Some, None}
use Rattle.krb_fields.specs.Skew.{skew}
use Rattle.journal.specs.declared.decision.Start.{Start}
use Rattle.journal.specs.declared.decision.Start.TheVariants.{Resumes, Refuses}
use Rattle.server_notices.specs.declared.started.JournalFound.{JournalFound}
use Rattle.server_notices.specs.declared.started.JournalFound.TheVariants.{Resumed, Early, Doubted}

-- The second that the files show, if that is later than a start's clock in such a way that the start refuses for longer
-- than by its clock alone.
abbrev pub shown_ahead : Option ℤ → ℤ → Option ℤ
shown_ahead None now = None
shown_ahead (Some floor) now = if int_lt (now +ℤ pos (skew + 1)) floor then Some (floor -ℤ pos (skew + 1)) else None

-- what a start in this second made of its journal
abbrev pub found_by : Start → ℤ → JournalFound
found_by (Resumes resumption (Some check)) now = Resumed (length resumption.seen)
found_by (Resumes resumption None) now = Early (length resumption.seen)
found_by (Refuses doubt floor) now = Doubted doubt (shown_ahead floor now)
