-- When a task is due that is repeated after some seconds.
use Rattle.std.specs.Prelude.{ℤ, ◌-ℤ◌, int_lt, not, ◌&&◌, if◌then◌else◌, Option, Some, None}
use Rattle.krb_fields.specs.declared.moment.Moment.{Moment}

-- Given the moments at which it was done last and of the last successful poll: at the poll's moment, unless fewer
-- seconds have passed since it was done. So a clock that went back stops no task.
abbrev pub due_at : ℤ → Option Moment → Option Moment → Option Moment
due_at seconds last None = None
due_at seconds None (Some at) = Some at
due_at seconds (Some before) (Some at) =
    if not (int_lt at.sec before.sec) && int_lt (at.sec -ℤ before.sec) seconds then None else Some at
