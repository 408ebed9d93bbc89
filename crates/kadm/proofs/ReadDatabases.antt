-- The database that a command that prints has read.
use Rattle.std.proofs.Common.{◌≡◌, IfOk, List, OnOk, Option, Result, Ok, Err, subst, sym}
use Rattle.file_store.specs.World.{World}
use Rattle.principals.specs.Database.{Principals}
use Rattle.kadm_changes.specs.Texts.{Text, path_of}
use Rattle.kadm_changes.specs.Worlds.{HoldsDatabase}
use Rattle.kadm.specs.Printed.{AreThere, HasDatabase, IsPrintedOf}
use Rattle.kadm.specs.declared.linting.LintArgs.{LintArgs}
use Rattle.kadm.specs.declared.listing.ListArgs.{ListArgs}
use Rattle.kadm.specs.declared.printing.PrintCommand.{PrintCommand}
use Rattle.kadm.specs.declared.printing.PrintCommand.TheVariants as prints
use Rattle.kadm.specs.declared.showing.ShowArgs.{ShowArgs}

-- however the printing ends
pub has_printed : {A E : Type 0} (r : Result A E) (world : Option World) (db : Text) (p : Principals) → HoldsDatabase world db p
    → OnOk r (HasDatabase world db)
has_printed (Ok x) world db p holds = (p, holds)
has_printed (Err e) world db p holds = tt

pub has_found : {A E : Type 0} (r : Result A E) (world : Option World) (db : Text) (p : Principals) → HoldsDatabase world db p
    → IfOk r (λ found. HasDatabase world db)
has_found (Ok x) world db p holds = (p, holds)
has_found (Err e) world db p holds = tt

pub has_shown : {A E : Type 0} (r : Result A E) (world : Option World) (db : Text) (like : Option Text) (names : List Text) (p : Principals) → HoldsDatabase world db p
    → AreThere like names p → OnOk r ((q : Principals) × HoldsDatabase world db q × AreThere like names q)
has_shown (Ok x) world db like names p holds there = (p, holds, there)
has_shown (Err e) world db like names p holds there = tt

-- ---- each command

pub list_printed : (world : Option World) (db : Text) (names : List Text) (list : ListArgs) (print : PrintCommand) → print ≡ prints.List list
    → HasDatabase world db → IsPrintedOf world db names print
list_printed world db names list print is (p, holds) = subst (IsPrintedOf world db names) (sym is) (p, holds, tt)

pub lint_printed : (world : Option World) (db : Text) (names : List Text) (lint : LintArgs) (print : PrintCommand) → print ≡ prints.Lint lint
    → HasDatabase world db → IsPrintedOf world db names print
lint_printed world db names lint print is (p, holds) = subst (IsPrintedOf world db names) (sym is) (p, holds, tt)

pub check_printed : (world : Option World) (db : Text) (names : List Text) (print : PrintCommand) → print ≡ prints.Check
    → HasDatabase world db → IsPrintedOf world db names print
check_printed world db names print is (p, holds) = subst (IsPrintedOf world db names) (sym is) (p, holds, tt)

pub show_printed : (world : Option World) (db : Text) (names : List Text) (show : ShowArgs) (print : PrintCommand) → print ≡ prints.Show show
    → (p : Principals) × HoldsDatabase world db p × AreThere (path_of show.like) names p → IsPrintedOf world db names print
show_printed world db names show print is (p, holds, there) = subst (IsPrintedOf world db names) (sym is) (p, holds, there)
