-- What the commands that only print have read.
use Rattle.std.specs.Prelude.{◌≡◌, true, List, All, Option, Some, None, ⊤}
use Rattle.std.specs.FinMap.{get}
use Rattle.krb_fields.specs.Name.{Components}
use Rattle.krb_fields.specs.NameText.{IsNameText}
use Rattle.principal_rows.specs.declared.row.Row.{Row}
use Rattle.file_store.specs.World.{World}
use Rattle.principals.specs.Database.{Principals}
use Rattle.kadm_changes.specs.Texts.{Text, path_of}
use Rattle.kadm_changes.specs.Worlds.{HoldsDatabase}
use Rattle.kadm.specs.declared.printing.PrintCommand.{PrintCommand}
use Rattle.kadm.specs.declared.printing.PrintCommand.TheVariants as prints
use Rattle.command_line.specs.declared.status.Status.{Status}
use Rattle.command_line.specs.declared.status.Status.TheVariants as statuses

-- the path has the text of a database
abbrev pub HasDatabase : Option World → Text → Type 0
HasDatabase world db = (p : Principals) × HoldsDatabase world db p

-- the database has the principal that a text names
abbrev pub HasRow : Principals → Text → Type 0
HasRow p name = (who : Components) × (row : Row) × IsNameText who name × (get p.rows who ≡ Some row)

-- the database has all the principals that are to be shown by their names
abbrev pub AreThere : Option Text → List Text → Principals → Type 0
AreThere None names p = All (HasRow p) names
AreThere (Some pattern) names p = ⊤

-- the same for a command that prints: only `show` takes names
abbrev pub HasPrinted : PrintCommand → List Text → Principals → Type 0
HasPrinted (prints.List list) names p = ⊤
HasPrinted (prints.Lint lint) names p = ⊤
HasPrinted (prints.Show show) names p = AreThere (path_of show.like) names p
HasPrinted prints.Check names p = ⊤

-- what is printed is of the database at a path
abbrev pub IsPrintedOf : Option World → Text → List Text → PrintCommand → Type 0
IsPrintedOf world db names print = (p : Principals) × HoldsDatabase world db p × HasPrinted print names p

-- the status of a command that prints: only `lint --check` says by it what it found
abbrev pub IsPrinted : Status → PrintCommand → Type 0
IsPrinted statuses.Done print = Unit {0}
IsPrinted statuses.Refused (prints.Lint lint) = lint.check ≡ true
IsPrinted statuses.Refused (prints.List list) = ⊥
IsPrinted statuses.Refused (prints.Show show) = ⊥
IsPrinted statuses.Refused prints.Check = ⊥
IsPrinted statuses.Usage print = ⊥
IsPrinted statuses.Failed print = ⊥
