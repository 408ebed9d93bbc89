-- A server's own journal keeps no record of what its files hold, nor of what it was handed.
use Rattle.std.specs.Prelude.{List, Option, None}
use Rattle.kdc_files.specs.Journal.{Handed}
use Rattle.journal.specs.World.{World}

abbrev pub no_world : {F : Type 0} → F → Option World
no_world files = None

abbrev pub none_handed : {J : Type 0} → J → Option (List Handed)
none_handed journal = None
