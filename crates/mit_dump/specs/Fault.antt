-- What an error of a dump says.
use Rattle.std.specs.Prelude.{Bool, true, false}
use Rattle.mit_dump.specs.declared.fault.Cause.{Cause}
use Rattle.mit_dump.specs.declared.fault.Cause.TheVariants.{Header, Word, Count, Number, Name, Octets, Cut}
use Rattle.mit_dump.specs.declared.fault.Cause.TheVariants.{NoMaster, NotOpened, Memory}
use Rattle.mit_dump.specs.declared.fault.DumpError.{DumpError}

abbrev pub ran_out : Cause → Bool
ran_out Header = false
ran_out Word = false
ran_out Count = false
ran_out Number = false
ran_out Name = false
ran_out Octets = false
ran_out Cut = false
ran_out NoMaster = false
ran_out NotOpened = false
ran_out Memory = true

-- memory ran out
abbrev pub is_memory : DumpError → Bool
is_memory error = ran_out error.cause
