-- The words for the faults of a change.
use Rattle.std.specs.Prelude.{ℕ, List, codes}
use Rattle.principals.specs.declared.change.ChangeFault.{ChangeFault}
use Rattle.principals.specs.declared.change.ChangeFault.TheVariants.{BadName, Exists, Protected, Absent, LastVersion}
use Rattle.principals.specs.declared.change.ChangeFault.TheVariants.{CurrentKeys, Memory}

-- a fault's word
abbrev pub fault_name : ChangeFault → List ℕ
fault_name BadName = codes "BadName"
fault_name Exists = codes "Exists"
fault_name Protected = codes "Protected"
fault_name Absent = codes "Absent"
fault_name LastVersion = codes "LastVersion"
fault_name CurrentKeys = codes "CurrentKeys"
fault_name Memory = codes "Memory"
