-- Why the bytes of a file are not taken for a database.
use Rattle.std.specs.Prelude.{◌≡◌, ◌≢◌, IsUtf8, ℕ, List, Err}
use Rattle.principals_text.specs.Value.{text_database}
use Rattle.principals_text.specs.declared.read_fault.ReadError.{ReadError}
use Rattle.principals_text.specs.declared.read_fault.ReadError.TheVariants.{NotJson, Memory}

-- They are not UTF-8, their text is wrong, or memory runs out.
abbrev pub RefusesBytes : List ℕ → ReadError → Type 0
RefusesBytes octets fault =
    (IsUtf8 octets → fault ≢ Memory → text_database octets ≡ Err fault) × (¬ (IsUtf8 octets) → fault ≡ NotJson)
