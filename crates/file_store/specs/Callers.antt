-- Who runs a program.
use Rattle.std.specs.Prelude.{◌==◌, ℕ, Bool, List, [], ◌∷◌, Option, Some, None, bytes_eq, option_map, string_bytes}
use Rattle.std.specs.Prelude.{if◌then◌else◌}
use Rattle.std.specs.List.{after_first, before_first}
use Rattle.file_store.specs.declared.callers.Caller.{Caller}

pub record User : Type 0 where
  pub uid : Option ℕ  -- if the system says so
  pub name : Option (List ℕ)  -- in /etc/passwd
  pub sudo_uid : Option (List ℕ)  -- the variables that sudo sets: who called it
  pub sudo_user : Option (List ℕ)

abbrev pub user_of : Caller → User
user_of caller = record {
  uid = caller.uid;
  name = option_map string_bytes caller.name;
  sudo_uid = option_map string_bytes caller.sudo_uid;
  sudo_user = option_map string_bytes caller.sudo_user;
}

-- the fields of a line of /etc/passwd stand between colons: the name, a password, the number, and others
abbrev pub first_field : List ℕ → List ℕ
first_field line = before_first (λ b. b == 0x3A) line

abbrev pub other_fields : List ℕ → List ℕ
other_fields line = after_first (λ b. b == 0x3A) line

-- whether a line of /etc/passwd is that of the user whose number has these digits
abbrev pub is_line_of : List ℕ → List ℕ → Bool
is_line_of digits line = bytes_eq (first_field (other_fields (other_fields line))) digits

-- the name on the first line of the user whose number has these digits
abbrev pub name_of_user : List ℕ → List (List ℕ) → Option (List ℕ)
name_of_user digits [] = None
name_of_user digits (line ∷ lines) =
    if is_line_of digits line then Some (first_field line) else name_of_user digits lines
