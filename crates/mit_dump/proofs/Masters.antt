-- One more entry of a stash file, in front of those behind it.
use Rattle.std.proofs.Common.{◌≡◌, ◌∙◌, ◌<◌, ◌≤◌, ◌∷◌, ℕ, suc, true, false, List, length, drop, get_or, ap, Option, Some, None, refl}
use Rattle.cred_files.specs.declared.keytab_entry.KeytabEntry.{KeytabEntry}
use Rattle.krb_fields.specs.Name.{Components}
use Rattle.mit_dump.specs.Master.{first_master, lower, may_encrypt}
use Rattle.mit_dump.proofs.Lists.{here_is, none_left}

pub none_yet : (s : Components) (version : Option ℕ) (es : List KeytabEntry) (i : ℕ) → length es ≤ i → first_master s version (drop i es) ≡ None
none_yet s version es i le = ap (first_master s version) (none_left es i le)

pub found_here : (s : Components) (version : Option ℕ) (es : List KeytabEntry) (i j : ℕ) (e : KeytabEntry) (later : Option KeytabEntry) → j ≡ suc i → e ≡ get_or es i e
    → i < length es → may_encrypt s version e ≡ true → first_master s version (drop j es) ≡ later → first_master s version (drop i es) ≡ Some (lower e later)
found_here s version es i j e later next is lt pass so_far =
    ap (first_master s version) (here_is es i j e next is lt) ∙ rw pass (ap (λ (l : Option KeytabEntry). some (lower e l)) so_far)
  where
    some : KeytabEntry → Option KeytabEntry
    some x = Some x

pub not_here : (s : Components) (version : Option ℕ) (es : List KeytabEntry) (i j : ℕ) (e : KeytabEntry) (later : Option KeytabEntry) → j ≡ suc i → e ≡ get_or es i e
    → i < length es → may_encrypt s version e ≡ false → first_master s version (drop j es) ≡ later → first_master s version (drop i es) ≡ later
not_here s version es i j e later next is lt fail so_far =
    ap (first_master s version) (here_is es i j e next is lt) ∙ rw fail so_far
