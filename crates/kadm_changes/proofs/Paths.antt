-- A path where a keytab may be written.
use Rattle.std.proofs.Common.{◌≡◌, ◌∙◌, ℕ, Bool, false, List, [], ◌∷◌, Option, Some, None}
use Rattle.std.proofs.Common.{Result, Ok, Err, ap, sym, subst, refl}
use Rattle.std.specs.Prelude.{⊤}
use Rattle.json.specs.Lex.{lex, punctuate}
use Rattle.json.specs.Word.{word, after_number}
use Rattle.json.specs.Json.{value}
use Rattle.serde_json.specs.Read.{read}
use Rattle.file_store.specs.World.{World, IsFirst, IsThere, first_octet}
use Rattle.principals.specs.Database.{Principals}
use Rattle.principals_text.specs.Value.{database_or, text_database}
use Rattle.principals_text.specs.declared.read_fault.ReadError.{ReadError}
use Rattle.kadm_changes.specs.Keytabs.{IsFreePath, IsKeytabStart, IsNoDatabase, lock_of}

-- no JSON begins with the first byte of a keytab
no_json : (octets : List ℕ) → read (5 ∷ octets) ≡ None
unfolding lex punctuate value word after_number
no_json octets = refl

nothing_is_no_json : read [] ≡ None
unfolding lex punctuate value
nothing_is_no_json = refl

abbrev is_err : Result Principals ReadError → Type 0
is_err (Ok p) = ⊥
is_err (Err fault) = ⊤

refused : (text : List ℕ) (p : Principals) → read text ≡ None → text_database text ≡ Ok p → ⊥
refused text p none is = subst is_err (sym (ap database_or none) ∙ is) tt

-- a file that begins with it, or is empty, is no database
pub no_database : (world : Option World) (path : List ℕ) (octet : Option ℕ) → IsFirst world path octet → IsKeytabStart octet → IsNoDatabase world path
no_database None path octet first five = tt
no_database (Some held) path octet first five = λ text p has is. at text p is (subst IsKeytabStart (first ∙ ap first_octet has) five)
  where
    at : (text : List ℕ) (p : Principals) → text_database text ≡ Ok p → IsKeytabStart (first_octet (Some text)) → ⊥
    at [] p is five = refused [] p nothing_is_no_json is
    at (octet ∷ octets) p is five = refused (5 ∷ octets) p (no_json octets) (subst (λ o. text_database (o ∷ octets) ≡ Ok p) five is)

pub free_path : (before asked : Option World) (path : List ℕ) (found : Bool) (octet : Option ℕ) → asked ≡ before
    → ((other : List ℕ) → path ≡ lock_of other → ⊥) → IsThere before (lock_of path) found → found ≡ false → IsFirst asked path octet
    → IsKeytabStart octet → IsFreePath before path
free_path before asked path found octet kept other there none first five = record {
  no_database = no_database before path octet (subst (λ world. IsFirst world path octet) kept first) five;
  no_lock = other;
  alone = subst (IsThere before (lock_of path)) none there;
}
