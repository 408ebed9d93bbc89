-- The terms from a service's row have its name, and their key is the one that a ticket names by encryption type and key
-- version.
use Rattle.std.proofs.Common.{◌≡◌, ℤ, pos, List, [], ◌∷◌, Option, Some, None, sym, ap, ◌∙◌}
use Rattle.std.specs.Option.{unwrap_or}
use Rattle.enctypes.specs.Etype.{number}
use Rattle.enctypes.specs.declared.key.Key.{Key}
use Rattle.krb_fields.specs.PrincipalName.{Name}
use Rattle.preauth.specs.KeyLaws.{current_found, front_found}
use Rattle.preauth.specs.Keys.{first_key, key_by, key_numbered}
use Rattle.principal_rows.specs.Versions.{current}
use Rattle.principal_rows.specs.declared.row.Row.{Row}
use Rattle.kdc_replies.specs.ServiceTerms.{current_keys, head_of, service_terms, service_terms_by}
use Rattle.kdc_replies.specs.declared.services.ServiceTerms.{ServiceTerms}
use Rattle.kdc_replies.specs.declared.tickets.ServiceKey.{ServiceKey}

-- the row's key of this encryption type and key version
abbrev pub IsFoundIn : Row → ServiceKey → Type 0
IsFoundIn row key = key_by row.versions (number key.key.etype) (Some (pos key.version)) ≡ Some key.key

front : (keys : List Key) (k : Key) → head_of keys ≡ Some k → key_numbered keys (number k.etype) ≡ Some k
front [] k e = absurd cc
front (x ∷ xs) k e =
    let same : x ≡ k = ap (λ (o : Option Key). unwrap_or o x) e in
    ap (λ (y : Key). key_numbered (y ∷ xs) (number k.etype)) same ∙ front_found k xs

found_by : (name : Name) (row : Row) (session first : Option Key) (t : ServiceTerms)
    → service_terms_by name row session first ≡ Some t
    → (name ≡ t.name) × (first ≡ Some t.key.key) × ((current row.versions).number ≡ t.key.version)
found_by name row None first t e = absurd cc
found_by name row (Some s) None t e = absurd cc
found_by name row (Some s) (Some f) t e = (
  ap (λ (o : Option ServiceTerms). (unwrap_or o t).name) e,
  ap (λ (o : Option ServiceTerms). Some (unwrap_or o t).key.key) e,
  ap (λ (o : Option ServiceTerms). (unwrap_or o t).key.version) e,
)

pub found_terms : (types : List ℤ) (name : Name) (row : Row) (t : ServiceTerms) → service_terms types name row ≡ Some t
    → (name ≡ t.name) × IsFoundIn row t.key
found_terms types name row t e =
    let found = found_by name row (first_key (current_keys row) types) (head_of (current_keys row)) t e in (
      found.0,
      ap (λ n. key_by row.versions (number t.key.key.etype) (Some (pos n))) (sym found.2)
          ∙ current_found row.versions t.key.key (front (current_keys row) t.key.key found.1),
    )
