-- The keys of a service's row for the encryption types that a request asks for.
use Rattle.std.specs.Prelude.{ℤ, List, [], ◌∷◌, Option, Some, None}
use Rattle.enctypes.specs.declared.key.Key.{Key}
use Rattle.krb_fields.specs.PrincipalName.{Name}
use Rattle.preauth.specs.Keys.{first_key}
use Rattle.principal_rows.specs.Versions.{current}
use Rattle.principal_rows.specs.declared.row.Row.{Row}
use Rattle.kdc_replies.specs.declared.services.ServiceTerms.{ServiceTerms}

abbrev pub current_keys : Row → List Key
current_keys row = (current row.versions).keys

abbrev pub head_of : {A : Type 0} → List A → Option A
head_of [] = None
head_of (x ∷ xs) = Some x

-- The session key's encryption type is the first requested one for which the service has a key. The ticket is encrypted
-- with the service's first current key.
abbrev pub service_terms_by : Name → Row → Option Key → Option Key → Option ServiceTerms
service_terms_by name row (Some session) (Some first) = Some (record {
  name = name;
  policy = row.policy;
  session_type = session.etype;
  key = record { key = first; version = (current row.versions).number };
})
service_terms_by name row (Some session) None = None
service_terms_by name row None first = None

abbrev pub service_terms : List ℤ → Name → Row → Option ServiceTerms
service_terms types name row =
    service_terms_by name row (first_key (current_keys row) types) (head_of (current_keys row))
