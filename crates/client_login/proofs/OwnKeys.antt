-- The keys that are found are keys of the client.
use Rattle.std.proofs.Common.{◌≡◌, ℤ, ℕ, List, [], ◌∷◌, Option, Some, None, false, Result, Ok, Err, refl, sym, subst, ap}
use Rattle.std.proofs.Common.{◌∙◌}
use Rattle.std.specs.Prelude.{IfErr, IfOk}
use Rattle.client_core.specs.Passwords as passwords
use Rattle.cred_files.specs.declared.keytab_entry.KeytabEntry.{KeytabEntry}
use Rattle.enctypes.specs.declared.key.Key.{Key}
use Rattle.krb_fields.specs.Name.{Components}
use Rattle.krb_fields.specs.PrincipalName.{Name}
use Rattle.krb_types.specs.EtypeInfo2Entry.{EtypeInfo2Entry}
use Rattle.client_login.specs.Keys.{IsKeytabKey, IsPasswordKey, is_weak, key_named, key_numbered, or_later}
use Rattle.client_login.specs.Faults.{IsNoKeytabKey}
use Rattle.client_login.specs.Infos.{default_info}
use Rattle.client_login.specs.declared.faults.LoginError.{LoginError}
use Rattle.client_login.specs.declared.faults.LoginError.TheVariants as says
use Rattle.client_login.specs.declared.secrets.Password.{Password}

held_at : (keytab : List KeytabEntry) (who : Components) (number : ℤ) (key : Key)
    → Some key ≡ key_numbered keytab who number → IsKeytabKey keytab who key
held_at keytab who number key e = record { number = number; held = sym e }

pub numbered_held : (keytab : List KeytabEntry) (who : Components) (number : ℤ) (found : Result Key LoginError)
    → IfOk found (λ key. Some key ≡ key_numbered keytab who number)
    → IfOk found (λ key. IsKeytabKey keytab who key)
numbered_held keytab who number (Ok key) e = held_at keytab who number key e
numbered_held keytab who number (Err why) e = tt

named : (keytab : List KeytabEntry) (who : Components) (info : List EtypeInfo2Entry) (key : Key)
    → Some key ≡ key_named keytab who info → IsKeytabKey keytab who key
named keytab who [] key e = absurd cc
named keytab who (entry ∷ entries) key e =
    by_first (named keytab who entries key) (key_numbered keytab who entry.etype) refl e
  where
    by_first : (Some key ≡ key_named keytab who entries → IsKeytabKey keytab who key)
        → (first : Option Key) → key_numbered keytab who entry.etype ≡ first
        → Some key ≡ or_later first (key_named keytab who entries) → IsKeytabKey keytab who key
    by_first later (Some other) is e = held_at keytab who entry.etype key (e ∙ sym is)
    by_first later None is e = later e

pub named_held : (keytab : List KeytabEntry) (who : Components) (info : List EtypeInfo2Entry) (found : Result Key LoginError)
    → IfOk found (λ key. Some key ≡ key_named keytab who info)
    → IfOk found (λ key. IsKeytabKey keytab who key)
named_held keytab who info (Ok key) e = named keytab who info key e
named_held keytab who info (Err why) e = tt

pub strong_key : (password : Password) (realm : List ℕ) (name : Name) (info : List EtypeInfo2Entry)
    (found : Result Key LoginError) → is_weak password.least_count info ≡ false
    → IfOk found (λ key. Ok key ≡ passwords.password_key password.octets realm name info)
    → IfOk found (λ key. IsPasswordKey password realm name key)
strong_key password realm name info (Ok key) strong e = record { info = info; made = sym e; strong = strong }
strong_key password realm name info (Err why) strong e = tt

-- ---- and if none is found, there is none

pub unnumbered : (keytab : List KeytabEntry) (who : Components) (number : ℤ) (found : Result Key LoginError)
    → IfErr found (λ why. (key_numbered keytab who number ≡ None) × (why ≡ says.NoKey))
    → IfErr found (λ why. IsNoKeytabKey keytab who (default_info number) why)
unnumbered keytab who number (Ok key) e = tt
unnumbered keytab who number (Err why) e =
    subst (λ (why : LoginError). IsNoKeytabKey keytab who (default_info number) why) (sym e.1)
    (ap (λ (first : Option Key). or_later first None) e.0)

pub unnamed : (keytab : List KeytabEntry) (who : Components) (info : List EtypeInfo2Entry) (found : Result Key LoginError)
    → IfErr found (λ why. (key_named keytab who info ≡ None) × (why ≡ says.NoKey))
    → IfErr found (λ why. IsNoKeytabKey keytab who info why)
unnamed keytab who info (Ok key) e = tt
unnamed keytab who info (Err why) e = subst (λ (why : LoginError). IsNoKeytabKey keytab who info why) (sym e.1) e.0
