-- The effect of a command, from the effects of its calls.
use Rattle.std.proofs.Common.{◌≡◌, ◌∙◌, ℕ, List, [], ◌∷◌, ◌++◌, Bool, true, false, Option, Some, None, Result, Ok}
use Rattle.std.proofs.Common.{Err, OnOk, IfSome, MatchResult, flat_map, take, drop, option_map, ap, subst}
use Rattle.std.proofs.Common.{refl, inl, inr}
use Rattle.std.specs.Prelude.{⊤}
use Rattle.enctypes.specs.declared.etype.Etype.{Etype}
use Rattle.file_store.specs.Input.{Input}
use Rattle.file_store.specs.World.{World, with_file}
use Rattle.cred_files.specs.Keytab.{part_text}
use Rattle.krb_fields.specs.Name.{Components}
use Rattle.krb_fields.specs.PrincipalName.{Name}
use Rattle.krb_fields.specs.NameText.{IsNameText}
use Rattle.principal_rows.specs.Versions.{current}
use Rattle.principal_rows.specs.declared.row.KeyVersion.{KeyVersion}
use Rattle.principals.specs.Change.{row_changed, row_refusal}
use Rattle.principals.specs.Database.{Principals}
use Rattle.principals.specs.Importing.{import_refusal, imported}
use Rattle.principals.specs.declared.change.ChangeFault.{ChangeFault}
use Rattle.principals.specs.declared.change.RowChange.{RowChange}
use Rattle.kadm_changes.specs.Granting.{Makes}
use Rattle.kadm_changes.specs.Importing.{Imports}
use Rattle.kadm_changes.specs.Keytabs.{IsBehind, IsFreePath, IsFront, IsKeytabFor, IsNewKeytab, IsOldKeytab, all_entries, appends}
use Rattle.kadm_changes.specs.Updates.{AreKept, IsRowKept, IsRowUpdated, IsSecretOf}
use Rattle.kadm_changes.specs.Asking.{all_asked}
use Rattle.kadm_changes.specs.Worlds.{HoldsDatabase, Rewritten, WroteKeytab, with_database}
use Rattle.kadm_changes.specs.declared.keytabs.KeytabArgs.{KeytabArgs}
use Rattle.kadm_changes.specs.declared.changes.ChangeArgs.{ChangeArgs}
use Rattle.kadm_changes.specs.declared.target.Target.{Target}
use Rattle.kadm_changes.specs.declared.updates.RowArgs.{RowArgs}

-- ---- a change of a row

-- if a change was made, no rule refuses it
unrefused : {T : Type 0} (refusal : Option ChangeFault) (x : T) → IfSome refusal (λ fault. Ok x ≡ Err fault) → refusal ≡ None
unrefused None x refused = refl
unrefused (Some fault) x refused = absurd (subst (λ r. MatchResult r (λ _. ⊤) (λ _. ⊥)) refused tt)

pub made_by : {T : Type 0} (r : Result T ChangeFault) (p new : Principals) (who : Components) (what : RowChange)
    → OnOk r (new ≡ row_changed p who what) → IfSome (row_refusal p who what) (λ fault. r ≡ Err fault) → OnOk r (Makes p who what new)
made_by (Ok x) p new who what made refused = record { allowed = unrefused (row_refusal p who what) x refused; made = made }
made_by (Err fault) p new who what made refused = tt

pub imports_by : {T : Type 0} (r : Result T ChangeFault) (p new : Principals) (who : Components) (versions : List KeyVersion)
    → OnOk r (new ≡ imported p who versions) → IfSome (import_refusal p who) (λ fault. r ≡ Err fault) → OnOk r (Imports p who versions new)
imports_by (Ok x) p new who versions made refused = record { allowed = unrefused (import_refusal p who) x refused; made = made }
imports_by (Err fault) p new who versions made refused = tt

-- ---- changes of a database that was read

-- the change of a row, whose password was read before
pub row_updated : (before changing : Option World) (input : Option Input) (whole : Bool) (target : Target) (given : List Etype) (to : RowArgs) (who : Components) (pass octets : List ℕ) (p q : Principals)
    → changing ≡ before → given ≡ target.etypes.items → octets ≡ pass → IsNameText who to.name.now → IsSecretOf before input to.how pass
    → IsRowKept changing whole given (all_asked target.settings.items) octets to.how who p q → IsRowUpdated before input whole target to p q
row_updated before changing input whole target given to who pass octets p q kept types taken spelled secret change = record {
  who = who;
  spelled = spelled;
  pass = pass;
  secret = secret;
  changed = subst (λ world. IsRowKept world whole target.etypes.items (all_asked target.settings.items) pass to.how who p q) kept
      (subst (λ read. IsRowKept changing whole target.etypes.items (all_asked target.settings.items) read to.how who p q) taken
      (subst (λ ordered. IsRowKept changing whole ordered (all_asked target.settings.items) octets to.how who p q) types change));
}

-- the changes of all principals that are named
pub rows_changed : (before changing : Option World) (whole : Bool) (target : Target) (how : ChangeArgs) (p q : Principals)
    → changing ≡ before → AreKept changing whole target how p q → AreKept before whole target how p q
rows_changed before changing whole target how p q kept change = subst (λ world. AreKept world whole target how p q) kept change

-- ---- keytabs

pub wrote_keytab : {T E : Type 0} (r : Result T E) (before locked opened checked filled after : Option World) (db : List ℕ) (to : KeytabArgs) (who : Components) (p : Principals) (octets : List ℕ)
    → locked ≡ before → opened ≡ locked → checked ≡ opened → filled ≡ checked → IsNameText who to.name.now → HoldsDatabase locked db p
    → IsFreePath opened to.out.now
    → IsKeytabFor checked to who p octets → OnOk r (after ≡ option_map (with_file to.out.now octets) filled) → OnOk r (WroteKeytab before db to after)
wrote_keytab (Ok x) before locked opened checked filled after db to who p octets first kept same still spelled read free holds written = record {
  who = who;
  spelled = spelled;
  old = p;
  read = subst (λ world. HoldsDatabase world db p) first read;
  free = subst (λ world. IsFreePath world to.out.now) (kept ∙ first) free;
  octets = octets;
  holds = subst (λ world. IsKeytabFor world to who p octets) (same ∙ kept ∙ first) holds;
  written = written ∙ ap (λ world. option_map (with_file to.out.now octets) world) (still ∙ same ∙ kept ∙ first);
}
wrote_keytab (Err e) before locked opened checked filled after db to who p octets first kept same still spelled read free holds written = tt

-- what comes before the new entries: the content of an old keytab that is appended to, or none
front : (world : Option World) (append : Bool) (path : List ℕ) (old : Option (List ℕ)) (new entries all : List ℕ)
    → IsOldKeytab world append path old → new ≡ 5 ∷ 2 ∷ entries → IsBehind old new all
    → (first : List ℕ) × IsFront world append path first × (all ≡ first ++ entries)
front world true path (Some kept) new entries all (is, ours, old, read, keeps) text behind =
    (kept, inr (ours, old, read, keeps), behind ∙ ap (λ octets. kept ++ drop 2 octets) text)
front world false path (Some kept) new entries all (is, ours, old, read, keeps) text behind = absurd (subst (λ b. cond_type b) is tt)
  where
    cond_type : Bool → Type 0
    cond_type false = ⊤
    cond_type true = ⊥
front world true path None new entries all free text same = (5 ∷ 2 ∷ [], inl (free, refl), same ∙ text)
front world false path None new entries all free text same = (5 ∷ 2 ∷ [], refl, same ∙ text)

pub keytab_for : (before world : Option World) (to : KeytabArgs) (append : Bool) (name : Name) (p : Principals) (old : Option (List ℕ)) (new all : List ℕ)
    → world ≡ before → append ≡ appends to.content → IsOldKeytab before append to.out.now old → IsNewKeytab world to.content p name new
    → IsBehind old new all → IsKeytabFor before to name.components p all
keytab_for before world to append name p old new all same way was made behind =
    let (row, found, versions, given, text) = subst (λ w. IsNewKeytab w to.content p name new) same made in
    let first = front before (appends to.content) to.out.now old new (flat_map part_text (all_entries p.realm name versions)) all
    (subst (λ b. IsOldKeytab before b to.out.now old) way was) text behind in
    record { row = row; found = found; versions = versions; given = given; name = name; named = refl; front = first.0; starts = first.1; holds = first.2 }
