-- The bytes of a saved acceptor: its floors, and the authenticators that its replay caches have. All numbers are
-- big-endian. How the bytes are read is defined here; those that are written for a value are read as that value.
use Rattle.std.specs.Prelude.{◌≡◌, ◌++◌, ◌==◌, ℕ, ℤ, ⊤, List, [], ◌∷◌, take, Option, Some, None, Result, Ok, Err}
use Rattle.std.specs.Prelude.{if◌then◌else◌, option_map}
use Rattle.std.specs.FinMap as map
use Rattle.std.specs.Str.{bytes_eq}
use Rattle.sha2.specs.Sha256.{sha256}
use Rattle.cred_files.specs.Form.{◌>>=◌, part, several}
use Rattle.cred_files.specs.Format.{signed32, word32}
use Rattle.cred_files.specs.Wide.{signed64, word64}
use Rattle.cred_files.specs.declared.fault.CredError.{CredError}
use Rattle.cred_files.specs.declared.fault.CredError.TheVariants.{BadMagic, Truncated, Memory}
use Rattle.cred_files.specs.declared.keytab_entry.KeytabEntry.{KeytabEntry}
use Rattle.krb_fields.specs.PrincipalName.{Name}
use Rattle.principal_rows.specs.NameMap.{pairs}
use Rattle.principal_rows.specs.declared.name_map.Entry.{Entry}
use Rattle.replay.specs.Stamp.{Stamp}
use Rattle.replay.specs.declared.cache.ReplayCache.{ReplayCache}
use Rattle.ap_accept.specs.Stamps.{cache_with}
use Rattle.ap_accept.specs.declared.clients.Clients.{Clients}
use Rattle.ap_accept.specs.declared.options.AcceptorOptions.{AcceptorOptions}
use Rattle.ap_accept.specs.declared.saving.Held.{Held}
use Rattle.ap_accept.specs.declared.state.State.{State}

-- ---- numbers, bytes and lists

-- the value at the front of bytes and what is left, or none if they end before it does
abbrev pub Reading : Type 0 → Type 0
Reading A = List ℕ → Option (A × List ℕ)

abbrev pub word : Reading ℕ
word = word64

-- seconds since 1970, in two's complement
abbrev pub second : Reading ℤ
second = signed64

-- bytes after their number
abbrev pub octets : Reading (List ℕ)
octets bytes = word bytes >>= λ n. part n.0 n.1

-- values after their number
abbrev pub list : {A : Type 0} → Reading A → Reading (List A)
list at bytes = word bytes >>= λ n. several at n.0 n.1

-- a value, followed by another
abbrev pub both : {A B : Type 0} → Reading A → Reading B → Reading (A × B)
both f g bytes = f bytes >>= λ x. g x.1 >>= λ y. Some ((x.0, y.0), y.1)

-- a value made from another
abbrev pub made : {A B : Type 0} → (A → B) → Reading A → Reading B
made to f bytes = f bytes >>= λ x. Some (to x.0, x.1)

-- ---- names, replay caches and their clients

-- the ctime and the cusec of an authenticator
abbrev pub stamp : Reading Stamp
stamp = both second word32.form.at

abbrev pub name : Reading Name
name = made (λ v. record { name_type = v.0; components = v.1 }) (both signed32.form.at (list octets))

abbrev pub entry : {V : Type 0} → Reading V → Reading (Entry V)
entry value = made (λ v. record { name = v.0; value = v.1 }) (both name value)

abbrev pub cache : Reading (ReplayCache ⊤)
cache = made (λ v. cache_with v.0 v.1) (both second (list stamp))

abbrev pub clients_with : ℤ → List (Entry (ReplayCache ⊤)) → Clients
clients_with floor caches = record { floor = floor; caches = map.from_entries (pairs caches) }

abbrev pub clients : Reading Clients
clients = made (λ v. clients_with v.0 v.1) (both second (list (entry cache)))

-- ---- all services

-- the text `ap-seen1`, as a number
abbrev pub mark : ℕ
mark = 0x61702d7365656e31

-- the mark, the floor of a service without clients, and the services by their names
abbrev pub held : Reading Held
held =
    made (λ v. record { mark = v.0; floor = v.1.0; services = map.from_entries (pairs v.1.1) })
    (both word (both second (list (entry clients))))

-- what was read, if no bytes are left and its mark is the right one
abbrev pub marked : Option (Held × List ℕ) → Option Held
marked (Some (h, [])) = if h.mark == mark then Some h else None
marked (Some (h, b ∷ rest)) = None
marked None = None

-- the first 16 bytes of the digest
abbrev pub check_of : List ℕ → List ℕ
check_of text = take 16 (sha256 text)

-- what the text holds, if the check is that of the text
abbrev pub checked : Option (List ℕ × List ℕ) → Option Held
checked (Some (check, text)) = if bytes_eq check (check_of text) then marked (held text) else None
checked None = None

-- what the bytes of a saved acceptor hold, if they are those of one
unfoldable pub held_in : List ℕ → Option Held
held_in bytes = checked (part 16 bytes)

-- the acceptor with these keys and options that resumes with the bytes
abbrev pub resumed : List KeytabEntry → AcceptorOptions → List ℕ → Option State
resumed keytab options bytes =
    option_map (λ h. record { keytab = keytab; options = options; floor = h.floor; services = h.services })
    (held_in bytes)

-- ---- what calls did

-- the bytes are not those of a saved acceptor, or memory ran out
abbrev pub Fails : {Y : Type 0} → CredError → Option Y → Type 0
Fails BadMagic read = read ≡ None
Fails Truncated read = read ≡ None
Fails Memory read = ⊤
Fails fault read = ⊥

-- the value is what the bytes hold, unless memory ran out
abbrev pub IsFound : {X : Type 0} → Result X CredError → Option X → Type 0
IsFound (Ok x) found = found ≡ Some x
IsFound (Err fault) found = Fails fault found

-- bytes are appended that are read as this value, whatever follows them
pub record Puts {A : Type 0} (at : Reading A) (x : A) (old new : List ℕ) : Type 0 where
  pub text : List ℕ
  pub is : new ≡ old ++ text
  pub again : (rest : List ℕ) → at (text ++ rest) ≡ Some (x, rest)

-- whatever keys and options a later process has, it resumes as this state with these
abbrev pub Saves : State → List ℕ → Type 0
Saves state bytes =
    (keytab : List KeytabEntry) (options : AcceptorOptions)
    → resumed keytab options bytes ≡ Some (record state { keytab = keytab; options = options })
