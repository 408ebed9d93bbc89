-- The text of a journal: each element with its check behind it.
use Rattle.std.specs.Prelude.{◌<◌, ◌^◌, ℕ, ⊤, List, [], ◌∷◌, ◌++◌, length, take, Result, Ok, Err}
use Rattle.sha2.specs.Sha256.{sha256}
use Rattle.krb_der.specs.Spelling.{tlv}
use Rattle.krb_elements.specs.Codec.{written}
use Rattle.journal.specs.Forms.{Entry, Header, entry, header}
use Rattle.journal.specs.declared.fault.JournalError.{JournalError}
use Rattle.journal.specs.declared.fault.JournalError.TheVariants.{Broken, Memory}

-- the check of an element: the first 16 octets of the digest of the check before it and of its octets
abbrev pub check_of : List ℕ → List ℕ → List ℕ
check_of before element = take 16 (sha256 (before ++ element))

-- an element and its check, each as an OCTET STRING
abbrev pub checked : List ℕ → List ℕ → List ℕ
checked before element = tlv 4 element ++ tlv 4 (check_of before element)

-- the entries behind a check
unfoldable pub chained : List ℕ → List Entry → List ℕ
chained check [] = []
chained check (e ∷ es) = checked check (written entry e) ++ chained (check_of check (written entry e)) es

-- the last check
unfoldable pub last_check : List ℕ → List Entry → List ℕ
last_check check [] = check
last_check check (e ∷ es) = last_check (check_of check (written entry e)) es

-- the check of the header
abbrev pub header_check : Header → List ℕ
header_check h = check_of h.link (written header h)

abbrev pub journal_text : Header → List Entry → List ℕ
journal_text h es = checked h.link (written header h) ++ chained (header_check h) es

-- ---- what can be written

-- an element of this value has an encoding, and so has that one as an OCTET STRING
abbrev pub HasElement : Entry → Type 0
HasElement e = entry.Spells e (written entry e) × (length (written entry e) < 2 ^ 32)

abbrev pub HasHeader : Header → Type 0
HasHeader h = header.Spells h (written header h) × (length (written header h) < 2 ^ 32)

unfoldable pub HaveElements : List Entry → Type 0
HaveElements [] = ⊤
HaveElements (e ∷ es) = HasElement e × HaveElements es

-- ---- what is read

-- it was read so, unless memory ran out
abbrev pub UnlessMemory : {X : Type 0} → Result X JournalError → (X → Type 0) → Type 0
UnlessMemory (Ok x) P = P x
UnlessMemory (Err Broken) P = ⊥
UnlessMemory (Err Memory) P = ⊤
