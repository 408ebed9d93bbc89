-- The keys of a principal, by the numbers of their encryption types in messages.
use Rattle.std.specs.Prelude.{ℤ, pos, Bool, not, ◌&&◌, List, [], ◌∷◌, Option, Some, None, is_some, find}
use Rattle.std.specs.List.{filter, list_any}
use Rattle.std.specs.Option.{option_or}
use Rattle.std.specs.Ordering.{int_eq}
use Rattle.enctypes.specs.declared.key.Key.{Key}
use Rattle.enctypes.specs.Etype.{number}
use Rattle.principal_rows.specs.Versions.{current}
use Rattle.principal_rows.specs.declared.row.KeyVersion.{KeyVersion}
use Rattle.principal_rows.specs.declared.row.Row.{Row}

-- the key whose encryption type has this number
abbrev pub key_numbered : List Key → ℤ → Option Key
key_numbered keys n = find (λ k. int_eq (number k.etype) n) keys

-- the key of the first of these encryption types for which there is one
abbrev pub first_key : List Key → List ℤ → Option Key
first_key keys [] = None
first_key keys (n ∷ ns) = option_or (key_numbered keys n) (first_key keys ns)

-- the version with this number
abbrev pub numbered : List KeyVersion → ℤ → Option KeyVersion
numbered versions kvno = find (λ v. int_eq (pos v.number) kvno) versions

abbrev pub key_in : Option KeyVersion → ℤ → Option Key
key_in (Some version) etype = key_numbered version.keys etype
key_in None etype = None

-- the key of this encryption type in the named version, or else in the current one
abbrev pub key_by : List KeyVersion → ℤ → Option ℤ → Option Key
key_by versions etype (Some kvno) = key_in (numbered versions kvno) etype
key_by versions etype None = key_numbered (current versions).keys etype

-- the same key of a row, if there is a row
abbrev pub key_named : Option Row → ℤ → Option ℤ → Option Key
key_named (Some row) etype kvno = key_by row.versions etype kvno
key_named None etype kvno = None

abbrev pub has_key : List Key → ℤ → Bool
has_key keys n = is_some (key_numbered keys n)

abbrev pub is_among : List ℤ → ℤ → Bool
is_among numbers n = list_any (λ m. int_eq m n) numbers

-- there is a key of this encryption type, and it was not found before
abbrev pub is_new : List Key → List ℤ → ℤ → Bool
is_new keys found n = has_key keys n && not (is_among found n)

-- each number once, at its first place
abbrev pub each_once : List ℤ → List ℤ
each_once [] = []
each_once (n ∷ ns) = n ∷ filter (λ m. not (int_eq n m)) (each_once ns)

-- those of these encryption types for which there is a key
abbrev pub types_of : List Key → List ℤ → List ℤ
types_of keys numbers = each_once (filter (has_key keys) numbers)
