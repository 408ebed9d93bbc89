-- The values of the relations of a krb5.conf.
use Rattle.std.specs.Prelude.{◌==◌, ◌&&◌, ◌++◌, ℕ, List, [], ◌∷◌, Option, Some, None, codes, bytes_eq, if◌then◌else◌}
use Rattle.std.specs.List.{slice_split}
use Rattle.std.specs.Option.{option_to_list}
use Rattle.krb5_conf.specs.Line.{Said, Nothing, Section, Open, Brace, Close, Relation, line_said}
use Rattle.krb5_conf.specs.LinePlace.{LinePlace, behind, group_place, is_place, section_place}

-- lines are separated by line feeds
abbrev pub lines_of : List ℕ → List (List ℕ)
lines_of text = slice_split (λ o. o == 0x0A) text

-- the value in a line at p, if it is the wanted one
abbrev pub value_by : LinePlace → List ℕ → LinePlace → Said → Option (List ℕ)
value_by wanted tag p Nothing = None
value_by wanted tag p (Section name) = None
value_by wanted tag p (Open name) = None
value_by wanted tag p Brace = None
value_by wanted tag p Close = None
value_by wanted tag p (Relation found value) = if is_place p wanted && bytes_eq found tag then Some value else None

-- the values in lines whose first is at p
abbrev pub values_from : LinePlace → List ℕ → LinePlace → List (List ℕ) → List (List ℕ)
values_from wanted tag p [] = []
values_from wanted tag p (line ∷ lines) =
    option_to_list (value_by wanted tag p (line_said line)) ++ values_from wanted tag (behind p (line_said line)) lines

-- the values of the relations with this tag at the wanted place
abbrev pub values_of : LinePlace → List ℕ → List ℕ → List (List ℕ)
values_of wanted tag text = values_from wanted tag (section_place []) (lines_of text)

-- the relations of `[libdefaults]` with this tag
abbrev pub library_values : List ℕ → List ℕ → List (List ℕ)
library_values tag text = values_of (section_place (codes "libdefaults")) tag text

abbrev pub default_realms : List ℕ → List (List ℕ)
default_realms text = library_values (codes "default_realm") text

-- `kdc` of a realm in `[realms]`
abbrev pub kdc_values : List ℕ → List ℕ → List (List ℕ)
kdc_values realm text = values_of (group_place (codes "realms") realm) (codes "kdc") text
