-- The lines of a dump, one after another.
use Rattle.std.proofs.Common.{◌≡◌, ◌∙◌, ◌<◌, ◌≤◌, ◌+◌, ℕ, List, [], ◌∷◌, ◌++◌, append_assoc, ap, drop, get_or, length, subst, sym, refl}
use Rattle.std.proofs.lemmas.List.{append-nil, drop_more}
use Rattle.std.specs.Borrow.{Bor}
use Rattle.std.specs.Option.{option_to_list}
use Rattle.mit_dump.specs.Dump.{AddsLine, AreFound}
use Rattle.mit_dump.specs.Fields.{Field, texts}
use Rattle.mit_dump.specs.declared.principal.DumpedPrincipal.{DumpedPrincipal}
use Rattle.mit_dump.proofs.Lists.{none_left}

-- whatever the coming lines say, with what was found it is what all lines say
abbrev pub FoundFrom : List Field → List Field → List DumpedPrincipal → Type 0
FoundFrom all rest found = (others : List DumpedPrincipal) → AreFound rest others → AreFound all (found ++ others)

pub from_first : (all : List Field) → FoundFrom all all []
from_first all others are = are

-- one line more
pub line_read : (all : List Field) (lines : List (Bor Field)) (i : ℕ) (d : Bor Field) (found new : List DumpedPrincipal)
    → i < length lines → FoundFrom all (texts (drop i lines)) found → AddsLine (get_or lines i d).now found new
    → FoundFrom all (texts (drop (i + 1) lines)) new
line_read all lines i d found new lt from (first, read, more) others are =
    subst (AreFound all) (sym (ap (λ front. front ++ others) more ∙ append_assoc found (option_to_list first) others))
    (from (option_to_list first ++ others)
    (subst (λ (ls : List (Bor Field)). AreFound (texts ls) (option_to_list first ++ others)) (sym (drop_more lines i d lt))
    (first, others, read, are, refl)))

-- all of them
pub all_read : (all : List Field) (lines : List (Bor Field)) (i : ℕ) (found : List DumpedPrincipal) → length lines ≤ i
    → FoundFrom all (texts (drop i lines)) found → AreFound all found
all_read all lines i found le from =
    subst (AreFound all) (append-nil found)
    (from [] (subst (λ (ls : List (Bor Field)). AreFound (texts ls) []) (sym (none_left lines i le)) refl))
