-- The place of a line in a krb5.conf.
use Rattle.std.specs.Prelude.{◌==◌, ◌&&◌, ◌+◌, ◌-◌, ℕ, Bool, List, [], ◌∷◌, bytes_eq, nat_lt, if◌then◌else◌}
use Rattle.krb5_conf.specs.Line.{Said, Nothing, Section, Open, Brace, Close, Relation}
use Rattle.krb5_conf.specs.declared.place.LinePlace as places

pub record LinePlace : Type 0 where
  pub section : List ℕ
  -- the outermost open group; empty if none is open
  pub group : List ℕ
  -- how many groups are open
  pub depth : ℕ
  -- the tag of a relation without a value, whose group may start on a later line; else empty
  pub waiting : List ℕ

-- the same for the code's type
abbrev pub place_of : places.LinePlace → LinePlace
place_of p = record { section = p.section.now; group = p.group.now; depth = p.depth; waiting = p.waiting.now }

abbrev pub section_place : List ℕ → LinePlace
section_place name = record { section = name; group = []; depth = 0; waiting = [] }

abbrev pub group_place : List ℕ → List ℕ → LinePlace
group_place section name = record { section = section; group = name; depth = 1; waiting = [] }

abbrev pub is_place : LinePlace → LinePlace → Bool
is_place p q = (p.depth == q.depth) && bytes_eq p.section q.section && bytes_eq p.group q.group

-- inside one more group
abbrev pub opened : LinePlace → List ℕ → LinePlace
opened p name = record {
  section = p.section;
  group = (if p.depth == 0 then name else p.group);
  depth = p.depth + 1;
  waiting = [];
}

-- one group further out
abbrev pub closed : LinePlace → LinePlace
closed p = if nat_lt 1 p.depth then record p { depth = p.depth - 1; waiting = [] } else section_place p.section

-- a relation without a value names the group that may start next
abbrev pub named : List ℕ → List ℕ → List ℕ
named tag [] = tag
named tag (octet ∷ octets) = []

-- the place of the next line
abbrev pub behind : LinePlace → Said → LinePlace
behind p Nothing = p
behind p (Section name) = section_place name
behind p (Open name) = opened p name
behind p Brace = opened p p.waiting
behind p Close = closed p
behind p (Relation tag value) = record p { waiting = named tag value }
