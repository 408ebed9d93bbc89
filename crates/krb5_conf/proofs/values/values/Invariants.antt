use Rattle.std.proofs.Common.{◌≡◌, ◌++◌, ◌≤◌, map, drop}
use Rattle.krb5_conf.specs.LinePlace.{place_of}
use Rattle.krb5_conf.specs.Values.{values_from, values_of}
use Rattle.krb5_conf.proofs.values.values.Given as goal

-- the values so far, with those of the remaining lines, are all values
abbrev pub invariant-loop-text : goal.invariant-loop-text
invariant-loop-text l = record {
  found :
      map (λ v. v.now) l.values.items
      ++ values_from (place_of l.wanted) l.tag (place_of l.place) (drop l.text-index (map (λ line. line.now) l.text-items))
      ≡ values_of (place_of l.wanted) l.tag l.fn.text;
  depth : l.place.depth ≤ l.text-index;
}
