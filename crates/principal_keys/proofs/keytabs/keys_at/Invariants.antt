use Rattle.std.proofs.Common.{◌≡◌, ◌∷◌, ◌++◌, drop, filter_map}
use Rattle.principal_keys.specs.Keytabs.{key_at}
use Rattle.principal_keys.proofs.keytabs.keys_at.Given as goal

abbrev pub invariant-loop-etype : goal.invariant-loop-etype
invariant-loop-etype l =
    l.keys.items ++ filter_map (key_at l.of.keytab.now (l.of.realm.now ∷ l.of.who.now.components) l.number) (drop l.etype-index l.etypes)
    ≡ filter_map (key_at l.of.keytab.now (l.of.realm.now ∷ l.of.who.now.components) l.number) l.etypes
