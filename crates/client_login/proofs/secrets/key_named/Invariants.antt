use Rattle.std.proofs.Common.{◌≡◌, ◌∷◌, drop}
use Rattle.client_login.specs.Keys.{key_named}
use Rattle.client_login.proofs.secrets.key_named.Given as goal

abbrev pub invariant-loop-entry : goal.invariant-loop-entry
invariant-loop-entry l =
    key_named l.keytab (l.realm ∷ l.name.components) (drop l.entry-index l.info) ≡ key_named l.keytab (l.realm ∷ l.name.components) l.info
