-- One more key, in front of those behind it.
use Rattle.std.proofs.Common.{◌≡◌, ◌∙◌, ◌<◌, ◌∷◌, ◌-◌, ℕ, suc, List, length, drop, get_or, ap, sym, subst}
use Rattle.enctypes.specs.Key.{ProtocolKey}
use Rattle.enctypes.specs.declared.etype.Etype.{Etype}
use Rattle.cred_files.specs.declared.keytab_entry.KeytabEntry.{KeytabEntry}
use Rattle.mit_dump.specs.Entries.{ArePushed, IsPushed, place_of, preference, with_first}
use Rattle.mit_dump.specs.declared.principal.DumpedPrincipal.{DumpedPrincipal}
use Rattle.mit_dump.specs.declared.stored_key.StoredKey.{StoredKey}
use Rattle.mit_dump.proofs.Lists.{here_is}

pub pushed_here : (p : DumpedPrincipal) (master : ProtocolKey) (keys : List StoredKey) (i j : ℕ) (k : StoredKey) (old new : List KeytabEntry) → j ≡ suc i
    → k ≡ get_or keys i k → i < length keys → ArePushed p master (drop j keys) old → IsPushed p master k old new → ArePushed p master (drop i keys) new
pushed_here p master keys i j k old new next is lt so_far pushed =
    subst (λ (ks : List StoredKey). ArePushed p master ks new) (sym (here_is keys i j k next is lt)) (old, so_far, pushed)

pub preferred_here : (keys : List StoredKey) (i j : ℕ) (k : StoredKey) (old new : List Etype) → j ≡ suc i → k ≡ get_or keys i k → i < length keys
    → old ≡ preference (drop j keys) → new ≡ with_first (place_of k) old → new ≡ preference (drop i keys)
preferred_here keys i j k old new next is lt so_far first =
    first ∙ ap (with_first (place_of k)) so_far ∙ sym (ap preference (here_is keys i j k next is lt))
