-- Calls on a journal, as its life describes them.
use Rattle.std.proofs.Common.{◌≡◌, Bool, Option, Some, None, Result, refl, sym, subst}
use Rattle.std.specs.Prelude.{IfSome, is_ok}
use Rattle.replay.specs.declared.seen.Seen.{Seen}
use Rattle.journal.specs.Life.{Call, IsCall, JournalState}
use Rattle.journal.specs.Life.Call.{Keep, Mend}
use Rattle.journal.specs.declared.journal_file.NotKept.{NotKept}
use Rattle.kdc_files.specs.Keeping.{IsAskedFor, unrecorded}

-- one that keeps no record of its files, or has none
pub nothing_called : (call : Call) → IsCall call unrecorded unrecorded
nothing_called call = record {
  kept = λ low kept all is. tt;
  whole = tt;
  seal = refl;
  there = λ low kept all is before. refl;
}

pub if_any : {X P : Type 0} (o : Option X) → P → IfSome o (λ x. P)
if_any None p = tt
if_any (Some x) p = p

-- what is asked for a reply
pub asked_keep : (seen : Seen) (o : Option Seen) (result : Result Unit NotKept) (is_kept : Bool) (old new : JournalState) → o ≡ Some seen
    → is_kept ≡ is_ok result → IsCall (Keep seen result) old new → IsAskedFor o is_kept old new
asked_keep seen o result is_kept old new there is call =
    subst (λ o. IsAskedFor o is_kept old new) (sym there) (record { result = result; is = sym is; call = call })

pub asked_mend : (o : Option Seen) (result : Result Unit NotKept) (is_kept : Bool) (old new : JournalState) → o ≡ None
    → is_kept ≡ is_ok result → IsCall (Mend result) old new → IsAskedFor o is_kept old new
asked_mend o result is_kept old new there is call =
    subst (λ o. IsAskedFor o is_kept old new) (sym there) (record { result = result; is = sym is; call = call })
