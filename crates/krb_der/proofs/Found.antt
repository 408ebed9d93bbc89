-- What a successful read says about the value's only encoding.
use Rattle.std.proofs.Common.{◌≡◌, ℕ, ◌^◌, ◌<◌, List, ◌++◌, length, Result, Ok, Err, sym, ap, ◌∙◌}
use Rattle.std.specs.Prelude.{IfOk, IsOkAnd}
use Rattle.krb_der.specs.declared.fault.DerFault.{DerFault}
use Rattle.krb_der.specs.Spelling.{tlv, IsBytes}
use Rattle.krb_der.specs.Reading.{Gives, tlv_at}
use Rattle.krb_der.specs.StepLaws.{ok_is}
use Rattle.krb_der.specs.Laws.{tlv_takes, tlv_again}

pub tlv_found : {X : Type 0} (view : X → List ℕ × List ℕ) (r : Result X DerFault) (tag : ℕ) (bytes : List ℕ) → IsBytes bytes → Gives view r (tlv_at tag bytes)
    → IfOk r (λ x. (bytes ≡ tlv tag (view x).0 ++ (view x).1) × (length (view x).0 < 2 ^ 32))
tlv_found view (Ok x) tag bytes fits h = tlv_takes tag bytes (view x).0 (view x).1 fits h
tlv_found view (Err e) tag bytes fits h = tt

pub tlv_only : {X : Type 0} (view : X → List ℕ × List ℕ) (r : Result X DerFault) (tag : ℕ) (bytes : List ℕ) → Gives view r (tlv_at tag bytes)
    → (contents rest : List ℕ) → length contents < 2 ^ 32 → bytes ≡ tlv tag contents ++ rest → IsOkAnd r (λ x. ((view x).0 ≡ contents) × ((view x).1 ≡ rest))
tlv_only view (Ok x) tag bytes h contents rest lt e =
    let again : tlv_at tag bytes ≡ Ok (contents, rest) = rw e (tlv_again tag contents rest lt) in
    let same = ok_is (view x) (contents, rest) (sym h ∙ again) in
    (ap (λ (p : List ℕ × List ℕ). p.0) same, ap (λ (p : List ℕ × List ℕ). p.1) same)
tlv_only view (Err d) tag bytes h contents rest lt e =
    let again : tlv_at tag bytes ≡ Ok (contents, rest) = rw e (tlv_again tag contents rest lt) in
    absurd cc
