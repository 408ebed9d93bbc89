-- A date is printable.
use Rattle.std.proofs.Common.{◌≡◌, ◌<◌, ◌&&◌, ℕ, true, List, get_or, ap, arith}
use Rattle.std.specs.List.{list_all}
use Rattle.std.proofs.lemmas.Bool.{and_from, and_parts}
use Rattle.krb_der.specs.Digits.{is_spelled}
use Rattle.krb_der.specs.Time.{is_time}
use Rattle.krb_der.proofs.DigitsLemmas.{digit_high, digit_low, spelled_parts}
use Rattle.request_log.specs.Lines.{is_printable}
use Rattle.request_log.specs.Times.{marked}
use Rattle.request_log.proofs.Shown.{one_decides}

digit_so : (octets : List ℕ) (k : ℕ) → is_spelled octets ≡ true → k < 14 → is_printable (get_or octets k 0) ≡ true
digit_so octets k is within =
    let low = digit_low octets k is within in
    let high = digit_high octets k is within in
    (one_decides (get_or octets k 0)).1 (omega (arith, low), omega (arith, high))

-- the punctuation computes
pub marked_printable : (octets : List ℕ) → is_time octets ≡ true → list_all is_printable (marked octets) ≡ true
unfolding is_time
marked_printable octets is =
    let spelled : is_spelled octets ≡ true = (and_parts _ _ is).0 in
    let digit : (k : ℕ) → k < 14 → is_printable (get_or octets k 0) ≡ true = λ k within. digit_so octets k spelled within in
    let last_so : (is_printable (get_or octets 14 0) && true) ≡ true = ap (λ o. is_printable o && true) (spelled_parts octets spelled).last_is in
    and_from _ _ (digit 0 (omega arith))
    (and_from _ _ (digit 1 (omega arith))
    (and_from _ _ (digit 2 (omega arith))
    (and_from _ _ (digit 3 (omega arith))
    (and_from _ _ (digit 4 (omega arith))
    (and_from _ _ (digit 5 (omega arith))
    (and_from _ _ (digit 6 (omega arith))
    (and_from _ _ (digit 7 (omega arith))
    (and_from _ _ (digit 8 (omega arith))
    (and_from _ _ (digit 9 (omega arith))
    (and_from _ _ (digit 10 (omega arith))
    (and_from _ _ (digit 11 (omega arith))
    (and_from _ _ (digit 12 (omega arith))
    (and_from _ _ (digit 13 (omega arith)) last_so)))))))))))))
