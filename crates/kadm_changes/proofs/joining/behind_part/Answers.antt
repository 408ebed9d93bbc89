use Rattle.std.proofs.Common.{◌∙◌, ap, w32}
use Rattle.std.specs.Int.{from_be_bytes}
use Rattle.kadm_changes.proofs.KeytabParts.{part_goes, part_stops, stops_short, stops_zero}
use Rattle.kadm_changes.proofs.joining.behind_part.Goals as goal

pub returns-in_err-len-clause-none : goal.returns-in_err-len-clause-none
returns-in_err-len-clause-none c =
    rw c.from_residual.ensures (λ end is. stops_short c.args.octets.now end c.in_err-len.ensures.cases is)

pub returns-then-number-eq0-clause-none : goal.returns-then-number-eq0-clause-none
returns-then-number-eq0-clause-none c =
    λ end is. stops_zero c.args.octets.now end c.from_be_bytes-number.result
    (c.from_be_bytes-number.ensures ∙ ap (from_be_bytes w32) c.in_ok-len.ensures.cases.0) c.if-number-eq0.true is

pub returns-clause-part : goal.returns-clause-part
returns-clause-part c =
    part_goes c.behind.result c.args.octets.now c.in_ok-len.rest.now c.from_be_bytes-number.result c.part_len.result
    (c.from_be_bytes-number.ensures ∙ ap (from_be_bytes w32) c.in_ok-len.ensures.cases.0) c.if-number-eq0.false c.part_len.ensures
    c.in_ok-len.ensures.cases.1 c.behind.ensures.some

pub returns-clause-none : goal.returns-clause-none
returns-clause-none c =
    part_stops c.behind.result c.args.octets.now c.in_ok-len.rest.now c.from_be_bytes-number.result c.part_len.result
    (c.from_be_bytes-number.ensures ∙ ap (from_be_bytes w32) c.in_ok-len.ensures.cases.0) c.part_len.ensures
    c.in_ok-len.ensures.cases.1 c.behind.ensures.none
