use Rattle.std.proofs.Common.{◌≡◌, ◌+◌, ◌*◌, ◌<◌, ◌^◌, take, get_or, refl, ap, ◌∙◌, arith}
use Rattle.std.proofs.lemmas.List.{take_all}
use Rattle.prf_kdf.specs.Fold.{number}
use Rattle.prf_kdf.proofs.Numbers.{number-lt, number-take_more}
use Rattle.prf_kdf.proofs.BlockFolds.{word_more}
use Rattle.prf_kdf.proofs.fold.word_of.Goals as goal

pub loop-i-init : goal.loop-i-init
unfolding number
loop-i-init c = refl

pub overflow_mul-word : goal.overflow_mul-word
overflow_mul-word c =
    let fits : number (take c.loop-i.i c.args.octets.now) * 256 + get_or c.args.octets.now c.loop-i.i 0 < 2 ^ 64 =
    word_more c.args.octets.now c.loop-i.i (λ j. omega (arith, c.type_inv.octets j)) (omega arith) (omega arith) in
    omega (arith, fits, c.loop-i.invariant)

pub overflow_add-word : goal.overflow_add-word
overflow_add-word c =
    let fits : number (take c.loop-i.i c.args.octets.now) * 256 + get_or c.args.octets.now c.loop-i.i 0 < 2 ^ 64 =
    word_more c.args.octets.now c.loop-i.i (λ j. omega (arith, c.type_inv.octets j)) (omega arith) (omega arith) in
    omega (arith, fits, c.loop-i.invariant, c.from.ensures)

pub loop-i-preserved : goal.loop-i-preserved
loop-i-preserved c =
    let more : number (take (c.loop-i.i + 1) c.args.octets.now)
    ≡ number (take c.loop-i.i c.args.octets.now) * 256 + get_or c.args.octets.now c.loop-i.i 0 =
    number-take_more c.args.octets.now c.loop-i.i (omega arith) in
    omega (arith, more, c.loop-i.invariant, c.from.ensures)

pub returns-clause-value : goal.returns-clause-value
returns-clause-value c =
    c.loop-i.invariant ∙ ap number (take_all c.loop-i.i c.args.octets.now (omega arith))

pub returns-clause-below : goal.returns-clause-below
returns-clause-below c = number-lt c.args.octets.now (λ j. omega (arith, c.type_inv.octets j))
