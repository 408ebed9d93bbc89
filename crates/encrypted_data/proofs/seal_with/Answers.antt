use Rattle.std.proofs.Common.{List, ℕ, subst, sym, ◌∙◌}
use Rattle.enctypes.specs.KeyUsage.{usage_number}
use Rattle.enctypes.specs.Sealing.{opened}
use Rattle.encrypted_data.proofs.Reading.{returned_again, returned_short}
use Rattle.encrypted_data.proofs.seal_with.Goals as goal

pub returns-clause-opens : goal.returns-clause-opens
returns-clause-opens g c =
    let codec = g.T.Coded.codec in
    returned_again codec c.args.part.now c.deref.result.now
    (λ cipher. opened c.args.ready.now.key.etype c.args.ready.now.key.bytes (usage_number c.args.ready.now.usage) cipher.items) c.seal.result
    (subst (λ (l : List ℕ). codec.Spells c.args.part.now l) (sym c.deref.ensures.value) c.in_ok-text.ensures.spelled) c.seal.ensures.opened

pub returns-clause-most : goal.returns-clause-most
returns-clause-most g c =
    returned_short g.T.Coded.codec c.args.part.now c.deref.result.now (λ cipher. cipher.items) c.seal.result (c.deref.ensures.value ∙ c.in_ok-text.ensures.written) c.seal.ensures.most
