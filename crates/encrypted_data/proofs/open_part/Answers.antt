use Rattle.std.proofs.Common.{◌≡◌, IfOk, subst}
use Rattle.enctypes.specs.KeyUsage.{usage_number}
use Rattle.encrypted_data.specs.Parts.{opened_as}
use Rattle.encrypted_data.proofs.open_part.Goals as goal

pub returns-clause-value : goal.returns-clause-value
returns-clause-value g c =
    subst (λ ready. IfOk c.open_with.result (λ found. found
    ≡ opened_as g.T.Coded.codec ready.key.etype ready.key.bytes (usage_number ready.usage) c.args.cipher.now))
    c.new.ensures.ready c.open_with.ensures.value
