use Rattle.std.proofs.Common.{◌≡◌, List, subst}
use Rattle.std.specs.Prelude.{IfOk}
use Rattle.krb_types.specs.EtypeInfo2Entry.{EtypeInfo2Entry}
use Rattle.client_login.proofs.InfoCopies.{info_copied}
use Rattle.client_login.proofs.infos.copied.Goals as goal

pub returns : goal.returns
returns c =
    subst
    (λ (info : List EtypeInfo2Entry). IfOk c.copy.result (λ copy. copy ≡ info))
    (info_copied c.args.entries.now)
    c.copy.ensures
