use Rattle.std.proofs.Common.{◌≡◌, subst, List, Option}
use Rattle.std.specs.Prelude.{IfOk}
use Rattle.krb_fields.specs.PaData.{PaData}
use Rattle.krb_types.specs.CopyLaws.{data_copied}
use Rattle.base_tests.proofs.messages.whole_messages.owned_padata.Goals as goal

pub returns : goal.returns
returns c = subst (λ (x : Option (List PaData)). IfOk c.copy.result (λ copy. copy ≡ x)) (data_copied c.args.padata.now) c.copy.ensures
