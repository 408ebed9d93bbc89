use Rattle.std.proofs.Common.{rules, SFits, w64}
use Rattle.std.proofs.lemmas.Int.{to_z-of_z}
use Rattle.kdc_state.proofs.Tidied.{made_tidy}
use Rattle.kdc_state.proofs.state.State.tidy.Goals as goal

pub returns-clause-caches : goal.returns-clause-caches
returns-clause-caches c =
    let floor : SFits w64 c.args.self.now.floor = search rules in
    let raised : SFits w64 c.tidied_floor-self.result = search rules in
    simp to_z-of_z (made_tidy c.args.self.now c.args.at c.tidied_floor-self.result c.change_values.new.self c.retain.new.self
    (simp to_z-of_z at c.tidied_floor-self.ensures) c.change_values.ensures (simp to_z-of_z at c.retain.ensures))
