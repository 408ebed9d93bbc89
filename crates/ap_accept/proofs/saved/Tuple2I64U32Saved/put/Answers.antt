use Rattle.std.proofs.Common.{rules, ◌≡◌, ℤ, to_z, of_z, w64, subst}
use Rattle.cred_files.specs.Format.{word32}
use Rattle.ap_accept.specs.Saved.{second, Puts}
use Rattle.ap_accept.proofs.Putting.{both_puts, on_ok}
use Rattle.ap_accept.proofs.saved.Tuple2I64U32Saved.put.Goals as goal

pub returns : goal.returns
returns c =
    let is : to_z w64 (of_z w64 c.args.self.now.0) ≡ c.args.self.now.0 = search rules in
    let ctime : Puts second c.args.self.now.0 c.args.out.now.items c.put_second.new.out.items =
    subst (λ (z : ℤ). Puts second z c.args.out.now.items c.put_second.new.out.items) is c.in_ok-put_second.ensures in
    on_ok c.put_u32.result (both_puts second word32.form.at c.args.self.now.0 c.args.self.now.1 c.args.out.now.items c.put_second.new.out.items c.put_u32.new.out.items ctime) c.put_u32.ensures
