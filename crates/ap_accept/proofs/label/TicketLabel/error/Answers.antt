use Rattle.std.proofs.Common.{rules, ◌<◌, ◌^◌, IsTrue, length, sym, subst}
use Rattle.krb_types.specs.KrbError.{KrbError, krb_error}
use Rattle.ap_accept.specs.Label.{is_nameable}
use Rattle.ap_accept.specs.LengthLaws.{error_short}
use Rattle.ap_accept.proofs.label.TicketLabel.error.Goals as goal

pub encode_krb_error-requires : goal.encode_krb_error-requires
encode_krb_error-requires c =
    let is : IsTrue (is_nameable c.args.self.now) = search rules in
    subst (λ (e : KrbError). length (krb_error.text e) < 2 ^ 32) (sym c.in_ok-error.ensures)
    (error_short c.args.self.now c.args.at c.args.refusal is)
