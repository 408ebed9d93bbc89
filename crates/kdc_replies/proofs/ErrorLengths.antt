-- An error made with a name from anywhere is short enough to be written.
use Rattle.std.proofs.Common.{◌≡◌, ℕ, ◌^◌, ◌<◌, ◌≤◌, List, length, Option, Some, sym, ap, subst, ◌∙◌}
use Rattle.std.specs.Prelude.{IfSome}
use Rattle.std.specs.Option.{unwrap_or}
use Rattle.krb_fields.specs.declared.code.Code.{Code}
use Rattle.krb_fields.specs.declared.moment.Moment.{Moment}
use Rattle.krb_fields.specs.PrincipalName.{Name, name}
use Rattle.krb_types.specs.KrbError.{KrbError, krb_error}
use Rattle.krb_fields.specs.Granting.{tgs_name}
use Rattle.kdc_replies.specs.ErrorReply.{error_reply}
use Rattle.kdc_replies.specs.LengthLaws.{error_short}

-- the name in the error is the requested one, or the ticket-granting service's
pub made_is : (realm : List ℕ) (at : Moment) (code : Code) (sname : Option Name) (e_data : Option (List ℕ)) (used : Name) (error : KrbError)
    → error ≡ error_reply realm at code (Some used) e_data → used ≡ unwrap_or sname (tgs_name realm)
    → error ≡ error_reply realm at code sname e_data
made_is realm at code sname e_data used error is named = is ∙ ap (λ (n : Name). error_reply realm at code (Some n) e_data) named

pub made_short : (realm : List ℕ) (at : Moment) (code : Code) (sname : Option Name) (e_data : Option (List ℕ)) (used : Name) (error : KrbError)
    → error ≡ error_reply realm at code (Some used) e_data → used ≡ unwrap_or sname (tgs_name realm)
    → length realm ≤ 255 → IfSome sname (λ n. length (name.text n) < 2147483648) → IfSome e_data (λ d. length d ≤ 65535)
    → length (krb_error.text error) < 2 ^ 32
made_short realm at code sname e_data used error is named short shorter few =
    subst (λ (e : KrbError). length (krb_error.text e) < 2 ^ 32)
    (sym (made_is realm at code sname e_data used error is named))
    (error_short realm at code sname e_data short shorter few)
