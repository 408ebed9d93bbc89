-- The client accepts the AP-REP of a service that accepted it.
use Rattle.std.proofs.Common.{◌≡◌, ℕ, Bool, true, not, ◌||◌, List, [], ◌∷◌, Option, Some, Result, Ok, refl, ap, ◌∙◌}
use Rattle.std.specs.Prelude.{nat_eq}
use Rattle.std.specs.Ordering.{int_eq}
use Rattle.std.proofs.Common.{eq-eqb}
use Rattle.std.proofs.lemmas.Bool.Decides.{Decides-int_eq}
use Rattle.enctypes.specs.Etype.{number}
use Rattle.enctypes.specs.declared.key.Key.{Key}
use Rattle.krb_types.specs.ApRep.{ApRep, ap_rep}
use Rattle.krb_der.specs.declared.fault.DerFault.{DerFault}
use Rattle.krb_elements.specs.Format.{whole}
use Rattle.krb_elements.specs.Laws.{whole_ok}
use Rattle.krb_fields.specs.declared.moment.Moment.{Moment}
use Rattle.krb_types.specs.Authenticator.{Authenticator}
use Rattle.krb_types.specs.EncApRepPart.{EncApRepPart}
use Rattle.rule_lists.specs.Refusals.{first_holding, unless_found, unless_refused}
use Rattle.encrypted_data.specs.Parts.{ok_of}
use Rattle.client_core.specs.Faults.{unless_rejected}
use Rattle.client_core.specs.Replies.{refusal_in}
use Rattle.client_core.specs.ServiceReplies.{if_ap_part, if_ap_reply, reads_ap}
use Rattle.client_core.specs.declared.fault.ReplyError.{ReplyError}
use Rattle.client_core.specs.declared.fault.Mismatch.TheVariants.{Times}
use Rattle.client_core.specs.declared.fault.ReplyRefusal.{ReplyRefusal}
use Rattle.client_core.specs.declared.fault.ReplyRefusal.TheVariants.{Mismatched, Unopened}
use Rattle.ap_accept.specs.Reply.{IsApReply, reply_of, reply_part}

-- the client's result if the part names the key's encryption type and its time passes the tests
abbrev part_by : Bool → Option EncApRepPart → Result EncApRepPart ReplyRefusal
part_by same opened = unless_refused (first_holding ((not same, Unopened) ∷ [])) opened Unopened

abbrev time_by : Bool → Bool → EncApRepPart → Result EncApRepPart ReplyError
time_by second microsecond part = unless_rejected (unless_refused (first_holding ((not second || not microsecond, Mismatched Times) ∷ [])) (Some part) Unopened)

pub answer_taken : (key : Key) (confounder : List ℕ) (auth : Authenticator) (octets : List ℕ) (sent : Moment) → auth.ctime ≡ sent.sec → auth.cusec ≡ sent.usec → IsApReply key confounder auth octets
    → reads_ap key sent octets ≡ Ok (reply_part auth)
answer_taken key confounder auth octets sent second microsecond is =
    let reply = reply_of key confounder auth in
    let read : whole ap_rep.at octets ≡ Ok reply = (whole_ok ap_rep.Spells ap_rep.at ap_rep.laws.element.reading).again reply octets is.spelled in
    let same : int_eq (number key.etype) (number key.etype) ≡ true = (Decides-int_eq (number key.etype) (number key.etype)).1 refl in
    let on_second : int_eq auth.ctime sent.sec ≡ true = (Decides-int_eq auth.ctime sent.sec).1 second in
    let on_microsecond : nat_eq auth.cusec sent.usec ≡ true = eq-eqb auth.cusec sent.usec microsecond in
    ap (λ (r : Result ApRep DerFault). if_ap_reply key sent (unless_found (ok_of r) (refusal_in octets))) read
    ∙ ((λ i. unless_rejected (if_ap_part sent (part_by (same i) (is.opens i))))
    ∙ (λ i. time_by (on_second i) (on_microsecond i) (reply_part auth)))
