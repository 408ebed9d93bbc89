-- How a client reads a service's reply: AP-REP (RFC 4120, sections 3.2.5 and 5.5.2).
use Rattle.std.specs.Prelude.{ℕ, not, ◌||◌, nat_eq, List, [], ◌∷◌, Some, Result, Ok, Err}
use Rattle.std.specs.Ordering.{int_eq}
use Rattle.rule_lists.specs.Refusals.{Rule, decided, unless_found}
use Rattle.enctypes.specs.Etype.{number}
use Rattle.enctypes.specs.KeyUsage.{usage_number}
use Rattle.enctypes.specs.declared.key.Key.{Key}
use Rattle.enctypes.specs.declared.key_usage.KeyUsage.TheVariants.{ApRepEncPart}
use Rattle.krb_types.specs.ApRep.{ApRep, ap_rep}
use Rattle.krb_elements.specs.Format.{whole}
use Rattle.krb_fields.specs.declared.moment.Moment.{Moment}
use Rattle.krb_types.specs.EncApRepPart.{EncApRepPart, enc_ap_rep_part}
use Rattle.encrypted_data.specs.Encrypted.{decrypted}
use Rattle.encrypted_data.specs.Parts.{ok_of}
use Rattle.client_core.specs.declared.fault.ReplyError.{ReplyError}
use Rattle.client_core.specs.declared.fault.Mismatch.TheVariants.{Times}
use Rattle.client_core.specs.declared.fault.ReplyRefusal.{ReplyRefusal}
use Rattle.client_core.specs.declared.fault.ReplyRefusal.TheVariants.{Mismatched, Unopened}
use Rattle.client_core.specs.Faults.{unless_rejected}
use Rattle.client_core.specs.Replies.{refusal_in}

-- the AP-REP, or what the bytes are instead
abbrev pub ap_reply_in : List ℕ → Result ApRep ReplyError
ap_reply_in bytes = unless_found (ok_of (whole ap_rep.at bytes)) (refusal_in bytes)

abbrev pub ap_rules : Key → ApRep → List (Rule ReplyRefusal)
ap_rules key reply = (not (int_eq reply.enc_part.etype (number key.etype)), Unopened) ∷ []

-- the part of the AP-REP, decrypted with the session key
abbrev pub ap_part : Key → ApRep → Result EncApRepPart ReplyRefusal
ap_part key reply =
    decided (ap_rules key reply) (decrypted enc_ap_rep_part key (usage_number ApRepEncPart) reply.enc_part) Unopened

-- the service repeats the moment of the authenticator
abbrev pub ap_part_rules : Moment → EncApRepPart → List (Rule ReplyRefusal)
ap_part_rules sent part = (not (int_eq part.ctime sent.sec) || not (nat_eq part.cusec sent.usec), Mismatched Times) ∷ []

abbrev pub repeated : Moment → EncApRepPart → Result EncApRepPart ReplyRefusal
repeated sent part = decided (ap_part_rules sent part) (Some part) Unopened

abbrev pub if_ap_part : Moment → Result EncApRepPart ReplyRefusal → Result EncApRepPart ReplyRefusal
if_ap_part sent (Ok part) = repeated sent part
if_ap_part sent (Err rejection) = Err rejection

abbrev pub if_ap_reply : Key → Moment → Result ApRep ReplyError → Result EncApRepPart ReplyError
if_ap_reply key sent (Ok reply) = unless_rejected (if_ap_part sent (ap_part key reply))
if_ap_reply key sent (Err fault) = Err fault

-- the contents of the service's reply, or the first fault
abbrev pub reads_ap : Key → Moment → List ℕ → Result EncApRepPart ReplyError
reads_ap key sent bytes = if_ap_reply key sent (ap_reply_in bytes)
