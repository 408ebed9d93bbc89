-- A ticket that was decrypted is for a service, and was decrypted by a key of that service.
use Rattle.std.proofs.Common.{◌≡◌, ◌⊎◌, inl, inr, Bool, true, false, Option, Some, None, Result, Ok, Err, refl, ap, sym, ◌∙◌}
use Rattle.std.proofs.Common.{ℕ, ℤ, List, subst}
use Rattle.std.specs.Prelude.{◌&&◌, not, if◌then◌else◌, nat_eq}
use Rattle.std.specs.Cmp.Lexicographic.{pointwise}
use Rattle.std.proofs.lemmas.Bool.{and_parts}
use Rattle.rule_lists.specs.ClearLaws.{decided_clear}
use Rattle.rule_lists.specs.ConditionLaws.{clear_of}
use Rattle.rule_lists.specs.RefusalLaws.{decided_found}
use Rattle.rule_lists.specs.StageLaws.{ok_is, stage_ok}
use Rattle.rule_lists.specs.Stages.{◌>>=◌}
use Rattle.enctypes.specs.KeyUsage.{usage_number}
use Rattle.enctypes.specs.declared.key.Key.{Key}
use Rattle.enctypes.specs.declared.key_usage.KeyUsage.TheVariants.{Ticket as TicketUsage}
use Rattle.krb_types.specs.ApReq.{ApReq}
use Rattle.krb_fields.specs.PrincipalName.{Name}
use Rattle.krb_types.specs.KdcReq.{Received}
use Rattle.krb_types.specs.ReqBody.{ReqBody}
use Rattle.krb_types.specs.EncTicketPart.{EncTicketPart, enc_ticket_part}
use Rattle.preauth.specs.Keys.{key_named}
use Rattle.principal_rows.specs.declared.row.Row.{Row}
use Rattle.encrypted_data.specs.Parts.{opened_as}
use Rattle.ap_req.specs.Refusal.{place_of}
use Rattle.ap_req.specs.Tickets.{opened_with, part_of, shown_ticket as shown, ticket_rules}
use Rattle.ap_req.specs.declared.refusal.ApRefusal.{ApRefusal}
use Rattle.ap_req.specs.declared.refusal.ApRefusal.TheVariants.{NotForUs, TicketNotOpened}
use Rattle.tgs_opening.specs.Opening.{opened_ticket, presented}
use Rattle.tgs_opening.specs.OpeningLaws.{ticket_opened}
use Rattle.tgs_opening.specs.Refusal.{by_ap}
use Rattle.tgs_opening.specs.Shown.{IsServiceRow, IsShown}
use Rattle.tgs_opening.specs.Tickets.{value_ap_req, ap_req_of, held_key, holder, if_service, is_for_asked, is_for_tgs}
use Rattle.tgs_opening.specs.Tickets.{is_ours}
use Rattle.tgs_opening.specs.Tickets.{request_rules, row_of, shown_ticket, tgs_data}
use Rattle.tgs_opening.specs.View.{TicketView}
use Rattle.tgs_opening.specs.declared.opened.OpenedTicket.{OpenedTicket}
use Rattle.tgs_opening.specs.declared.presented.Presented.{Presented}
use Rattle.tgs_opening.specs.declared.refusal.TgsRefusal.{TgsRefusal}
use Rattle.tgs_opening.specs.declared.refusal.TgsRefusal.TheVariants.{MalformedApReq}
use Rattle.tgs_opening.specs.declared.tickets.Addressee.{Addressee}
use Rattle.tgs_opening.specs.declared.tickets.Addressee.TheVariants.{Tgs, AskedFor, Other}

is_true : (b : Bool) → not b ≡ false → b ≡ true
is_true true e = refl
is_true false e = absurd cc

service_of : (o : Option Row) (row : Row) → if_service o ≡ Some row → (o ≡ Some row) × (row.policy.service ≡ true)
service_of None row e = absurd cc
service_of (Some r) row e = by r.policy.service refl e
  where
    by : (b : Bool) → r.policy.service ≡ b → (if b then Some r else None) ≡ Some row
        → (Some r ≡ Some row) × (row.policy.service ≡ true)
    by true is e = (e, sym (ap (λ (o : Option Row). says o) e) ∙ is)
      where
        says : Option Row → Bool
        says (Some s) = s.policy.service
        says None = true
    by false is e = absurd cc

ap_ok : {A : Type 0} (r : Result A ApRefusal) (x : A) → by_ap r ≡ Ok x → r ≡ Ok x
ap_ok {A} (Ok y) x e = ap (λ (r : Result A TgsRefusal). again r) e
  where
    again : Result A TgsRefusal → Result A ApRefusal
    again (Ok z) = Ok z
    again (Err r) = Ok y
ap_ok (Err r) x e = absurd cc

module _ (v : TicketView) (message : Received) where
  -- the row of that service was found
  row_found : (service : Name) (tgs asked : Bool) → is_for_tgs v.realm service ≡ tgs
      → is_for_asked message.body.value service ≡ asked → (row : Row)
      → row_of v (if tgs then Tgs else if asked then AskedFor else Other) ≡ Some row
      → IsServiceRow v message.body.value service row
  row_found service true asked t a row e = inl (t, e)
  row_found service false true t a row e = inr (a, (service_of v.service row e).0, (service_of v.service row e).1)
  row_found service false false t a row e = absurd cc

  -- a key of that service was found
  key_found : (ap : ApReq) (part : EncTicketPart) → value_ap_req (tgs_data message) ≡ Some ap
      → pointwise nat_eq ap.ticket.realm v.realm ≡ true → (found : Option Row)
      → holder v message.body.value ap.ticket ≡ found → (key : Option Key)
      → key_named found ap.ticket.enc_part.etype ap.ticket.enc_part.kvno ≡ key
      → opened_with enc_ticket_part (usage_number TicketUsage) key ap.ticket.enc_part.cipher ≡ Some part
      → IsShown v message part
  key_found ap part presents realm (Some r) row (Some k) key opens = record {
    ap = ap;
    presents = presents;
    of_realm = realm;
    row = r;
    of_service = row_found ap.ticket.sname (is_for_tgs v.realm ap.ticket.sname)
        (is_for_asked message.body.value ap.ticket.sname) refl refl r row;
    key = k;
    of_row = key;
    opens = opens;
  }
  key_found ap part presents realm found row None key opens = absurd cc
  key_found ap part presents realm None row (Some k) key opens = absurd cc

  -- a decrypted ticket is one that the request shows
  pub opened_shown : (o : OpenedTicket) → opened_ticket v message ≡ Ok o → IsShown v message o.part
  opened_shown o e =
      let (ap, reads, rest) = stage_ok (ap_req_of message) (λ ap. shown_ticket v message.body.value ap >>= (λ part. Ok (record { ap = ap; part = part }))) o e in
      let (part, shows, made) = stage_ok (shown_ticket v message.body.value ap) (λ part. Ok (record { ap = ap; part = part })) o rest in
      let held = held_key v message.body.value ap.ticket in
      let found : shown held ap ≡ Ok part = ap_ok (shown held ap) part shows in
      let clear = decided_clear (ticket_rules held ap) (part_of held ap.ticket.enc_part) TicketNotOpened part found in
      let ours = and_parts (pointwise nat_eq ap.ticket.realm v.realm) _
      (is_true held.is_for_us (clear_of place_of NotForUs (ticket_rules held ap) clear)) in
      subst (λ (x : OpenedTicket). IsShown v message x.part) (ok_is {R = TgsRefusal} (record { ap = ap; part = part }) o made)
      (key_found ap part (decided_found (request_rules message)
      (value_ap_req (tgs_data message)) MalformedApReq ap reads)
      ours.0 (holder v message.body.value ap.ticket) refl held.key refl
      (decided_found (ticket_rules held ap) (part_of held ap.ticket.enc_part) TicketNotOpened part found))

  pub presented_shown : (p : Presented) → presented v message ≡ Ok p → IsShown v message p.ticket
  presented_shown p e =
      let (o, opens, same) = ticket_opened v message p e in
      subst (λ (part : EncTicketPart). IsShown v message part) same (opened_shown o opens)
