-- The decrypted contents of an AP-REQ for which every step succeeds.
use Rattle.std.proofs.Common.{◌≡◌, List, Option, Result, Ok, ap, ◌∙◌}
use Rattle.enctypes.specs.declared.key.Key.{Key}
use Rattle.enctypes.specs.declared.key_usage.KeyUsage.TheVariants.{ApReqAuthenticator}
use Rattle.krb_types.specs.ApReq.{ApReq}
use Rattle.krb_types.specs.Authenticator.{Authenticator}
use Rattle.krb_types.specs.EncTicketPart.{EncTicketPart}
use Rattle.cred_files.specs.declared.keytab_entry.KeytabEntry.{KeytabEntry}
use Rattle.rule_lists.specs.Stages.{◌>>=◌}
use Rattle.ap_req.specs.Authenticators.{authenticator_of, session_key_of}
use Rattle.ap_req.specs.Keytab.{held_in}
use Rattle.ap_req.specs.Tickets.{shown_ticket}
use Rattle.ap_req.specs.declared.authenticated.Authenticated.{Authenticated}
use Rattle.ap_req.specs.declared.refusal.ApRefusal.{ApRefusal}
use Rattle.ap_accept.specs.Authenticators.{subkey_of}
use Rattle.ap_accept.specs.Presented.{authenticated, presented, presented_as}
use Rattle.ap_accept.specs.declared.presented.Presented.{Presented}

module _ (request : ApReq) where
  -- the rest after each step
  abbrev pub by_subkey : Key → Authenticator → Option Key → Result Authenticated ApRefusal
  by_subkey key auth subkey = Ok (record { session_key = key; authenticator = auth; subkey = subkey })

  abbrev pub by_authenticator : EncTicketPart → Key → Authenticator → Result Authenticated ApRefusal
  by_authenticator part key auth = subkey_of part auth >>= λ subkey. by_subkey key auth subkey

  abbrev pub by_session_key : EncTicketPart → Key → Result Authenticated ApRefusal
  by_session_key part key = authenticator_of ApReqAuthenticator key request.authenticator >>= λ auth. by_authenticator part key auth

  abbrev pub by_shown : EncTicketPart → Authenticated → Result Presented ApRefusal
  by_shown part shown = Ok (presented_as request part shown.session_key shown.authenticator shown.subkey)

  abbrev pub by_ticket : EncTicketPart → Result Presented ApRefusal
  by_ticket part = authenticated request part >>= λ shown. by_shown part shown

  pub all_found : (keytab : List KeytabEntry) (part : EncTicketPart) (key : Key) (auth : Authenticator)
      (subkey : Option Key)
      → shown_ticket (held_in keytab request.ticket) request ≡ Ok part → session_key_of request.ticket.realm part ≡ Ok key
      → authenticator_of ApReqAuthenticator key request.authenticator ≡ Ok auth → subkey_of part auth ≡ Ok subkey
      → presented keytab request ≡ Ok (presented_as request part key auth subkey)
  all_found keytab part key auth subkey opens keyed shows chosen =
      ap (λ (r : Result EncTicketPart ApRefusal). r >>= by_ticket) opens
      ∙ ap (λ (r : Result Key ApRefusal). (r >>= by_session_key part) >>= by_shown part) keyed
      ∙ ap (λ (r : Result Authenticator ApRefusal). (r >>= by_authenticator part key) >>= by_shown part) shows
      ∙ ap (λ (r : Result (Option Key) ApRefusal). (r >>= by_subkey key auth) >>= by_shown part) chosen
