-- What a client presents to a service: AP-REQ (RFC 4120, sections 3.2.2 and 5.5.1).
use Rattle.std.specs.Prelude.{ℕ, Bool, if◌then◌else◌, List}
use Rattle.cred_files.specs.declared.principal.Principal.{Principal}
use Rattle.enctypes.specs.KeyUsage.{usage_number}
use Rattle.enctypes.specs.declared.key_usage.KeyUsage.TheVariants.{ApReqAuthenticator}
use Rattle.krb_types.specs.ApReq.{ApReq}
use Rattle.krb_fields.specs.ApOption.{ap_option_number}
use Rattle.krb_fields.specs.declared.ap_option.ApOption.TheVariants.{MutualRequired}
use Rattle.krb_fields.specs.Flags.{with_bit}
use Rattle.krb_fields.specs.declared.moment.Moment.{Moment}
use Rattle.krb_types.specs.Authenticator.{Authenticator}
use Rattle.client_core.specs.declared.service_asked.ServiceAsked.{ServiceAsked}
use Rattle.client_core.specs.Presenting.{authenticator_of, presents}
use Rattle.client_core.specs.declared.sessions.Session.{Session}

abbrev pub ap_options : Bool → ℕ
ap_options required = if required then with_bit 0 (ap_option_number MutualRequired) else 0

abbrev pub ap_authenticator : Principal → Moment → ServiceAsked → Authenticator
ap_authenticator client at asked = authenticator_of client at asked.checksum asked.subkey asked.seq_number

-- `client` is the credential's, and `session` is its session
abbrev pub asks_ap : Principal → Session → Moment → ServiceAsked → List ℕ → ApReq
asks_ap client session at asked confounder =
    presents session (ap_options asked.mutual_required) (usage_number ApReqAuthenticator) confounder
    (ap_authenticator client at asked)
