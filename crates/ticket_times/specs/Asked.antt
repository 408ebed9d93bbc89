-- What a request asks for.
use Rattle.std.specs.Prelude.{Bool, ◌||◌}
use Rattle.krb_fields.specs.Flags.{has_bit}
use Rattle.krb_fields.specs.declared.kdc_option.KdcOption.{KdcOption}
use Rattle.krb_fields.specs.declared.kdc_option.KdcOption.TheVariants.{Renew, Validate}
use Rattle.krb_fields.specs.KdcOption.{kdc_option_number}
use Rattle.krb_types.specs.ReqBody.{ReqBody}

-- the request asks for the option
abbrev pub asks : ReqBody → KdcOption → Bool
asks body option = has_bit body.kdc_options (kdc_option_number option)

-- the request renews or validates the presented ticket
abbrev pub keeps_ticket : ReqBody → Bool
keeps_ticket body = asks body Renew || asks body Validate
