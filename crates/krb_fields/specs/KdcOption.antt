-- The options of a request to a KDC (RFC 4120 section 5.4.1).
use Rattle.std.specs.Prelude.{ℕ}
use Rattle.krb_fields.specs.declared.kdc_option.KdcOption.{KdcOption}
use Rattle.krb_fields.specs.declared.kdc_option.KdcOption.TheVariants.{
  Forwardable,
  Forwarded,
  Proxiable,
  Proxy,
  AllowPostdate,
  Postdated,
  Renewable,
  DisableTransitedCheck,
  RenewableOk,
  EncTktInSkey,
  Renew,
  Validate,
}

-- the number of its bit
abbrev pub kdc_option_number : KdcOption → ℕ
kdc_option_number Forwardable = 1
kdc_option_number Forwarded = 2
kdc_option_number Proxiable = 3
kdc_option_number Proxy = 4
kdc_option_number AllowPostdate = 5
kdc_option_number Postdated = 6
kdc_option_number Renewable = 8
kdc_option_number DisableTransitedCheck = 26
kdc_option_number RenewableOk = 27
kdc_option_number EncTktInSkey = 28
kdc_option_number Renew = 30
kdc_option_number Validate = 31
