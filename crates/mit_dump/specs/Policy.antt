-- The policy of a principal, from the numbers of a dump.
use Rattle.std.specs.Prelude.{◌==◌, ℕ, ℤ, pos, Bool, not, Option, Some, None, if◌then◌else◌}
use Rattle.krb_fields.specs.Flags.{has_bit}
use Rattle.principal_rows.specs.declared.policy.Policy.{Policy}
use Rattle.principal_rows.specs.Policy.{default_policy}
use Rattle.mit_dump.specs.Attribute.{attribute_number}
use Rattle.mit_dump.specs.declared.attribute.Attribute.{Attribute}
use Rattle.mit_dump.specs.declared.attribute.Attribute.TheVariants.{DisallowPostdated, DisallowForwardable}
use Rattle.mit_dump.specs.declared.attribute.Attribute.TheVariants.{DisallowRenewable, DisallowProxiable}
use Rattle.mit_dump.specs.declared.attribute.Attribute.TheVariants.{DisallowAllTix, RequiresPreAuth}
use Rattle.mit_dump.specs.declared.attribute.Attribute.TheVariants.{RequiresPwchange, DisallowSvr, OkAsDelegate}
use Rattle.mit_dump.specs.declared.principal.Numbers.{Numbers}

abbrev pub has : Numbers → Attribute → Bool
has n attribute = has_bit n.attributes (attribute_number attribute)

-- 0 means never
abbrev pub moment_of : ℕ → Option ℤ
moment_of second = if second == 0 then None else Some (pos second)

-- a password that must be changed counts as expired
abbrev pub password_expiry : Numbers → Option ℤ
password_expiry n = if has n RequiresPwchange then Some (pos 0) else moment_of n.pw_expiration

-- 0 sets no limit
abbrev pub life_of : ℕ → ℕ
life_of seconds = if seconds == 0 then 4294967295 else seconds

abbrev pub renewable_life : Numbers → ℕ
renewable_life n = if has n DisallowRenewable then 0 else n.max_renewable_life

-- a field that a dump does not have gets the value of a new principal
abbrev pub policy_of : Numbers → Policy
policy_of n = record default_policy {
  disabled = has n DisallowAllTix;
  expires = moment_of n.expiration;
  password_expires = password_expiry n;
  greatest_life = life_of n.max_life;
  greatest_renewable = renewable_life n;
  preauth = has n RequiresPreAuth;
  forwardable = not (has n DisallowForwardable);
  proxiable = not (has n DisallowProxiable);
  postdate = not (has n DisallowPostdated);
  ok_as_delegate = has n OkAsDelegate;
  service = not (has n DisallowSvr);
}
