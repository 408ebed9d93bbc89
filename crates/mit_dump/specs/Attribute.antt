-- The attributes of a principal in MIT's database: 32 bits, numbered from the most significant, so that bit 31 is 1.
use Rattle.std.specs.Prelude.{ℕ}
use Rattle.mit_dump.specs.declared.attribute.Attribute.{Attribute}
use Rattle.mit_dump.specs.declared.attribute.Attribute.TheVariants.{DisallowPostdated, DisallowForwardable}
use Rattle.mit_dump.specs.declared.attribute.Attribute.TheVariants.{DisallowTgsReq, DisallowRenewable}
use Rattle.mit_dump.specs.declared.attribute.Attribute.TheVariants.{DisallowProxiable, DisallowDupSkey}
use Rattle.mit_dump.specs.declared.attribute.Attribute.TheVariants.{DisallowAllTix, RequiresPreAuth, RequiresHwAuth}
use Rattle.mit_dump.specs.declared.attribute.Attribute.TheVariants.{RequiresPwchange, DisallowSvr, PwchangeService}
use Rattle.mit_dump.specs.declared.attribute.Attribute.TheVariants.{OkAsDelegate, OkToAuthAsDelegate}

-- above each is the number as MIT's `kdb.h` writes it
abbrev pub attribute_number : Attribute → ℕ
-- 0x00000001
attribute_number DisallowPostdated = 31
-- 0x00000002
attribute_number DisallowForwardable = 30
-- 0x00000004
attribute_number DisallowTgsReq = 29
-- 0x00000008
attribute_number DisallowRenewable = 28
-- 0x00000010
attribute_number DisallowProxiable = 27
-- 0x00000020
attribute_number DisallowDupSkey = 26
-- 0x00000040
attribute_number DisallowAllTix = 25
-- 0x00000080
attribute_number RequiresPreAuth = 24
-- 0x00000100
attribute_number RequiresHwAuth = 23
-- 0x00000200
attribute_number RequiresPwchange = 22
-- 0x00001000
attribute_number DisallowSvr = 19
-- 0x00002000
attribute_number PwchangeService = 18
-- 0x00100000
attribute_number OkAsDelegate = 11
-- 0x00200000
attribute_number OkToAuthAsDelegate = 10
