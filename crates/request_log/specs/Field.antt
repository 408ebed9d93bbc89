-- The fields of a log entry.
use Rattle.std.specs.Prelude.{ℕ, Bool, true, false, List, [], ◌∷◌, ◌++◌, codes}
use Rattle.request_log.specs.declared.field.FieldName.{FieldName}
use Rattle.request_log.specs.declared.field.FieldName.TheVariants.{Time, Peer, Transport, Exchange, Client, Service}
use Rattle.request_log.specs.declared.field.FieldName.TheVariants.{Outcome, Lifetime, Code, Reason, Rule, Etype}
use Rattle.request_log.specs.declared.field.FieldName.TheVariants.{Flags, Until, Renew, Repeat, Sent}

-- a field: a name, and the bytes of its value
pub record Field : Type 0 where
  pub name : FieldName
  pub value : List ℕ

abbrev pub field : FieldName → List ℕ → Field
field name value = record { name = name; value = value }

-- the name as the log writes it
abbrev pub name_text : FieldName → List ℕ
name_text Time = codes "time"
name_text Peer = codes "peer"
name_text Transport = codes "transport"
name_text Exchange = codes "exchange"
name_text Client = codes "client"
name_text Service = codes "service"
name_text Outcome = codes "outcome"
name_text Lifetime = codes "lifetime"
name_text Code = codes "code"
name_text Reason = codes "reason"
name_text Rule = codes "rule"
name_text Etype = codes "etype"
name_text Flags = codes "flags"
name_text Until = codes "until"
name_text Renew = codes "renew"
name_text Repeat = codes "repeat"
name_text Sent = codes "sent"

-- whether a line of text has this value at a fixed place, without its name
abbrev pub is_column : FieldName → Bool
is_column Time = true
is_column Peer = true
is_column Transport = true
is_column Exchange = true
is_column Client = true
is_column Service = true
is_column Outcome = true
is_column Lifetime = true
is_column Code = true
is_column Reason = true
is_column Rule = false
is_column Etype = false
is_column Flags = false
is_column Until = false
is_column Renew = false
is_column Repeat = false
is_column Sent = false

-- fields, followed by others one by one
abbrev pub with_fields : List Field → List Field → List Field
with_fields fields [] = fields
with_fields fields (f ∷ others) = with_fields (fields ++ f ∷ []) others
