-- The properties of an issued ticket, for the audit record of a request.
use Rattle.kdc_replies.specs.Issue.{Issue}
use Rattle.kdc_replies.specs.declared.granted.Granted.{Granted}

-- the encryption types of its keys, its flags and its times
abbrev pub granted : Issue → Granted
granted issue = record {
  reply_type = issue.reply_key.key.etype;
  ticket_type = issue.service_key.key.etype;
  session_type = issue.grant.session_key.etype;
  flags = issue.grant.flags;
  authtime = issue.grant.authtime;
  times = issue.grant.times;
}
