-- The numbers by which C knows the results of calls.
use Rattle.std.specs.Prelude.{ℤ, pos, negsuc, Option, Some, None, Result, Ok, Err}
use Rattle.krb_fields.specs.Code as codes
use Rattle.krb_fields.specs.declared.code.Code.TheVariants.{KrbApErrInappCksum, KrbApErrModified}
use Rattle.ap_req.specs.Refusal.{code_of}
use Rattle.ap_accept.specs.declared.accepted.Accepted.{Accepted}
use Rattle.ap_accept.specs.declared.checksum.ChecksumVerdict.{ChecksumVerdict}
use Rattle.ap_accept.specs.declared.checksum.ChecksumVerdict.TheVariants as checksums
use Rattle.ap_accept.specs.declared.fault.ApFault.{ApFault}
use Rattle.ap_accept.specs.declared.fault.ApFault.TheVariants as faults
use Rattle.cred_files.specs.declared.fault.CredError.{CredError}
use Rattle.cred_files.specs.declared.fault.CredError.TheVariants as files
use Rattle.ap_accept_c.specs.declared.status.Status.{Status}
use Rattle.ap_accept_c.specs.declared.status.Status.TheVariants.{Done, NotAnApReq, NoMemory, BadArgument, TooSmall}
use Rattle.ap_accept_c.specs.declared.status.Status.TheVariants.{BadKeytab, Closed, Absent, BadSaved, Refused}
use Rattle.ap_accept_c.specs.declared.status.Status.TheVariants.{Failed}

-- negsuc n is the number -n - 1
abbrev pub number_of : Status → ℤ
number_of Done = pos 0
number_of NotAnApReq = negsuc 0
number_of NoMemory = negsuc 1
number_of BadArgument = negsuc 2
number_of TooSmall = negsuc 3
number_of BadKeytab = negsuc 4
number_of Closed = negsuc 5
number_of Absent = negsuc 6
number_of BadSaved = negsuc 8
number_of (Refused refusal) = codes.number_of (code_of refusal)
number_of (Failed code) = codes.number_of code

abbrev pub status_of : ApFault → Status
status_of faults.NotAnApReq = NotAnApReq
status_of (faults.Refused refusal) = Refused refusal
status_of faults.Memory = NoMemory

-- the status for the answer to an AP-REQ
abbrev pub status_of_answer : Result Accepted ApFault → Status
status_of_answer (Ok accepted) = Done
status_of_answer (Err fault) = status_of fault

-- the status for a check of the authenticator's checksum
abbrev pub status_of_checksum : ChecksumVerdict → Status
status_of_checksum checksums.Matches = Done
status_of_checksum checksums.Absent = Absent
status_of_checksum checksums.OtherType = Failed KrbApErrInappCksum
status_of_checksum checksums.Modified = Failed KrbApErrModified

-- the status for a keytab, or a saved acceptor, that could not be read
abbrev pub status_of_unread : CredError → Status → Status
status_of_unread files.Memory unread = NoMemory
status_of_unread files.BadMagic unread = unread
status_of_unread files.Truncated unread = unread
status_of_unread files.BadEntry unread = unread
status_of_unread files.TooLate unread = unread
status_of_unread files.Absent unread = unread
