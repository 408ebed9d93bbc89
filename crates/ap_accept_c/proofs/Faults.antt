-- Why a keytab could not be read; and that the numbers name no moment.
use Rattle.std.proofs.Common.{◌≡◌, ℕ, List, Err}
use Rattle.cred_files.specs.Keytab.{IsKeytab}
use Rattle.cred_files.specs.Reading.{IsReadUnlessMemory}
use Rattle.cred_files.specs.declared.fault.CredError.{CredError}
use Rattle.cred_files.specs.declared.fault.CredError.TheVariants.{BadMagic, Truncated, BadEntry, TooLate, Absent, Memory}
use Rattle.cred_files.specs.declared.keytab_entry.KeytabEntry.{KeytabEntry}
use Rattle.ap_accept_c.specs.Service.{IsKeytabFault, IsOpenFault, IsRekeyed, IsResumeFault}
use Rattle.ap_accept_c.specs.Status.{status_of_unread}
use Rattle.ap_accept_c.specs.declared.service.Service.{Service}
use Rattle.ap_accept_c.specs.declared.status.Status.{Status}
use Rattle.ap_accept_c.specs.declared.status.Status.TheVariants as statuses

-- an error that is not the keytab's is out of memory
pub not_read : (fault : CredError) (octets : List ℕ)
    → ((keytab : List KeytabEntry) → IsKeytab keytab octets → IsReadUnlessMemory {X = List KeytabEntry} (Err fault) keytab)
    → IsKeytabFault (status_of_unread fault statuses.BadKeytab) octets
not_read BadMagic octets only = only
not_read Truncated octets only = only
not_read BadEntry octets only = only
not_read TooLate octets only = only
not_read Absent octets only = only
not_read Memory octets only = tt

-- then an acceptor is not opened with it
pub not_opened : (status : Status) (octets : List ℕ) (remembered : ℕ) → IsKeytabFault status octets
    → IsOpenFault status octets remembered
not_opened statuses.Done octets remembered h = h
not_opened statuses.NotAnApReq octets remembered h = h
not_opened statuses.NoMemory octets remembered h = h
not_opened statuses.BadArgument octets remembered h = absurd h
not_opened statuses.TooSmall octets remembered h = h
not_opened statuses.BadKeytab octets remembered h = h
not_opened statuses.Closed octets remembered h = h
not_opened statuses.Absent octets remembered h = h
not_opened statuses.BadSaved octets remembered h = h
not_opened (statuses.Refused refusal) octets remembered h = h
not_opened (statuses.Failed code) octets remembered h = h

-- nor does one resume
pub not_resumed : (status : Status) (octets : List ℕ) (remembered : ℕ) (saved : List ℕ) → IsKeytabFault status octets
    → IsResumeFault status octets remembered saved
not_resumed statuses.Done octets remembered saved h = h
not_resumed statuses.NotAnApReq octets remembered saved h = h
not_resumed statuses.NoMemory octets remembered saved h = h
not_resumed statuses.BadArgument octets remembered saved h = absurd h
not_resumed statuses.TooSmall octets remembered saved h = h
not_resumed statuses.BadKeytab octets remembered saved h = h
not_resumed statuses.Closed octets remembered saved h = h
not_resumed statuses.Absent octets remembered saved h = h
not_resumed statuses.BadSaved octets remembered saved h = absurd h
not_resumed (statuses.Refused refusal) octets remembered saved h = h
not_resumed (statuses.Failed code) octets remembered saved h = h

-- and no keys are replaced by it
pub not_replaced : (status : Status) (old new : Service) (octets : List ℕ) → new ≡ old → IsKeytabFault status octets
    → IsRekeyed status old new octets
not_replaced statuses.Done old new octets same h = absurd h
not_replaced statuses.NotAnApReq old new octets same h = (same, h)
not_replaced statuses.NoMemory old new octets same h = (same, h)
not_replaced statuses.BadArgument old new octets same h = (same, h)
not_replaced statuses.TooSmall old new octets same h = (same, h)
not_replaced statuses.BadKeytab old new octets same h = (same, h)
not_replaced statuses.Closed old new octets same h = (same, h)
not_replaced statuses.Absent old new octets same h = (same, h)
not_replaced statuses.BadSaved old new octets same h = (same, h)
not_replaced (statuses.Refused refusal) old new octets same h = (same, h)
not_replaced (statuses.Failed code) old new octets same h = (same, h)
