-- What C's pointer owns.
use Rattle.std.specs.Prelude.{Option, Some, None}
use Rattle.std.specs.Coded.{coded_option}
use base.Fml.{Fml, ftrue}
use base.Stored.{Coded}
use denote.RawPtr.{Ptr}
use Rattle.std_alloc.specs.Box.Ownership.{box_owns}
use Rattle.std_heap.specs.declared.Global.{Global}
use Rattle.std_heap.specs.contracts.GlobalAllocator.TheImpl.{ghosts}
use Rattle.ap_accept_c.specs.contracts.service.Service.{the_row}

-- a boxed service, or nothing
abbrev pub owned_if : Global → Ptr → Option the_row.Denot → Fml
owned_if alloc p None = ftrue
owned_if alloc p (Some service) = box_owns (ghosts.dealloc_token alloc) the_row p service

abbrev pub option_coded : Coded (Option the_row.Denot)
option_coded = coded_option the_row.coded
