-- A stream that is cut as it comes in.
use Rattle.std.specs.Prelude.{ℕ, List, [], ◌++◌, Option, Some, None}
use Rattle.framing.specs.declared.fault.FrameFault.{FrameFault}
use Rattle.framing.specs.Messages.{Cutting, messages, only_rest}

-- the value of a splitter: the maximum length, the bytes that were not yet returned, and the error that was returned,
-- if any
pub record Splitting : Type 0 where
  pub greatest : ℕ
  pub bytes : List ℕ
  pub fault : Option FrameFault

abbrev pub started : ℕ → Splitting
started greatest = record { greatest = greatest; bytes = []; fault = None }

-- a piece is appended, but ignored after an error
abbrev pub fed_by : Option FrameFault → Splitting → List ℕ → Splitting
fed_by None s piece = record s { bytes = s.bytes ++ piece }
fed_by (Some fault) s piece = s

abbrev pub fed : Splitting → List ℕ → Splitting
fed s piece = fed_by s.fault s piece

-- all messages that are returned until none is whole, and how that ends. An error is returned again
abbrev pub handed_out_by : Option FrameFault → Splitting → Cutting
handed_out_by None s = messages s.greatest s.bytes
handed_out_by (Some fault) s = only_rest s.bytes (Some fault)

abbrev pub handed_out : Splitting → Cutting
handed_out s = handed_out_by s.fault s

-- the state after that
abbrev pub left : Splitting → Splitting
left s = record s { bytes = (handed_out s).rest; fault = (handed_out s).fault }
