use Rattle.std.proofs.Common.{length, string_bytes}
use denote.Text.{Utf8}
use denote.Shadow.{shadow}
use Rattle.client_files.proofs.Tokens.{IsAhead}
use Rattle.client_files.proofs.settings.with_tokens.Given as goal

-- what was written so far, with a path of what is left, is a path of the name
abbrev pub invariant-loop-front : goal.invariant-loop-front
invariant-loop-front l = shadow (Utf8 l.rest) × IsAhead l.user l.path (string_bytes l.whole) l.rest

abbrev pub decreases-loop-front : goal.decreases-loop-front
decreases-loop-front l = length l.rest
