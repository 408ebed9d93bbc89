-- What is stored for an authenticator without its request and reply.
use Rattle.std.specs.Prelude.{[]}
use Rattle.replay.specs.declared.keep.Bears.TheVariants.{Error}
use Rattle.replay.specs.declared.keep.Kept.{Kept}

-- no request has these bytes, so whatever comes again is refused
abbrev pub nothing_kept : Kept
nothing_kept = record { request = []; reply = []; bears = Error }
