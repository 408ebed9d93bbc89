-- What each step of `kvno` needs to know.
use Rattle.kclient.proofs.Doing.{collected_more, collected_none, collected_one, written_or_kept}
use Rattle.kclient.proofs.Serving.{held_more, held_there, not_written, put_there, written}

-- a ticket for each service, and for one
pub ruleset each_service = (collected_none, collected_more, held_more)

pub ruleset one_service = (collected_none, collected_one, held_there, put_there)

-- a cache that is written if it has changed
pub ruleset cache_written = (written_or_kept, not_written, written)
