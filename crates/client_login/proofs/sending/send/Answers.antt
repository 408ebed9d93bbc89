use Rattle.std.proofs.Common.{subst}
use Rattle.rand_core.specs.Stream.{Stream}
use Rattle.client_login.specs.Draws.{drawn_confounder}
use Rattle.client_login.specs.Sending.{Spells}
use Rattle.client_login.proofs.Moving.{drawn_twice, moved_twice}
use Rattle.client_login.proofs.Wider.{unheard_wider}
use Rattle.client_login.proofs.sending.send.Goals as goal

pub send_once-requires-then-is_error-clause-carried : goal.send_once-requires-then-is_error-clause-carried
send_once-requires-then-is_error-clause-carried g c = λ octets is.
    c.requires.carried.again c.send_once.new.client.at octets c.in_ok-reply.ensures.next
    (subst (λ (random : Stream). Spells c.args.request.now c.send_once.new.client.at (drawn_confounder random) octets)
    c.in_ok-reply.ensures.drawn is)

pub returns-then-is_error-clause-err : goal.returns-then-is_error-clause-err
returns-then-is_error-clause-err g c =
    unheard_wider g.X.Network.finds c.args.client.now.kdcs.places.items c.send_once.new.client.kdcs.places.items g.X.Network.carries g.X.Network.answers
    c.in_ok-reply.ensures.within c.send_once-then-is_error.result c.send_once-then-is_error.ensures.err

pub returns-then-is_error-clause-moved : goal.returns-then-is_error-clause-moved
returns-then-is_error-clause-moved g c =
    moved_twice c.args.client.now.at c.send_once.new.client.at c.send_once-then-is_error.new.client.at c.in_ok-reply.ensures.next c.send_once-then-is_error.ensures.next

pub returns-then-is_error-clause-drawn : goal.returns-then-is_error-clause-drawn
returns-then-is_error-clause-drawn g c =
    drawn_twice (g.R.Rng.stream c.args.rng.now) (g.R.Rng.stream c.send_once.new.rng) (g.R.Rng.stream c.send_once-then-is_error.new.rng)
    c.in_ok-reply.ensures.drawn c.send_once-then-is_error.ensures.drawn
