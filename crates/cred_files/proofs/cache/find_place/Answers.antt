use Rattle.std.proofs.Common.{rules, ◌≡◌, ◌+◌, get_or, true, false, sym, arith}
use Rattle.cred_files.specs.Cache.{is_for, full_name}
use Rattle.cred_files.proofs.Puts.{put_here, put_next, put_last}
use Rattle.cred_files.proofs.cache.find_place.Goals as goal

pub returns-then-is-clause-some : goal.returns-then-is-clause-some
returns-then-is-clause-some c =
    let item : get_or c.args.credentials.now c.loop-i.i c.index-credentials-i.result ≡ c.index-credentials-i.result = sym c.index-credentials-i.is in
    let here : is_for (full_name c.args.new.now.server) c.index-credentials-i.result ≡ true = search rules in
    (c.loop-i-test.true, put_here c.args.new.now c.args.credentials.now c.loop-i.i (c.loop-i.i + 1) c.index-credentials-i.result (omega arith) c.loop-i-test.true item here c.loop-i.invariant)

pub loop-i-preserved : goal.loop-i-preserved
loop-i-preserved c =
    let item : get_or c.args.credentials.now c.loop-i.i c.index-credentials-i.result ≡ c.index-credentials-i.result = sym c.index-credentials-i.is in
    let here : is_for (full_name c.args.new.now.server) c.index-credentials-i.result ≡ false = search rules in
    put_next c.args.new.now c.args.credentials.now c.loop-i.i (c.loop-i.i + 1) c.index-credentials-i.result (omega arith) c.loop-i-test.true item here c.loop-i.invariant

pub returns-clause-none : goal.returns-clause-none
returns-clause-none c = put_last c.args.new.now c.args.credentials.now c.loop-i.i (omega (arith, c.loop-i-test.false)) c.loop-i.invariant
