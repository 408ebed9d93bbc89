use Rattle.std.proofs.Common.{rules, ◌≡◌, ◌++◌, subst}
use Rattle.krb_der.specs.Spelling.{tlv}
use Rattle.journal.proofs.checks.take_check.Goals as goal

pub returns-clause-found : goal.returns-clause-found
returns-clause-found c =
    let same : c.in_ok-stated.stated.now ≡ c.args.check.now = search rules in
    subst (λ l. c.args.reader.now ≡ tlv 4 l ++ c.read_octets.new.self) same c.in_ok-stated.ensures.found.0
