use Rattle.std.proofs.Common.{rules}
use Rattle.kadm_changes.proofs.Paths.{free_path}
use Rattle.kadm_changes.proofs.keytabs.check_path.Goals as goal

pub returns-clause-free : goal.returns-clause-free
returns-clause-free g c =
    free_path _ _ c.args.path.now c.in_ok-has_lock.field-0 c.in_ok-first.first c.in_ok-has_lock.ensures.unchanged c.if-ends_with.ensures.cases
    c.in_ok-has_lock.ensures.there (search rules) c.in_ok-first.ensures.first (c.is_other_file.ensures c.if-is_other_file.false)
