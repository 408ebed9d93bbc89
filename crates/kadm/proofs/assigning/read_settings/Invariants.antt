use Rattle.std.proofs.Common.{◌≡◌, ◌++◌, length}
use Rattle.kadm_changes.specs.Asking.{all_asked}
use Rattle.kadm_changes.specs.Texts.{texts}
use Rattle.kadm.specs.Assigning.{setting_at, settings_of}
use Rattle.kadm.specs.Values.{found_at, listed}
use Rattle.kadm.proofs.assigning.read_settings.Given as goal

-- the settings so far, with those at the coming words, are all
abbrev pub invariant-loop-rest : goal.invariant-loop-rest
invariant-loop-rest l =
    all_asked l.settings.items ++ found_at (λ word others. listed (setting_at (texts l.words) word others)) (texts l.rest)
    ≡ settings_of (texts l.words)

abbrev pub decreases-loop-rest : goal.decreases-loop-rest
decreases-loop-rest l = length l.rest
