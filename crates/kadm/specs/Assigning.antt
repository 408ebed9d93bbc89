-- The settings of a policy that words ask for.
use Rattle.std.specs.Prelude.{◌==◌, true, false, not, List, [], Option, Some, None, option_map, unwrap_or, codes}
use Rattle.std.specs.Prelude.{bytes_eq}
use Rattle.std.specs.Prelude.{if◌then◌else◌}
use Rattle.std.specs.List.{before_first, after_first}
use Rattle.std.specs.Option.{option_or}
use Rattle.command_line.specs.Values.{has_equals, value_at}
use Rattle.kadm_changes.specs.Asking.{Asked}
use Rattle.kadm_changes.specs.Texts.{Text}
use Rattle.kadm.specs.Values.{found_at, has_flag, listed, value_of}

-- a field and its value: FIELD=VALUE. Without an equals sign the value is empty, which no field accepts
abbrev pub assigned : Text → Text × Text
assigned word =
    if has_equals word then (before_first (λ b. b == 0x3D) word, after_first (λ b. b == 0x3D) word) else (word, [])

-- a time must not be past, unless --past is given
abbrev pub asked_ahead : List Text → Text × Text → Asked
asked_ahead words setting =
    record { field = setting.0; value = setting.1; ahead = not (has_flag words (codes "--past")) }

-- the setting that begins at a word, if one does: --set FIELD=VALUE, --field FIELD with the value of --value,
-- --expires TIME, or --disabled
abbrev pub setting_at : List Text → Text → List Text → Option Asked
setting_at words word others =
    option_or (option_map (λ text. asked_ahead words (assigned text)) (value_at (codes "--set") word others))
    (option_or (option_map (λ field. record {
      field = field;
      value = unwrap_or
          (value_of words (codes "--value")) [];
      ahead = false;
    })
    (value_at (codes "--field") word others))
    (option_or (option_map (λ time. asked_ahead words (codes "expires", time))
    (value_at (codes "--expires") word others))
    (if bytes_eq word (codes "--disabled") then Some
    (record { field = codes "disabled"; value = codes "true"; ahead = false }) else None)))

-- all settings that words ask for, in their order
abbrev pub settings_of : List Text → List Asked
settings_of words = found_at (λ word others. listed (setting_at words word others)) words
