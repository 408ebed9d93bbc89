use Rattle.std.proofs.Common.{◌∙◌, ap, bytes_eq}
use Rattle.std.specs.Prelude.{find}
use Rattle.text_fields.specs.Settings.{field_named, setting_name, settings_of}
use Rattle.text_fields.proofs.settings.field_named.Goals as goal

pub returns : goal.returns
unfolding field_named
returns c =
    c.copied.ensures
    ∙ c.named.ensures
    ∙ ap (find (λ setting. bytes_eq (setting_name setting) c.args.name.now)) (c.all.ensures.settings ∙ ap settings_of c.default.ensures)
