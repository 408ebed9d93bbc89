use Rattle.std.proofs.Common.{◌≡◌, ◌≤◌, length, map, take}
use Rattle.std.specs.List.{All}
use Rattle.krb_fields.specs.NameLimits.{IsComponent}
use Rattle.krb_fields.specs.NameText.{component_text}
use Rattle.krb_fields.proofs.TextLaws.{parts_of}
use Rattle.krb_fields.proofs.name_text.components_from_text.Given as goal

-- the components so far are those of the parts that were read
abbrev pub invariant-loop-part : goal.invariant-loop-part
invariant-loop-part l =
    (map component_text l.components ≡ take (length l.yielded) (parts_of l.text)) × (length l.components ≡ length l.yielded) × (length l.components ≤ 16) × All IsComponent l.components
