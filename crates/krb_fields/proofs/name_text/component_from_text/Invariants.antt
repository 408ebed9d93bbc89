use Rattle.std.proofs.Common.{◌≡◌, ◌++◌, ◌<◌, ◌≤◌, length, vec_len}
use Rattle.std.specs.List.{All}
use Rattle.krb_fields.specs.NameText.{component_text}
use Rattle.krb_fields.proofs.name_text.component_from_text.Given as goal

-- the bytes so far are those of the text that was read, and they are at most 255
abbrev pub invariant-loop-rest : goal.invariant-loop-rest
invariant-loop-rest l = (component_text l.octets.items ++ l.rest ≡ l.text) × (vec_len l.octets ≤ 255) × All (λ o. o < 256) l.octets.items

abbrev pub decreases-loop-rest : goal.decreases-loop-rest
decreases-loop-rest l = length l.rest
