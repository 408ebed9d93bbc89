use Rattle.std.proofs.Common.{◌≡◌, ◌++◌, take}
use Rattle.std.specs.Str.{IsAscii}
use Rattle.krb_fields.specs.NameText.{text_of}
use Rattle.krb_fields.proofs.name_text.Name.push_text.Given as goal

abbrev pub invariant-loop-i : goal.invariant-loop-i
invariant-loop-i l =
    (l.text.items ≡ l.initial.text.items ++ text_of (take l.i l.component-items))
    × IsAscii (text_of (take l.i l.component-items))
