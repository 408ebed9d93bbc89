use Rattle.std.proofs.Common.{◌≡◌, true, false}
use Rattle.std.proofs.lemmas.Str.{IsUtf8-from_ascii}
use Rattle.krb_fields.proofs.name_text.ascii_text.Goals as goal

pub unreachable-requires : goal.unreachable-requires
unreachable-requires c =
    let none : false ≡ true = c.in-Err.ensures.succeeds (IsUtf8-from_ascii c.args.bytes.items c.requires) in
    cc
