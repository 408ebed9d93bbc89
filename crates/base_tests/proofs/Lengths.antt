-- The lengths of fields with numbers.
use Rattle.krb_der.specs.IntLaws.{int_short}
use Rattle.krb_elements.proofs.TextLengths.{field_short, optional_number_short}

pub ruleset fields_short = (int_short, field_short, optional_number_short)
