use Rattle.krb_elements.specs.Continues.{appended_whole}
use Rattle.krb_fields.proofs.flags_element.FlagsEncode.put.Goals as goal

pub returns-clause-kept : goal.returns-clause-kept
returns-clause-kept c = appended_whole c.put_bits.result c.args.out.now _ _ c.put_bits.ensures.ok c.put_bits.ensures.err
