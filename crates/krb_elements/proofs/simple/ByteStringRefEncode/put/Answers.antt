use Rattle.krb_elements.specs.Continues.{appended_whole}
use Rattle.krb_elements.proofs.simple.ByteStringRefEncode.put.Goals as goal

pub returns-clause-kept : goal.returns-clause-kept
returns-clause-kept g c = appended_whole c.put_tlv.result c.args.out.now _ _ c.put_tlv.ensures.ok c.put_tlv.ensures.err
