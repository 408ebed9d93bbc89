use Rattle.ap_accept.proofs.Putting.{octets_puts, on_ok}
use Rattle.ap_accept.proofs.saved.KerberosStringSaved.put.Goals as goal

pub returns : goal.returns
returns c =
    on_ok c.append.result (octets_puts c.as_slice-octets.result.now c.args.self.now c.args.out.now.items c.put_word.new.out.items c.append.new.out.items c.as_slice-octets.ensures c.in_ok-put_word.ensures) c.append.ensures
