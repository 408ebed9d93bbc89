use Rattle.std.proofs.Common.{◌≡◌, ◌++◌, ◌<◌, ◌^◌, length}
use Rattle.krb_elements.specs.Codec.{string}
use Rattle.krb_elements.specs.CodecLaws.{AllFit}
use Rattle.krb_elements.specs.Written.{items_text}
use Rattle.krb_elements.specs.Continues.{Continues}
use Rattle.kdc_replies.proofs.sent_names.put_components.Given as goal

abbrev pub invariant-loop-component : goal.invariant-loop-component
invariant-loop-component l =
    let text = items_text string.tag string.text in
    record {
      told : l.out ++ text l.component-iterator ≡ l.fn.out ++ text l.components;
      short : length (text l.component-iterator) < 2 ^ 32;
      fits : AllFit string.Fits l.component-iterator → AllFit string.Fits l.components;
      kept : Continues l.fn.out l.out;
    }
