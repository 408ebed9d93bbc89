use Rattle.std.proofs.Common.{◌≡◌, ◌++◌, ◌<◌, ◌^◌, length, drop}
use Rattle.krb_elements.specs.CodecLaws.{AllFit}
use Rattle.krb_elements.specs.Written.{items_text}
use Rattle.krb_elements.specs.Continues.{Continues}
use Rattle.krb_elements.proofs.lists.write_items.Given as goal

abbrev pub invariant-loop-item : goal.invariant-loop-item
invariant-loop-item g l =
    let text = items_text g.T.Coded.codec.tag g.T.Coded.codec.text in
    record {
      told : l.out ++ text (drop l.item-index l.items) ≡ l.fn.out ++ text l.items;
      short : length (text (drop l.item-index l.items)) < 2 ^ 32;
      fits : AllFit g.T.Coded.codec.Fits (drop l.item-index l.items) → AllFit g.T.Coded.codec.Fits l.items;
      kept : Continues l.fn.out l.out;
    }
