use Rattle.std.proofs.Common.{◌∙◌, List, ℕ, ltb, length, ap}
use Rattle.std.specs.List.{list_all}
use Rattle.cred_files.proofs.KeytabTexts.{counted_all}
use Rattle.cred_files.proofs.keytab_entry.has_counts.Goals as goal

pub returns-then-as_slice-le-MOST-clause-no : goal.returns-then-as_slice-le-MOST-clause-no
returns-then-as_slice-le-MOST-clause-no c counts =
    c.are_counted.ensures ∙ ap (λ (l : List (List ℕ)). list_all (λ k. ltb (length k) 65536) l) c.as_slice-components.ensures ∙ counted_all c.args.entry.now.name.components counts.2
