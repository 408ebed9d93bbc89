use Rattle.std.proofs.Common.{◌≡◌, ◌∙◌, ◌++◌, ap, subst, List, ℕ, flat_map}
use Rattle.cred_files.specs.Keytab.{IsKeytab, keytab_text, part_text}
use Rattle.cred_files.specs.declared.keytab_entry.KeytabEntry.{KeytabEntry}
use Rattle.cred_files.proofs.KeytabTexts.{keytab_is}
use Rattle.cred_files.proofs.keytab.Keytab.write.Goals as goal

pub returns-clause-spelled : goal.returns-clause-spelled
returns-clause-spelled c =
    let text : c.put_entries.new.out.items ≡ keytab_text c.deref.result.now = c.in_ok-put_entries.ensures.text ∙ ap (λ (l : List ℕ). l ++ flat_map part_text c.deref.result.now) c.in_ok-out.ensures.items in
    subst (λ (es : List KeytabEntry). IsKeytab es c.put_entries.new.out.items) (c.deref.ensures.value ∙ c.self.view_is)
    (keytab_is c.deref.result.now c.put_entries.new.out.items c.in_ok-put_entries.ensures.spelled text)
