use Rattle.journal.proofs.Chains.{not_broken}
use Rattle.journal.proofs.found_files.found_in.Goals as goal

pub returns-in-Err-Broken : goal.returns-in-Err-Broken
returns-in-Err-Broken c =
    let (shown, shows, is) = c.shown_in.ensures in (
      λ j s. not_broken c.in-Err-Broken.field-0 _ c.in-Err-Broken.field-0-is (c.in-Err-Broken.ensures.only j.header j.entries s.has_header s.have_elements s.text_is),
      shown,
      shows,
      is,
    )
