use Rattle.std.proofs.Common.{rules, ◌≡◌, ◌∙◌, ◌∷◌, not, ap, sym}
use Rattle.std.specs.List.{filter}
use Rattle.std.proofs.lemmas.Fn.{filter_same}
use Rattle.enctypes.specs.Etype.{is_same}
use Rattle.mit_dump.specs.Entries.{with_first}
use Rattle.mit_dump.proofs.entries.put_first.Goals as goal

pub returns : goal.returns
returns c =
    let kept : c.retain.new.self.items ≡ filter (λ other. not (is_same other c.in-Some.etype)) c.args.etypes.now.items
    = filter_same _ (λ other. not (is_same other c.in-Some.etype)) _ (λ x b f called. search rules) _ _ c.retain.ensures.filtered in
    c.in_ok-insert.ensures.items ∙ ap (λ l. c.in-Some.etype ∷ l) kept ∙ sym (ap (λ e. with_first e c.args.etypes.now.items) c.in-Some.is)
