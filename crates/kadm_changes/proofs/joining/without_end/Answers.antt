use Rattle.std.proofs.Common.{rules, ◌≡◌, ◌∙◌, ◌-◌, List, ℕ, ap, drop, length, subst, take}
use Rattle.kadm_changes.specs.Keytabs.{EndsIn}
use Rattle.kadm_changes.proofs.KeytabParts.{kept}
use Rattle.kadm_changes.proofs.joining.without_end.Goals as goal

pub returns : goal.returns
returns c =
    let size : c.saturating_sub.result ≡ length c.args.octets.items - c.end_len-end.result = search rules in
    λ keytab is. kept keytab c.args.octets.items c.truncate.new.self.items c.end_len-end.result is
    (subst (λ octets. (e : List ℕ) → EndsIn (drop 2 octets) e → c.end_len-end.result ≡ length e) c.deref.ensures.value c.end_len-end.ensures)
    (c.truncate.ensures.items ∙ ap (λ k. take k c.args.octets.items) size)
