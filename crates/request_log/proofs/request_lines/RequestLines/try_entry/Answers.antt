use Rattle.std.proofs.Common.{◌≡◌, ℕ, inr, List, Option, Result, Ok, Err, OnOk, ap, subst, ◌∙◌}
use Rattle.std.proofs.KnownBytes.{Appends-trans}
use Rattle.std.specs.Io.KnownBytes.{Appends}
use Rattle.request_log.specs.Log.{ReportsLost, TriesLine}
use Rattle.request_log.specs.declared.request_lines.RequestLines.{RequestLines}
use Rattle.request_log.proofs.request_lines.RequestLines.try_entry.Goals as goal

-- a line behind the report of those that were lost
behind : {W T E : Type 0} (contents : W → Option (List ℕ)) (old middle new : RequestLines W) (line : List ℕ) (r : Result T E) → ReportsLost contents old middle
    → OnOk r (Appends (contents middle.lines) (contents new.lines) line) → new ≡ record middle { lines = new.lines } → TriesLine contents old new line r
behind contents old middle new line (Ok done) reports appends others = record {
  appends = Appends-trans _ _ _ _ _ reports.appends appends;
  format = ap (λ l. l.format) others ∙ reports.format;
  lost = ap (λ l. l.lost) others ∙ reports.lost;
  unreported = ap (λ l. l.unreported) others ∙ reports.unreported;
}
behind contents old middle new line (Err error) reports appends others = record {
  format = ap (λ l. l.format) others ∙ reports.format;
  lost = ap (λ l. l.lost) others ∙ reports.lost;
  unreported = inr (ap (λ l. l.unreported) others ∙ reports.unreported);
}

pub returns : goal.returns
returns g c =
    subst (λ line. TriesLine g.W.Write.contents c.args.self.now c.write_line.new.self line c.write_line.result) (c.deref.ensures.value ∙ c.in_ok-line.ensures)
    (behind g.W.Write.contents c.args.self.now c.report_lost.new.self c.write_line.new.self c.deref.result.now c.write_line.result c.in_ok-report_lost.ensures c.write_line.ensures.lines c.write_line.ensures.others)
