use Rattle.std.proofs.Common.{◌≡◌, ℕ, List, ◌++◌}
use Rattle.std.proofs.lemmas.Result.{on_ok_weaker}
use Rattle.kdc_metrics.proofs.Appended.{both}
use Rattle.kdc_metrics.specs.CountText.{counts_text}
use Rattle.kdc_metrics.specs.Numbers.{caches_text, database_text, journal_text, served_text, start_text, version_text}
use Rattle.kdc_metrics.proofs.numbers.push_numbers.Goals as goal

-- seven texts that are appended one after another
seven : (old a b c d e f g t1 t2 t3 t4 t5 t6 new : List ℕ) → t1 ≡ old ++ a → t2 ≡ t1 ++ b → t3 ≡ t2 ++ c → t4 ≡ t3 ++ d
    → t5 ≡ t4 ++ e → t6 ≡ t5 ++ f → new ≡ t6 ++ g → new ≡ old ++ (a ++ (b ++ (c ++ (d ++ (e ++ (f ++ g))))))
seven old a b c d e f g t1 t2 t3 t4 t5 t6 new p1 p2 p3 p4 p5 p6 p7 =
    both old a (b ++ (c ++ (d ++ (e ++ (f ++ g))))) t1 new p1
    (both t1 b (c ++ (d ++ (e ++ (f ++ g)))) t2 new p2
    (both t2 c (d ++ (e ++ (f ++ g))) t3 new p3
    (both t3 d (e ++ (f ++ g)) t4 new p4
    (both t4 e (f ++ g) t5 new p5
    (both t5 f g t6 new p6 p7)))))

pub returns : goal.returns
returns c =
    on_ok_weaker c.push_text.result
    (seven c.args.text.now.items (version_text c.args.version.now) (start_text c.args.numbers.now) (served_text c.args.numbers.now)
    (database_text c.args.numbers.now) (caches_text c.args.numbers.now.caches) (journal_text c.args.numbers.now) (counts_text c.args.counts.now)
    c.push_version.new.text.items c.push_start.new.text.items c.push_served.new.text.items c.push_database.new.text.items
    c.push_caches.new.text.items c.push_journal.new.text.items c.push_text.new.text.items
    c.in_ok-push_version.ensures c.in_ok-push_start.ensures c.in_ok-push_served.ensures c.in_ok-push_database.ensures
    c.in_ok-push_caches.ensures c.in_ok-push_journal.ensures)
    c.push_text.ensures
