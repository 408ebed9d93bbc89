use Rattle.std.proofs.Common.{◌++◌, ap, ◌∙◌, sym, ℕ, List, Result, Ok, Err}
use Rattle.std.specs.Prelude.{OnOk}
use Rattle.krb_elements.proofs.writing.AnyEncode.put.Goals as goal

weaker : {A E : Type 0} (P Q : Type 0) → (P → Q) → (r : Result A E) → OnOk r P → OnOk r Q
weaker P Q f (Ok x) h = f h
weaker P Q f (Err e) h = h

pub put_made-requires : goal.put_made-requires
put_made-requires g c = rw (sym (g.met.T.Fielded.made.text c.args.self.now)) c.requires

pub returns-clause-ok : goal.returns-clause-ok
returns-clause-ok g c = weaker _ _ (λ e. e ∙ ap (λ (l : List ℕ). c.args.out.now ++ l) (sym (g.met.T.Fielded.made.written c.args.self.now))) c.put_made.result c.put_made.ensures.ok

pub returns-clause-fits : goal.returns-clause-fits
returns-clause-fits g c = weaker _ _ (g.met.T.Fielded.made.fits c.args.self.now) c.put_made.result c.put_made.ensures.fits
