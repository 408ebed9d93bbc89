use Rattle.krb_elements.proofs.reading.AnyDecode.look.Goals as goal

pub returns : goal.returns
returns g c = rw (g.met.T.Fielded.made.at c.args.reader.now) c.look_made.ensures
