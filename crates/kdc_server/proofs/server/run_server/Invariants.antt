use Rattle.kdc_server.proofs.server.run_server.Given as goal

abbrev pub ghosts-live : goal.ghosts-live
ghosts-live g a = record { journal = g.H.Journal.JournalWriter.state a.wire.journal }
