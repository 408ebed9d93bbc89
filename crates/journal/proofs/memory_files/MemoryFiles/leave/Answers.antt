use Rattle.journal.proofs.memory_files.MemoryFiles.leave.Goals as goal

pub returns-in-Before : goal.returns-in-Before
returns-in-Before c = λ rest is. c.leave_part.ensures c.args.octets.items rest is
