use Rattle.std.proofs.Common.{rules}
use Rattle.journal.proofs.Lengths.{four_length, one_length, five_length, three_length, two_length}
use Rattle.journal.proofs.showing.length_len.Goals as goal

pub returns-in-0-to-127-clause-is : goal.returns-in-0-to-127-clause-is
returns-in-0-to-127-clause-is c = one_length c.args.len (search rules)

pub returns-in-128-to-255-clause-is : goal.returns-in-128-to-255-clause-is
returns-in-128-to-255-clause-is c = two_length c.args.len (search rules) (search rules)

pub returns-in-256-to-65535-clause-is : goal.returns-in-256-to-65535-clause-is
returns-in-256-to-65535-clause-is c = three_length c.args.len (search rules) (search rules)

pub returns-in-65536-to-16777215-clause-is : goal.returns-in-65536-to-16777215-clause-is
returns-in-65536-to-16777215-clause-is c = four_length c.args.len (search rules) (search rules)

pub returns-in_default-clause-is : goal.returns-in_default-clause-is
returns-in_default-clause-is c = five_length c.args.len (search rules)
