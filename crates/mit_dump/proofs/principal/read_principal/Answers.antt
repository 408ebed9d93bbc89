use Rattle.mit_dump.proofs.principal.read_principal.Goals as goal

pub returns : goal.returns
returns c = record {
  counts = c.in_ok-counts.counts;
  behind_counts = c.read_counts.new.fields;
  counted = c.in_ok-counts.ensures;
  behind_name = c.read_name.new.fields;
  named = c.in_ok-full.ensures;
  behind_numbers = c.read_numbers.new.fields;
  numbers = c.in_ok-numbers.ensures;
  behind_logins = c.skip_logins.new.fields;
  logins = c.in_ok-skip_logins.ensures;
  behind_tagged = c.read_parts.new.fields;
  tagged = c.in_ok-tagged.ensures;
  end = c.read_keys.new.fields;
  keys = c.in_ok-keys.ensures;
  ended = c.in_ok-check_end.ensures;
}
