use Rattle.std.proofs.Common.{◌≡◌, ◌+◌, ◌-◌, ◌≤◌, ◌++◌, length, take, drop}
use Rattle.krb_der.proofs.writer.replace_at.Given as goal

-- the bytes so far are in place of the one that was there, and the others have room
abbrev pub invariant-loop-i : goal.invariant-loop-i
invariant-loop-i l = record {
  text : l.out.items ≡ take l.at l.fn.out.items ++ (take l.i l.octets ++ drop (l.at + 1) l.fn.out.items);
  room : l.out.len + (length l.octets - l.i) ≤ l.out.cap;
}
