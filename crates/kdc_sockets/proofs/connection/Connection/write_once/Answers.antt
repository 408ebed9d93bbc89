use Rattle.std.proofs.Common.{rules, ◌≡◌, ◌+◌, ◌-◌, ◌++◌, ◌≤◌, length, take, drop}
use Rattle.kdc_sockets.proofs.Unsent.{left_of_rotated}
use Rattle.kdc_sockets.proofs.connection.Connection.write_once.Goals as goal

pub returns-in-Ok-clause-left : goal.returns-in-Ok-clause-left
returns-in-Ok-clause-left c =
    let fits : c.in-Ok.sent ≤ length c.args.self.now.unsent.items = search rules in
    let turned : c.rotate_left.new.self.items ≡ drop c.in-Ok.sent c.args.self.now.unsent.items ++ take c.in-Ok.sent c.args.self.now.unsent.items = search rules in
    let cut : c.truncate.new.self.items ≡ take (c.len.result - c.in-Ok.sent) c.rotate_left.new.self.items = search rules in
    let counted : (c.len.result - c.in-Ok.sent) + c.in-Ok.sent ≡ length c.args.self.now.unsent.items = search rules in
    left_of_rotated c.args.self.now.unsent.items c.rotate_left.new.self.items c.truncate.new.self.items c.in-Ok.sent (c.len.result - c.in-Ok.sent) fits turned cut counted
