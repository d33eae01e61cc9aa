use Rattle.std.proofs.Common.{◌≡◌, ap, arith, decimal, drop, length, length-append, length-drop}
use Rattle.std.proofs.lemmas.Fmt.{length-decimal-le}
use Rattle.stride_cli.proofs.reports.line.Line.put_number.Goals as goal

pub write_digits-self-inside-requires : goal.write_digits-self-inside-requires
write_digits-self-inside-requires c =
    let short = length-decimal-le 20 c.args.number (omega arith) (omega arith) (omega arith) in
    let long : length (drop c.self.inside.start c.self.inside.bytes) ≡ length c.args.self.now = ap length c.self.view_is in
    (omega (arith, short, long, length-drop c.self.inside.start c.self.inside.bytes, c.self.told), omega (arith, c.self.told))

pub returns-clause-length : goal.returns-clause-length
returns-clause-length c =
    let short = length-decimal-le 20 c.args.number (omega arith) (omega arith) (omega arith) in
    let written = ap length c.write_digits-self-inside.ensures.written in
    let long : length (drop c.self.inside.start c.self.inside.bytes) ≡ length c.args.self.now = ap length c.self.view_is in
    omega (arith, short, long, written, length-append (decimal c.args.number) (drop c.self.inside.start c.self.inside.bytes))
