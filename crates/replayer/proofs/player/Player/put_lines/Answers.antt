use Rattle.std.proofs.Common.{◌++◌, ◌<◌, ◌∙◌, ap, drop, length, sym, take, true}
use Rattle.sc_machine.specs.Transcript.{tagged}
use Rattle.replayer.proofs.FirstLines.{fewer_left, line_put, line_within, some_left}
use Rattle.replayer.proofs.player.Player.put_lines.Goals as goal

pub split_at-requires : goal.split_at-requires
split_at-requires c = rw c.line_len.ensures (line_within c.loop-rest.rest.now)

pub loop-rest-smaller : goal.loop-rest-smaller
loop-rest-smaller c =
    let rest = c.loop-rest.rest.now in
    let after = c.split_at.result.1.now in
    let some : 0 < length rest = some_left rest (sym c.is_empty.ensures ∙ c.loop-rest-test.true) in
    fewer_left rest after some (c.split_at.ensures.back ∙ ap (λ n. drop n rest) c.line_len.ensures)

pub loop-rest-preserved : goal.loop-rest-preserved
loop-rest-preserved c =
    let number = c.args.self.now.thread.number in
    let put = c.loop-rest.transcript.items in
    let rest = c.loop-rest.rest.now in
    let whole = c.args.transcript.now.items ++ tagged number true c.args.printed.now in
    let label = c.as_slice.result.now in
    let line = c.split_at.result.0.now in
    let after = c.split_at.result.1.now in
    let some : 0 < length rest = some_left rest (sym c.is_empty.ensures ∙ c.loop-rest-test.true) in
    let front = c.split_at.ensures.front ∙ ap (λ n. take n rest) c.line_len.ensures in
    let back = c.split_at.ensures.back ∙ ap (λ n. drop n rest) c.line_len.ensures in
    rw (c.in_ok-push_all-2.ensures.items, c.in_ok-push_all.ensures.items)
    (line_put number put rest whole label line after some (c.as_slice.ensures ∙ c.args.self.now.labelled) front back c.loop-rest.invariant)
