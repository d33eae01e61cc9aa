use Rattle.std.proofs.Common.{◌≡◌, ◌<◌}
use Rattle.demo.specs.Draws.{draw, draw_bound}
use Rattle.demo.proofs.draws.draw_at.Given as goal

abbrev pub invariant-loop : goal.invariant-loop
invariant-loop l = record { small : l.draw < draw_bound; is : l.draw ≡ draw l.number l.counter }
