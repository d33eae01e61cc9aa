use Rattle.std.proofs.Common.{sym, ◌∙◌, ap, arith}
use Rattle.std.proofs.Math.Path.{fun_ext}
use Rattle.event_order.specs.Fronts.{waiting}
use Rattle.event_order.proofs.front.Front.new.Goals as goal

pub returns-clause-front : goal.returns-clause-front
returns-clause-front c = record {
  threads = c.in_ok-done.ensures.count ∙ c.threads-threads.ensures.count;
  within = λ thread. let none = c.in_ok-done.ensures.zeros thread in omega arith;
  counts_are = λ slot. c.in_ok-waiting.ensures slot ∙ ap (λ done. waiting c.args.deeds.now done slot) (fun_ext (λ thread. sym (c.in_ok-done.ensures.zeros thread)));
}
