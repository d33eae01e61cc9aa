use Rattle.std.proofs.Common.{◌≡◌, inl, inr, ap, arith}
use Rattle.std.proofs.lemmas.Bool.{cases_eq, cases_lt}
use Rattle.event_order.specs.Deeds.{size}
use Rattle.event_order.proofs.Waiting.{thread_there}
use Rattle.event_order.proofs.deeds.Deeds.longest.Goals as goal

pub loop-thread-preserved : goal.loop-thread-preserved
loop-thread-preserved c = record {
  longest = λ thread before. elim (cases_eq thread c.loop-thread.thread) [
    | inl here ↦ let same : size c.args.self.now thread ≡ size c.args.self.now c.loop-thread.thread = ap (size c.args.self.now) here in omega arith
    | inr apart ↦ elim (cases_lt thread c.loop-thread.thread) [
      | inl less ↦ let known = c.loop-thread.invariant.longest thread less in omega arith
      | inr more ↦ absurd (apart (omega arith))
    ]
  ];
  small = omega arith;
}

pub returns-clause-longest : goal.returns-clause-longest
returns-clause-longest c = λ thread. elim (cases_lt 0 (size c.args.self.now thread)) [
  | inl some ↦ c.loop-thread.invariant.longest thread (let there = thread_there c.args.self.now thread 0 some in omega arith)
  | inr none ↦ omega arith
]
