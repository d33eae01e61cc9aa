use Rattle.std.proofs.Common.{◌≡◌, inl, inr, [], length, ap, arith}
use Rattle.std.proofs.lemmas.Bool.{cases_eq, cases_lt}
use Rattle.std.proofs.lemmas.List.{get_or_past}
use Rattle.interleavings.specs.TraceLists.{events_of}
use Rattle.linkage.proofs.rounds.longest.Goals as goal

pub loop-thread-preserved : goal.loop-thread-preserved
loop-thread-preserved c = record {
  longest = λ thread before. elim (cases_eq thread c.loop-thread.thread) [
    | inl here ↦ let same : length (events_of c.args.traces.now thread) ≡ length (events_of c.args.traces.now c.loop-thread.thread) = ap (λ t. length (events_of c.args.traces.now t)) here in omega arith
    | inr apart ↦ elim (cases_lt thread c.loop-thread.thread) [
      | inl less ↦ let known = c.loop-thread.invariant.longest thread less in omega arith
      | inr more ↦ absurd (apart (omega arith))
    ]
  ];
  small = omega arith;
}

pub returns-clause-longest : goal.returns-clause-longest
returns-clause-longest c = λ thread. elim (cases_lt thread (length c.args.traces.now.events)) [
  | inl less ↦ c.loop-thread.invariant.longest thread (omega arith)
  | inr past ↦ let none = ap length (get_or_past c.args.traces.now.events thread [] past) in omega arith
]
