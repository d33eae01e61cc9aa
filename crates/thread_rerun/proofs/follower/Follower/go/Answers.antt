use Rattle.std.proofs.Common.{sym, subst, ap, Option, ◌∙◌, ℕ, unwrap_or}
use Rattle.sc_machine.specs.StandingThread.{standing_after, stop_here}
use Rattle.sc_machine.specs.ThreadRun.{TakesWord}
use Rattle.thread_rerun.proofs.Going.{suits_takes}
use Rattle.thread_rerun.proofs.follower.Follower.go.Goals as goal

pub answer-requires : goal.answer-requires
answer-requires c = subst (λ (word : Option ℕ). TakesWord (stop_here c.args.self.now.thread) word) (sym c.word.ensures) (suits_takes (stop_here c.args.self.now.thread) c.args.event c.requires.suits)

pub returns : goal.returns
returns c = record {
  thread = c.answer.ensures ∙ ap (λ (word : Option ℕ). standing_after (unwrap_or word 0) c.args.self.now.thread) c.word.ensures;
  place = c.next_place-self.ensures;
  turns = c.keep_turn.ensures;
}
