use Rattle.stride_cli.proofs.OneAnswer.{one_answer as one_answer_by}
use Rattle.stride_cli.proofs.laws.one_answer.Goals as goal

pub returns : goal.returns
returns c =
    one_answer_by
    c.one_reading.ensures
    (record {
      one_refusal = c.one_first_refusal.ensures;
      one_linking = c.one_linking.ensures;
      one_cycle = c.one_cycle.ensures;
      one_least = c.one_least.ensures;
      exclude = c.cycles_exclude.ensures;
    })
    c.one_verdict.ensures
