use Rattle.stride_cli.proofs.AnAnswer.{an_answer as an_answer_by}
use Rattle.stride_cli.proofs.laws.an_answer.Goals as goal

pub returns : goal.returns
returns c =
    an_answer_by
    (record {
      line = c.line_or_none.ensures;
      verdict = c.some_verdict.ensures;
      links = c.links_or_refusal.ensures;
      order = c.least_or_cycle.ensures;
      runs = c.extensions_are_runs.ensures;
      fuel = c.fuel_is_in_range.ensures;
      demos = c.demo_programs_are_valid.ensures;
      orders = c.demo_orders_name_threads.ensures;
      recordings = record {
        history = c.driven_is_a_history.ensures;
        followed = c.driven_is_followed.ensures;
        range = c.followed_are_in_range.ensures;
        events = c.recordings_are_histories.ensures;
        orders = c.histories_have_orders.ensures;
        runs = c.extensions_are_runs.ensures;
      };
    })
