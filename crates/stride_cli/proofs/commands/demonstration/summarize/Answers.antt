use Rattle.std.proofs.Common.{◌≡◌, ◌∙◌, ℕ, ap, refl, length, slice_get, unwrap_or}
use Rattle.log_format.specs.Bundles.{lists_of}
use Rattle.replayer.specs.Replays.{seen}
use Rattle.stride_cli.specs.Inferring.{Inferred}
use Rattle.stride_cli.specs.Reports.{halted_count, summary_lines}
use Rattle.stride_cli.proofs.Simulated.{tells_summary}
use Rattle.stride_cli.proofs.commands.demonstration.summarize.Goals as goal

pub returns-clause-told : goal.returns-clause-told
returns-clause-told g c =
    let order = c.in_ok-replayed.replayed.order in
    let inferred : Inferred = record { links = order.links; schedule = order.schedule.items } in
    let results = seen c.in_ok-replayed.replayed.played in
    let put : c.put_summary.new.report.items ≡ summary_lines c.threads.result c.len.result c.halted.result c.total_of.result = rw (c.in_ok-put_summary.ensures, c.new-report.ensures.items) refl in
    let threads = length c.args.program.now.threads in
    let halted = halted_count results.ends in
    let report : c.put_summary.new.report.items ≡ summary_lines threads (length inferred.schedule) halted (unwrap_or (slice_get results.last_values 0) 0) =
    put
    ∙ ap (λ (n : ℕ). summary_lines n c.len.result c.halted.result c.total_of.result) c.threads.ensures.count
    ∙ ap (λ (n : ℕ). summary_lines threads n c.halted.result c.total_of.result) c.len.ensures.len
    ∙ ap (λ (n : ℕ). summary_lines threads (length inferred.schedule) n c.total_of.result) (c.halted.ensures ∙ ap halted_count c.as_slice.ensures)
    ∙ ap (λ (n : ℕ). summary_lines threads (length inferred.schedule) halted n) c.total_of.ensures in
    tells_summary c.extensions_are_whole.ensures c.args.program.now c.args.limits.fuel (lists_of c.args.logs.now.items) c.in_ok-traces.traces inferred results c.put_summary.new.report.items c.args.steps.now c.play_recorded.new.steps
    c.in_ok-traces.ensures.recorded.again c.in_ok-replayed.ensures.played report c.play_recorded.ensures.looks
