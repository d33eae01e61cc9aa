use Rattle.std.proofs.Common.{◌∙◌, ℕ, map, ap, sym, subst}
use Rattle.std.specs.List.{range_with_len}
use Rattle.stride_base.specs.Listed.{Listed}
use Rattle.sc_machine.specs.declared.end.End.{End}
use Rattle.interleavings.specs.declared.event.LogEntry.{LogEntry}
use Rattle.interleavings.specs.AtomicStep.{Value}
use Rattle.interleavings.specs.Recording.{IsRecording}
use Rattle.shared_rule.specs.Closing.{last_word}
use Rattle.shared_rule.specs.Passes.{view_of}
use Rattle.recorder.specs.Sessions.{AreShort, setting_in}
use Rattle.recorder.proofs.Kept.{finished_recording, kept_short, taken_recording}
use Rattle.recorder.proofs.session.Session.finish.Goals as goal

pub returns-clause-recording : goal.returns-clause-recording
returns-clause-recording c =
    let s = c.args.self in
    let g = setting_in s in
    let closed = c.close-closed.result in
    let fits = c.requires.fits in
    let added = c.add_threads.ensures in
    let last = c.add_last_values.ensures in
    subst (IsRecording g)
    (sym (taken_recording g s.slots.items closed c.add_last_values.new.self
    (ap (λ (logs : Listed (Listed LogEntry)). logs.items) last.logs ∙ added.logs)
    (ap (λ (outputs : Listed (Listed ℕ)). outputs.items) last.outputs ∙ added.outputs)
    (ap (λ (ends : Listed End). ends.items) last.ends ∙ added.ends)
    (last.last_values ∙ ap (λ n. map (λ cell. last_word closed (Value cell)) (range_with_len 0 n)) c.cells.ensures.count)))
    (finished_recording c.each_cell_starts.ensures g s.slots.items (view_of s.pass) closed fits.count c.requires.kept (fits.pass_of.starts ∙ fits.suits.starts) c.requires.draws c.close-closed.ensures.whole c.close-closed.ensures.counted)

pub returns-clause-short : goal.returns-clause-short
returns-clause-short c =
    let s = c.args.self in
    subst (AreShort s.fuel) (sym (ap (λ (logs : Listed (Listed LogEntry)). logs.items) c.add_last_values.ensures.logs ∙ c.add_threads.ensures.logs))
    (kept_short (setting_in s) 0 s.slots.items (view_of s.pass).gathered c.requires.kept)
