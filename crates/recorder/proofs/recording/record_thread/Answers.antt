use Rattle.std.proofs.Common.{◌∙◌, refl, sym, subst, arith}
use Rattle.std.proofs.lemmas.List.{length-set}
use Rattle.std.specs.Prelude.{replicate, slice_set, slice_index}
use Rattle.stride_isa.specs.Changes.{applied}
use Rattle.stride_isa.specs.Limits.{monitor_limit}
use Rattle.sc_machine.specs.declared.stop.Stop.TheVariants as stops
use Rattle.sc_machine.specs.ThreadRun.{Run, run_of}
use Rattle.interleavings.specs.declared.event.Event.{Event}
use Rattle.interleavings.specs.declared.event.Event.TheVariants as events
use Rattle.interleavings.specs.declared.event.LogEntry.TheVariants as entries
use Rattle.shared_rule.specs.Passes.{view_of}
use Rattle.recorder.specs.Threads.{IsThreadRecorded}
use Rattle.recorder.proofs.Recorded.{IsUnderWay, begins, ended_recorded, exit_met, given_up_recorded, goes_on, room_kept, turn_kept}
use Rattle.recorder.proofs.recording.record_thread.Goals as goal

pub instructions-init : goal.instructions-init
instructions-init g c = record {
  pass = c.requires.pass;
  under_way = subst (λ (run : Run). IsUnderWay c.args.run.program c.args.run.fuel c.args.thread (view_of c.args.pass.now) run c.args.slot.out c.args.slot.log (replicate monitor_limit 0) (view_of c.args.pass.now)) (sym c.apart-control.ensures) (begins c.args.run c.args.thread c.args.slot.out c.args.slot.log (view_of c.args.pass.now) c.requires.start c.requires.fresh c.requires.free.out c.requires.free.out_room c.requires.free.log c.requires.free.log_room);
}

pub instructions-preserved-in-Read : goal.instructions-preserved-in-Read
instructions-preserved-in-Read g c =
    let event : Event = events.Read c.in-Read.cell c.read-value.result.0 c.read-value.result.1 in
    record {
      pass = c.read-value.ensures.pass;
      under_way = goes_on c.args.run.program c.args.run.fuel c.args.thread (view_of c.args.pass.now) (run_of c.instructions.control c.instructions.frame) (run_of c.local.new.self c.local.new.frame) c.instructions.out c.local.new.out c.instructions.log c.instructions.turns (view_of c.instructions.pass) c.instructions.invariant.under_way c.local.ensures.state c.local.ensures.same c.local.ensures.made
          (c.in-Read.ensures.fuel_left tt) (stops.Read c.in-Read.cell) (sym c.local.ensures.stop ∙ c.in-Read.is) event refl (view_of c.read-value.new.pass) c.read-value.ensures.event c.push_spare.new.self c.push_spare.ensures.items (room_kept c.instructions.log c.push_spare.new.self (entries.Read c.read-value.result.1 c.read-value.result.0) c.push_spare.ensures.items c.push_spare.ensures.spare)
          c.instructions.turns refl (λ m. refl) c.walks_go_on.ensures (run_of c.answer.new.self c.answer.new.frame) c.answer.ensures.state c.answer.ensures.made c.answer.ensures.same c.local.ensures.spare;
    }

pub instructions-preserved-in-Write : goal.instructions-preserved-in-Write
instructions-preserved-in-Write g c =
    let event : Event = events.Write c.in-Write.cell c.in-Write.value c.write-number.result in
    record {
      pass = c.write-number.ensures.pass;
      under_way = goes_on c.args.run.program c.args.run.fuel c.args.thread (view_of c.args.pass.now) (run_of c.instructions.control c.instructions.frame) (run_of c.local.new.self c.local.new.frame) c.instructions.out c.local.new.out c.instructions.log c.instructions.turns (view_of c.instructions.pass) c.instructions.invariant.under_way c.local.ensures.state c.local.ensures.same c.local.ensures.made
          (c.in-Write.ensures.fuel_left tt) (stops.Write c.in-Write.cell c.in-Write.value) (sym c.local.ensures.stop ∙ c.in-Write.is) event refl (view_of c.write-number.new.pass) c.write-number.ensures.event c.push_spare-in-Write.new.self c.push_spare-in-Write.ensures.items (room_kept c.instructions.log c.push_spare-in-Write.new.self (entries.Write c.write-number.result) c.push_spare-in-Write.ensures.items c.push_spare-in-Write.ensures.spare)
          c.instructions.turns refl (λ m. refl) c.walks_go_on.ensures (run_of c.answer-in-Write.new.self c.answer-in-Write.new.frame) c.answer-in-Write.ensures.state c.answer-in-Write.ensures.made c.answer-in-Write.ensures.same c.local.ensures.spare;
    }

pub instructions-preserved-in-Update : goal.instructions-preserved-in-Update
instructions-preserved-in-Update g c =
    let event : Event = events.Update c.in-Update.cell c.update-old.result.0 (applied c.in-Update.change c.update-old.result.0) c.update-old.result.1 in
    record {
      pass = c.update-old.ensures.pass;
      under_way = goes_on c.args.run.program c.args.run.fuel c.args.thread (view_of c.args.pass.now) (run_of c.instructions.control c.instructions.frame) (run_of c.local.new.self c.local.new.frame) c.instructions.out c.local.new.out c.instructions.log c.instructions.turns (view_of c.instructions.pass) c.instructions.invariant.under_way c.local.ensures.state c.local.ensures.same c.local.ensures.made
          (c.in-Update.ensures.fuel_left tt) (stops.Update c.in-Update.cell c.in-Update.change) (sym c.local.ensures.stop ∙ c.in-Update.is) event refl (view_of c.update-old.new.pass) c.update-old.ensures.event c.push_spare-in-Update.new.self c.push_spare-in-Update.ensures.items (room_kept c.instructions.log c.push_spare-in-Update.new.self (entries.Update c.update-old.result.1 c.update-old.result.0) c.push_spare-in-Update.ensures.items c.push_spare-in-Update.ensures.spare)
          c.instructions.turns refl (λ m. refl) c.walks_go_on.ensures (run_of c.answer-in-Update.new.self c.answer-in-Update.new.frame) c.answer-in-Update.ensures.state c.answer-in-Update.ensures.made c.answer-in-Update.ensures.same c.local.ensures.spare;
    }

pub instructions-preserved-in-Some : goal.instructions-preserved-in-Some
instructions-preserved-in-Some g c =
    let event : Event = events.Enter c.in-Enter.mon c.in-Some.turn in
    record {
      pass = c.enter.ensures.pass;
      under_way = goes_on c.args.run.program c.args.run.fuel c.args.thread (view_of c.args.pass.now) (run_of c.instructions.control c.instructions.frame) (run_of c.local.new.self c.local.new.frame) c.instructions.out c.local.new.out c.instructions.log c.instructions.turns (view_of c.instructions.pass) c.instructions.invariant.under_way c.local.ensures.state c.local.ensures.same c.local.ensures.made
          (c.in-Enter.ensures.fuel_left tt) (stops.Enter c.in-Enter.mon) (sym c.local.ensures.stop ∙ c.in-Enter.is) event refl (view_of c.enter.new.pass) c.in-Some.ensures.entered c.push_spare-in-Some.new.self c.push_spare-in-Some.ensures.items (room_kept c.instructions.log c.push_spare-in-Some.new.self (entries.Enter c.in-Some.turn) c.push_spare-in-Some.ensures.items c.push_spare-in-Some.ensures.spare)
          (slice_set c.instructions.turns c.in-Enter.mon c.in-Some.turn) (length-set c.instructions.turns c.in-Enter.mon c.in-Some.turn) (turn_kept c.instructions.turns c.in-Enter.mon c.in-Some.turn (omega (arith, (c.in-Enter.ensures.names_cell).1, c.instructions.invariant.under_way.recorded.turns_count))) c.walks_go_on.ensures (run_of c.answer-in-Some.new.self c.answer-in-Some.new.frame) c.answer-in-Some.ensures.state c.answer-in-Some.ensures.made c.answer-in-Some.ensures.same c.local.ensures.spare;
    }

pub instructions-preserved : goal.instructions-preserved
instructions-preserved g c =
    let event : Event = events.Exit c.in-Exit.mon (slice_index c.instructions.turns c.in-Exit.mon) in
    record {
      pass = c.leave.ensures.pass;
      under_way = goes_on c.args.run.program c.args.run.fuel c.args.thread (view_of c.args.pass.now) (run_of c.instructions.control c.instructions.frame) (run_of c.local.new.self c.local.new.frame) c.instructions.out c.local.new.out c.instructions.log c.instructions.turns (view_of c.instructions.pass) c.instructions.invariant.under_way c.local.ensures.state c.local.ensures.same c.local.ensures.made
          (c.in-Exit.ensures.fuel_left tt) (stops.Exit c.in-Exit.mon) (sym c.local.ensures.stop ∙ c.in-Exit.is) event (exit_met c.args.run.program c.args.run.fuel c.args.thread (view_of c.args.pass.now) (run_of c.instructions.control c.instructions.frame) (run_of c.local.new.self c.local.new.frame) c.instructions.out c.local.new.out c.instructions.log c.instructions.turns (view_of c.instructions.pass) c.instructions.invariant.under_way c.local.ensures.state c.local.ensures.same c.local.ensures.made
          c.in-Exit.mon (sym c.local.ensures.stop ∙ c.in-Exit.is)) (view_of c.leave.new.pass) c.leave.ensures.event c.instructions.log refl (omega arith)
          c.instructions.turns refl (λ m. refl) c.walks_go_on.ensures (run_of c.answer-in-Exit.new.self c.answer-in-Exit.new.frame) c.answer-in-Exit.ensures.state c.answer-in-Exit.ensures.made c.answer-in-Exit.ensures.same c.local.ensures.spare;
    }

pub returns-in-None-clause-recorded : goal.returns-in-None-clause-recorded
returns-in-None-clause-recorded g c =
    subst (λ end. IsThreadRecorded (record { program = c.args.run.program; fuel = c.args.run.fuel; patience = c.args.patience }) c.args.thread (view_of c.enter.new.pass).activity c.instructions.log.items c.local.new.out.items end) (sym c.give_up-end.ensures.end)
    (given_up_recorded c.args.run.program c.args.run.fuel c.args.thread (view_of c.args.pass.now) (run_of c.instructions.control c.instructions.frame) (run_of c.local.new.self c.local.new.frame) c.instructions.out c.local.new.out c.instructions.log c.instructions.turns (view_of c.instructions.pass) c.instructions.invariant.under_way c.local.ensures.state c.local.ensures.same c.local.ensures.made
    c.in-Enter.mon (sym c.local.ensures.stop ∙ c.in-Enter.is) c.args.patience (view_of c.enter.new.pass) c.in-None.ensures.gave_up c.walks_are_followed.ensures c.walks_stand.ensures)

pub returns-in-Ended-clause-recorded : goal.returns-in-Ended-clause-recorded
returns-in-Ended-clause-recorded g c =
    ended_recorded c.args.run.program c.args.run.fuel c.args.thread (view_of c.args.pass.now) (run_of c.instructions.control c.instructions.frame) (run_of c.local.new.self c.local.new.frame) c.instructions.out c.local.new.out c.instructions.log c.instructions.turns (view_of c.instructions.pass) c.instructions.invariant.under_way c.local.ensures.state c.local.ensures.same c.local.ensures.made
    c.in-Ended.end c.in-Ended.ensures.stands c.walks_are_followed.ensures c.walks_stand.ensures c.args.patience
