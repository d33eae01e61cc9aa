-- What an order gives is a recording, where each thread that was stopped had given up.
use Rattle.std.proofs.Common.{◌≡◌, ℕ, ◌<◌, ◌≤◌, true, List, Option, Some, None, length, map, refl, sym, ◌∙◌, ap, subst, arith}
use Rattle.std.proofs.lemmas.Bool.{false_from_ne_true}
use Rattle.std.proofs.lemmas.List.{length-map}
use Rattle.std.proofs.lemmas.Option.{slice_get_within}
use Rattle.std.specs.Prelude.{slice_get}
use Rattle.sc_machine.specs.declared.end.End.{End}
use Rattle.sc_machine.specs.declared.end.End.TheVariants.{Halted, Trapped, OutOfSteps, Stopped}
use Rattle.sc_machine.specs.ThreadStep.{end_of}
use Rattle.sc_machine.specs.Schedule.{stopped}
use Rattle.interleavings.specs.declared.activity.OddLooks.{OddLooks}
use Rattle.interleavings.specs.Recording.{Setting, activity_of, gives_up, GaveUpAt, IsEndAfter, IsRecording}
use Rattle.interleavings.specs.Driving.{driven, recording_of, stranger, whole_run}
use Rattle.interleavings.proofs.FollowsLogs.{driven-followed}
use Rattle.interleavings.proofs.GivingUp.{driven-gives_up}
use Rattle.interleavings.proofs.MachineLaws.{MachineLaws}
use Rattle.interleavings.proofs.Reaching.{reached-run, reached-settled}
use Rattle.interleavings.proofs.Settling.{settled_run, driven-history}

some_end : (one other : End) → Some one ≡ Some other → one ≡ other
some_end one other e = cc

stopped_pc : (one other : ℕ) → Stopped one ≡ Stopped other → one ≡ other
stopped_pc one other e = cc

-- the end of a thread, by what it is and by what giving up comes to
by_end : (g : Setting) (t : ℕ) (looks : Option OddLooks) (end : End) → (gives_up g.patience looks ≡ true → (pc : ℕ) × (end ≡ Stopped pc) × GaveUpAt g t looks pc) → ((pc : ℕ) → end ≡ Stopped pc → gives_up g.patience looks ≡ true) → IsEndAfter g t looks end
by_end g t looks Halted gave_up stopped_only = false_from_ne_true (gives_up g.patience looks) (λ gives. let e : Halted ≡ Stopped (gave_up gives).0 = (gave_up gives).1 in cc)
by_end g t looks (Trapped trap pc) gave_up stopped_only = false_from_ne_true (gives_up g.patience looks) (λ gives. let e : Trapped trap pc ≡ Stopped (gave_up gives).0 = (gave_up gives).1 in cc)
by_end g t looks OutOfSteps gave_up stopped_only = false_from_ne_true (gives_up g.patience looks) (λ gives. let e : OutOfSteps ≡ Stopped (gave_up gives).0 = (gave_up gives).1 in cc)
by_end g t looks (Stopped pc) gave_up stopped_only =
    let at = gave_up (stopped_only pc refl) in
    subst (λ x. GaveUpAt g t looks x) (sym (stopped_pc pc at.0 at.1)) at.2

-- there is an end for each thread of the program, and for no other number
end_within : (g : Setting) (order : List ℕ) (t : ℕ) (end : End) → stranger (length g.program.threads) order ≡ None → slice_get (driven g order).ends t ≡ Some end → t < length g.program.threads
unfolding driven recording_of whole_run
end_within g order t end known found =
    let threads = (settled_run g order).threads in
    omega (arith, slice_get_within (map end_of (map stopped threads)) t end found, length-map (map stopped threads) end_of, length-map threads stopped, (reached-run g (settled_run g order) (reached-settled g order known)).count)

pub driven-recording : MachineLaws → (g : Setting) (order : List ℕ) → 1 ≤ g.patience → stranger (length g.program.threads) order ≡ None → ((t pc : ℕ) → slice_get (driven g order).ends t ≡ Some (Stopped pc) → gives_up g.patience (activity_of g (whole_run g order).steps t).looks ≡ true) → IsRecording g (driven g order)
driven-recording laws g order some known all_gave_up = record {
  steps = (whole_run g order).steps;
  history = driven-history laws g order known;
  followed = driven-followed laws g order known;
  ends = λ t end found.
      by_end g t (activity_of g (whole_run g order).steps t).looks end
      (λ gives.
      let gave_up = driven-gives_up g order known t (end_within g order t end known found) gives in
      (gave_up.0, some_end end (Stopped gave_up.0) (sym found ∙ gave_up.1), gave_up.2 some))
      (λ pc is. all_gave_up t pc (found ∙ ap Some is));
}
