-- After the order: what was claimed and what was read is finished and the exits are made, and then each thread is at rest.
use Rattle.std.proofs.Common.{◌≡◌, ◌≢◌, ℕ, zero, suc, ◌+◌, ◌-◌, ◌<◌, ◌≤◌, true, false, List, [], ◌∷◌, Option, Some, None, length, refl, sym, ◌∙◌, ap, subst, inl, inr, arith}
use Rattle.std.proofs.lemmas.Bool.{true≢false, cases_eq, cases_lt, cond_both, false_from_ne_true, true_from_ne_false}
use Rattle.std.proofs.lemmas.List.{get_or-set_other}
use Rattle.std.specs.List.{range_with_len}
use Rattle.std.specs.Option.{option_map}
use Rattle.sc_machine.specs.declared.stop.Stop.{Stop}
use Rattle.sc_machine.specs.declared.stop.Stop.TheVariants as stops
use Rattle.sc_machine.specs.ThreadStep.{start_thread, stop_of}
use Rattle.sc_machine.specs.Schedule.{thread_numbers}
use Rattle.interleavings.specs.declared.activity.Activity.{Activity}
use Rattle.interleavings.specs.declared.activity.Phase.{Phase}
use Rattle.interleavings.specs.declared.activity.Phase.TheVariants.{Idle, Loaded, Numbered, Marked, Fetched, Stored, Looked}
use Rattle.interleavings.specs.declared.kind.Kind.{Kind}
use Rattle.interleavings.specs.declared.rest.Rest.{Rest}
use Rattle.interleavings.specs.declared.rest.Rest.TheVariants as rests
use Rattle.interleavings.specs.AtomicStep.{SharedWord, Number, word_of, is_even, phase_if, phase_after}
use Rattle.interleavings.specs.History.{Step, newcomer, after}
use Rattle.interleavings.specs.Recording.{Setting, state_of, activity_of, IsAtRest, Among, IsHistoryOf}
use Rattle.interleavings.specs.Driving.{Drive, thread_of, next_kind, at_of, value_of, stepped_if, advance, has_claimed, is_loaded, is_left, finished_within, finished, finished_by_all, settle_all, whole_run, advance_all, begun, recording_of, driven, stranger}
use Rattle.interleavings.specs.Walking.{is_exit}
use Rattle.interleavings.proofs.OddNumbers.{Claims}
use Rattle.interleavings.proofs.InPlace.{IsPhaseAt}
use Rattle.interleavings.proofs.Advances.{IsRun, advance-run, advance_all-run}
use Rattle.interleavings.proofs.Exits.{exit_falls}
use Rattle.interleavings.proofs.MachineLaws.{MachineLaws}
use Rattle.interleavings.proofs.StepPeople.{step_here, step_elsewhere}
use Rattle.interleavings.proofs.Beginning.{begun-run}

-- what a thread is doing in a run
abbrev pub phase_of : Setting → Drive → ℕ → Phase
phase_of g d t = (activity_of g d.steps t).phase

-- where a thread of a run stands
abbrev pub stop_at : Setting → Drive → ℕ → Stop
stop_at g d t = stop_of g.program t (thread_of d t)

-- the phase of a thread after a step of this kind, or after none
abbrev phase_by : (SharedWord → ℕ) → Option Kind → ℕ → ℕ → Phase → Phase
phase_by words None at value phase = phase
phase_by words (Some kind) at value phase = phase_after kind at value phase (words (word_of kind at))

-- the phase of a thread after its next step, by where it stands and by the words; one that has ended makes none
abbrev phase_then : (SharedWord → ℕ) → Stop → Phase → Phase
phase_then words stop phase = phase_by words (next_kind stop phase) (at_of stop) (value_of stop phase) phase

module _ (g : Setting) (t at value : ℕ) where
  -- the run after a step of this kind, or after none
  abbrev stepped_by : Option Kind → Drive → Drive
  stepped_by kind d = stepped_if g (option_map (λ k. record { who = t; kind = k; at = at; value = value }) kind) d

  -- the other threads do nothing by it
  stepped_by-elsewhere : (kind : Option Kind) (d : Drive) (u : ℕ) → u ≢ t → activity_of g (stepped_by kind d).steps u ≡ activity_of g d.steps u
  stepped_by-elsewhere None d u other = refl
  stepped_by-elsewhere (Some kind) d u other = step_elsewhere g (record { who = t; kind = kind; at = at; value = value }) d.steps u other

  -- and stay where they are
  stepped_by-thread_elsewhere : (kind : Option Kind) (d : Drive) (u : ℕ) → u ≢ t → thread_of (stepped_by kind d) u ≡ thread_of d u
  stepped_by-thread_elsewhere None d u other = refl
  stepped_by-thread_elsewhere (Some kind) d u other = get_or-set_other d.threads t u _ start_thread other

  -- the thread itself is in the phase that the kind says
  stepped_by-here : (kind : Option Kind) (d : Drive) → phase_of g (stepped_by kind d) t ≡ phase_by (state_of g d.steps).words kind at value (phase_of g d t)
  stepped_by-here None d = refl
  stepped_by-here (Some kind) d = ap (λ (a : Activity). a.phase) (step_here g (record { who = t; kind = kind; at = at; value = value }) d.steps)

-- the same of an advance
advance-elsewhere : (g : Setting) (t : ℕ) (d : Drive) (u : ℕ) → u ≢ t → phase_of g (advance g t d) u ≡ phase_of g d u
unfolding advance
advance-elsewhere g t d u other = ap (λ (a : Activity). a.phase) (stepped_by-elsewhere g t (at_of (stop_at g d t)) (value_of (stop_at g d t) (phase_of g d t)) (next_kind (stop_at g d t) (phase_of g d t)) d u other)

advance-thread_elsewhere : (g : Setting) (t : ℕ) (d : Drive) (u : ℕ) → u ≢ t → thread_of (advance g t d) u ≡ thread_of d u
unfolding advance
advance-thread_elsewhere g t d u other = stepped_by-thread_elsewhere g t (at_of (stop_at g d t)) (value_of (stop_at g d t) (phase_of g d t)) (next_kind (stop_at g d t) (phase_of g d t)) d u other

advance-here : (g : Setting) (t : ℕ) (d : Drive) → phase_of g (advance g t d) t ≡ phase_then (state_of g d.steps).words (stop_at g d t) (phase_of g d t)
unfolding advance
advance-here g t d = stepped_by-here g t (at_of (stop_at g d t)) (value_of (stop_at g d t) (phase_of g d t)) (next_kind (stop_at g d t) (phase_of g d t)) d

module _ (rest : Rest) (g : Setting) (t : ℕ) (Good : Drive → Type 0) (keeps : (d : Drive) → is_left rest g t d ≡ true → Good d → Good (advance g t d)) where
  -- what each step keeps is kept by the steps that are made as long as something is left
  pub finished-keeps : (n : ℕ) (d : Drive) → Good d → Good (finished_within n rest g t d)
  unfolding finished_within
  finished-keeps zero d good = good
  finished-keeps (suc n) d good = cond_both (is_left rest g t d) (finished_within n rest g t (advance g t d)) d Good (λ e. finished-keeps n (advance g t d) (keeps d e good)) (λ e. good)

  -- nothing is left at the end where a number falls by each step
  finished-ends : (left : Drive → ℕ) → ((d : Drive) → is_left rest g t d ≡ true → Good d → left (advance g t d) < left d) → (n : ℕ) (d : Drive) → Good d → left d ≤ n → is_left rest g t (finished_within n rest g t d) ≡ false
  unfolding finished_within
  finished-ends left falls zero d good below = false_from_ne_true (is_left rest g t d) (λ e. omega (arith, falls d e good))
  finished-ends left falls (suc n) d good below = cond_both (is_left rest g t d) (finished_within n rest g t (advance g t d)) d (λ x. is_left rest g t x ≡ false) (λ e. finished-ends left falls n (advance g t d) (keeps d e good) (omega (arith, falls d e good))) (λ e. e)

-- after one thread has done so, the run is good, what is seen of the thread is as wanted, and of the others as it was
record IsDone (X : Type 0) (seen : Drive → ℕ → X) (Good : Drive → Type 0) (Wanted : X → Type 0) (t : ℕ) (d d' : Drive) : Type 0 where
  good : Good d'
  wanted : Wanted (seen d' t)
  others : (u : ℕ) → u ≢ t → seen d' u ≡ seen d u

-- what is seen of each thread below n is as wanted
abbrev pub AreAll : (X : Type 0) → (Drive → ℕ → X) → (X → Type 0) → ℕ → Drive → Type 0
AreAll X seen Wanted n d = (t : ℕ) → t < n → Wanted (seen d t)

-- the phases of the threads below n are as wanted
abbrev pub AllPhases : Setting → (Phase → Type 0) → ℕ → Drive → Type 0
AllPhases g Wanted n d = AreAll Phase (phase_of g) Wanted n d

module _ (X : Type 0) (seen : Drive → ℕ → X) (g : Setting) (rest : Rest) (Good : Drive → Type 0) (Wanted : X → Type 0) (each : (t : ℕ) → t < length g.program.threads → (d : Drive) → Good d → IsDone X seen Good Wanted t d (finished rest g t d)) where
  -- after each thread has done so, all are as wanted
  all-done : (i k : ℕ) (d : Drive) → i + k ≡ length g.program.threads → Good d → AreAll X seen Wanted i d → Good (finished_by_all rest g (range_with_len i k) d) × AreAll X seen Wanted (length g.program.threads) (finished_by_all rest g (range_with_len i k) d)
  all-done i zero d e good wanted = (good, λ t below. wanted t (omega arith))
  all-done i (suc k) d e good wanted =
      let done = each i (omega arith) d good in
      all-done (i + 1) k (finished rest g i d) (omega arith) done.good
      (λ t below. elim (cases_eq t i) [
        | inl same ↦ subst (λ (x : ℕ). Wanted (seen (finished rest g i d) x)) (sym same) done.wanted
        | inr other ↦ subst (λ (x : X). Wanted x) (sym (done.others t other)) (wanted t (omega arith))
      ])

-- how many steps a writer that has claimed has left
abbrev steps_left : Phase → ℕ
steps_left Idle = 0
steps_left (Loaded at value) = 0
steps_left (Numbered at n) = 0
steps_left (Marked at n) = 3
steps_left (Fetched at n old) = 2
steps_left (Stored at n old value) = 1
steps_left (Looked monitor turn) = 0

-- it has at most three
steps_left_limit : (phase : Phase) → steps_left phase ≤ 3
steps_left_limit (Marked cell n) = omega arith
steps_left_limit (Fetched cell n old) = omega arith
steps_left_limit (Stored cell n old value) = omega arith
steps_left_limit phase = omega arith

-- its step leaves fewer
claim_falls : (words : SharedWord → ℕ) (stop : Stop) (phase : Phase) → has_claimed phase ≡ true → IsPhaseAt phase stop → steps_left (phase_then words stop phase) < steps_left phase
claim_falls words (stops.Write cell value) (Marked at n) busy fits = omega arith
claim_falls words (stops.Write cell value) (Stored at n None word) busy fits = omega arith
claim_falls words (stops.Write cell value) (Stored at n (Some old) word) busy fits = absurd fits.1
claim_falls words (stops.Update cell change) (Marked at n) busy fits = omega arith
claim_falls words (stops.Update cell change) (Fetched at n old) busy fits = omega arith
claim_falls words (stops.Update cell change) (Stored at n (Some old) word) busy fits = omega arith
claim_falls words (stops.Update cell change) (Stored at n None word) busy fits = absurd fits.1
claim_falls words stop Idle busy fits = absurd (true≢false (sym busy))
claim_falls words stop (Loaded at value) busy fits = absurd (true≢false (sym busy))
claim_falls words stop (Numbered at n) busy fits = absurd (true≢false (sym busy))
claim_falls words stop (Looked at turn) busy fits = absurd (true≢false (sym busy))
claim_falls words stop phase busy fits = absurd fits

-- where each number is even, a reader is idle after its step
read_rests : (words : SharedWord → ℕ) (stop : Stop) (phase : Phase) → ((cell : ℕ) → is_even (words (Number cell)) ≡ true) → is_loaded phase ≡ true → IsPhaseAt phase stop → phase_then words stop phase ≡ Idle
read_rests words (stops.Read cell) (Loaded at value) even busy fits = ap (λ b. phase_if b Idle (Loaded at value)) (even cell)
read_rests words stop (Loaded at value) even busy fits = absurd fits
read_rests words stop phase even busy fits = absurd (true≢false (sym busy))

-- an exit keeps the phase, which is idle
exit_stays : (words : SharedWord → ℕ) (stop : Stop) (phase : Phase) → is_exit stop ≡ true → IsPhaseAt phase stop → phase_then words stop phase ≡ phase
exit_stays words (stops.Exit monitor) Idle at_exit fits = refl
exit_stays words (stops.Exit monitor) phase at_exit fits = absurd fits
exit_stays words stop phase at_exit fits = absurd (true≢false (sym at_exit))

-- a writer that has claimed a cell's number has claimed
claims_tell : (cell : ℕ) (phase : Phase) → Claims cell phase → has_claimed phase ≡ true
claims_tell cell (Marked at n) claims = refl
claims_tell cell (Fetched at n old) claims = refl
claims_tell cell (Stored at n old value) claims = refl
claims_tell cell phase claims = absurd claims

-- whether a reader has its number still to load, as a number
abbrev loads_left : Phase → ℕ
loads_left Idle = 0
loads_left (Loaded at value) = 1
loads_left (Numbered at n) = 0
loads_left (Marked at n) = 0
loads_left (Fetched at n old) = 0
loads_left (Stored at n old value) = 0
loads_left (Looked monitor turn) = 0

-- it is one load at most
loads_left_limit : (phase : Phase) → loads_left phase ≤ 1
loads_left_limit (Loaded cell value) = omega arith
loads_left_limit phase = omega arith

-- a reader that becomes idle has fewer left
load_falls : (phase : Phase) → is_loaded phase ≡ true → loads_left Idle < loads_left phase
load_falls (Loaded cell value) busy = omega arith
load_falls phase busy = absurd (true≢false (sym busy))

-- a thread is at rest where it neither has claimed nor has loaded a value
rests_between : (phase : Phase) → has_claimed phase ≡ false → is_loaded phase ≡ false → IsAtRest phase
rests_between Idle free unread = tt
rests_between (Numbered cell n) free unread = tt
rests_between (Looked monitor turn) free unread = tt
rests_between (Loaded cell value) free unread = absurd (true≢false unread)
rests_between phase free unread = absurd (true≢false free)

-- no writer of the run has claimed
abbrev pub NoClaims : Setting → Drive → Type 0
NoClaims g d = AllPhases g (λ phase. has_claimed phase ≡ false) (length g.program.threads) d

-- the steps are a history, and each thread of the program is at rest
abbrev pub IsResting : Setting → Drive → Type 0
IsResting g d = IsRun g d × AllPhases g IsAtRest (length g.program.threads) d

-- each number is even where no writer has claimed
even_without_claims : (g : Setting) (d : Drive) → IsRun g d → NoClaims g d → (cell : ℕ) → is_even ((state_of g d.steps).words (Number cell)) ≡ true
even_without_claims g d run free cell = true_from_ne_false (is_even ((state_of g d.steps).words (Number cell))) (λ odd.
    let w = run.odd cell odd in
    true≢false (sym (claims_tell cell (phase_of g d w.0) w.2) ∙ free w.0 w.1))

module _ (laws : MachineLaws) (g : Setting) (t : ℕ) (there : t < length g.program.threads) where
  -- what a thread has claimed is finished, and the others' phases stay
  claim-done : (d : Drive) → IsRun g d → IsDone Phase (phase_of g) (IsRun g) (λ phase. has_claimed phase ≡ false) t d (finished rests.Write g t d)
  claim-done d run =
      let Good : Drive → Type 0 = λ x. IsRun g x × ((u : ℕ) → u ≢ t → phase_of g x u ≡ phase_of g d u) in
      let keeps : (x : Drive) → is_left rests.Write g t x ≡ true → Good x → Good (advance g t x) = λ x e good. (advance-run g t x there good.0, λ u other. advance-elsewhere g t x u other ∙ good.1 u other) in
      let left : Drive → ℕ = λ x. steps_left (phase_of g x t) in
      let falls : (x : Drive) → is_left rests.Write g t x ≡ true → Good x → left (advance g t x) < left x = λ x e good.
      subst (λ (phase : Phase). steps_left phase < left x) (sym (advance-here g t x)) (claim_falls (state_of g x.steps).words (stop_at g x t) (phase_of g x t) e (good.0.in_place t there).fits) in
      let last = finished-keeps rests.Write g t Good keeps (g.fuel + 3) d (run, λ u other. refl) in
      record {
        good = last.0;
        wanted = finished-ends rests.Write g t Good keeps left falls (g.fuel + 3) d (run, λ u other. refl) (omega (arith, steps_left_limit (phase_of g d t)));
        others = last.1;
      }

  -- a reader's step from a run in which no writer has claimed
  read_idle : (x : Drive) → is_loaded (phase_of g x t) ≡ true → IsRun g x → NoClaims g x → phase_of g (advance g t x) t ≡ Idle
  read_idle x e run free = advance-here g t x ∙ read_rests (state_of g x.steps).words (stop_at g x t) (phase_of g x t) (even_without_claims g x run free) e (run.in_place t there).fits

  -- and no writer has claimed after it
  no_claims_after : (x : Drive) → phase_of g (advance g t x) t ≡ Idle → NoClaims g x → NoClaims g (advance g t x)
  no_claims_after x idle free u below = elim (cases_eq u t) [
    | inl same ↦ subst (λ (v : ℕ). has_claimed (phase_of g (advance g t x) v) ≡ false) (sym same) (ap has_claimed idle)
    | inr other ↦ ap has_claimed (advance-elsewhere g t x u other) ∙ free u below
  ]

  -- a thread's read is finished, and it is at rest
  read-done : (d : Drive) → IsRun g d × NoClaims g d → IsDone Phase (phase_of g) (λ x. IsRun g x × NoClaims g x) IsAtRest t d (finished rests.Read g t d)
  read-done d start =
      let Good : Drive → Type 0 = λ x. IsRun g x × NoClaims g x × ((u : ℕ) → u ≢ t → phase_of g x u ≡ phase_of g d u) in
      let keeps : (x : Drive) → is_left rests.Read g t x ≡ true → Good x → Good (advance g t x) = λ x e good. (advance-run g t x there good.0, no_claims_after x (read_idle x e good.0 good.1) good.1, λ u other. advance-elsewhere g t x u other ∙ good.2 u other) in
      let left : Drive → ℕ = λ x. loads_left (phase_of g x t) in
      let falls : (x : Drive) → is_left rests.Read g t x ≡ true → Good x → left (advance g t x) < left x = λ x e good.
      subst (λ (phase : Phase). loads_left phase < left x) (sym (read_idle x e good.0 good.1)) (load_falls (phase_of g x t) e) in
      let last = finished-keeps rests.Read g t Good keeps (g.fuel + 3) d (start.0, start.1, λ u other. refl) in
      let unread = finished-ends rests.Read g t Good keeps left falls (g.fuel + 3) d (start.0, start.1, λ u other. refl) (omega (arith, loads_left_limit (phase_of g d t))) in
      record {
        good = (last.0, last.1);
        wanted = rests_between (phase_of g (finished rests.Read g t d) t) (last.1 t there) unread;
        others = last.2;
      }

  -- an exit keeps all phases
  exit_keeps : (x : Drive) → is_exit (stop_at g x t) ≡ true → IsRun g x → (u : ℕ) → phase_of g (advance g t x) u ≡ phase_of g x u
  exit_keeps x e run u = elim (cases_eq u t) [
    | inl same ↦ subst (λ (v : ℕ). phase_of g (advance g t x) v ≡ phase_of g x v) (sym same) (advance-here g t x ∙ exit_stays (state_of g x.steps).words (stop_at g x t) (phase_of g x t) e (run.in_place t there).fits)
    | inr other ↦ advance-elsewhere g t x u other
  ]

  -- a thread's exits are made
  exit-done : (d : Drive) → IsResting g d → IsDone Stop (stop_at g) (IsResting g) (λ stop. is_exit stop ≡ false) t d (finished rests.Exits g t d)
  exit-done d start =
      let Good : Drive → Type 0 = λ x. IsRun g x × ((u : ℕ) → phase_of g x u ≡ phase_of g d u) × ((u : ℕ) → u ≢ t → thread_of x u ≡ thread_of d u) in
      let keeps : (x : Drive) → is_left rests.Exits g t x ≡ true → Good x → Good (advance g t x) = λ x e good. (advance-run g t x there good.0, λ u. exit_keeps x e good.0 u ∙ good.1 u, λ u other. advance-thread_elsewhere g t x u other ∙ good.2 u other) in
      let left : Drive → ℕ = λ x. g.fuel - (thread_of x t).made in
      let last = finished-keeps rests.Exits g t Good keeps (g.fuel + 3) d (start.0, λ u. refl, λ u other. refl) in
      record {
        good = (last.0, λ u below. subst IsAtRest (sym (last.1 u)) (start.1 u below));
        wanted = finished-ends rests.Exits g t Good keeps left (λ x e good. exit_falls laws g t x there e good.0) (g.fuel + 3) d (start.0, λ u. refl, λ u other. refl) (omega arith);
        others = λ u other. ap (λ s. stop_of g.program u s) (last.2 u other);
      }

-- a run that has settled is a history after which the program's threads are at rest, and none stands at an exit
pub settled-resting : MachineLaws → (g : Setting) (d : Drive) → IsRun g d → IsResting g (settle_all g d) × AreAll Stop (stop_at g) (λ stop. is_exit stop ≡ false) (length g.program.threads) (settle_all g d)
unfolding settle_all
settled-resting laws g d run =
    let n = length g.program.threads in
    let ts = thread_numbers g.program in
    let whole : 0 + n ≡ n = omega arith in
    let claims = all-done Phase (phase_of g) g rests.Write (IsRun g) (λ phase. has_claimed phase ≡ false) (claim-done laws g) 0 n d whole run (λ t below. absurd (omega arith)) in
    let written = finished_by_all rests.Write g ts d in
    let loads = all-done Phase (phase_of g) g rests.Read (λ x. IsRun g x × NoClaims g x) IsAtRest (read-done laws g) 0 n written whole claims (λ t below. absurd (omega arith)) in
    let read = finished_by_all rests.Read g ts written in
    all-done Stop (stop_at g) g rests.Exits (IsResting g) (λ stop. is_exit stop ≡ false) (exit-done laws g) 0 n read whole (loads.0.0, loads.1) (λ t below. absurd (omega arith))

-- the run of an order once it has settled, before the threads are stopped
abbrev pub settled_run : Setting → List ℕ → Drive
settled_run g order = settle_all g (advance_all g order (begun g))

-- it is such a run
pub order-resting : MachineLaws → (g : Setting) (order : List ℕ) → stranger (length g.program.threads) order ≡ None → IsResting g (settled_run g order) × AreAll Stop (stop_at g) (λ stop. is_exit stop ≡ false) (length g.program.threads) (settled_run g order)
order-resting laws g order known = settled-resting laws g (advance_all g order (begun g)) (advance_all-run g order (begun g) known (begun-run g))

-- a thread at rest has neither claimed nor loaded
rest_tells : (phase : Phase) → IsAtRest phase → (has_claimed phase ≡ false) × (is_loaded phase ≡ false)
rest_tells Idle rest = (refl, refl)
rest_tells (Numbered cell n) rest = (refl, refl)
rest_tells (Looked monitor turn) rest = (refl, refl)
rest_tells phase rest = absurd rest

-- nothing is left of anything then
pub nothing-left : MachineLaws → (g : Setting) (order : List ℕ) → stranger (length g.program.threads) order ≡ None → (rest : Rest) (t : ℕ) → t < length g.program.threads → is_left rest g t (settled_run g order) ≡ false
nothing-left laws g order known rests.Write t below = (rest_tells (phase_of g (settled_run g order) t) ((order-resting laws g order known).0.1 t below)).0
nothing-left laws g order known rests.Read t below = (rest_tells (phase_of g (settled_run g order) t) ((order-resting laws g order known).0.1 t below)).1
nothing-left laws g order known rests.Exits t below = (order-resting laws g order known).1 t below

-- nobody but those who made the steps has done anything
outsider : (g : Setting) (steps : List Step) (n t : ℕ) → ((s : Step) → Among s steps → s.who < n) → n ≤ t → activity_of g steps t ≡ newcomer.activity
unfolding after
outsider g [] n t members past = refl
outsider g (s ∷ steps) n t members past = step_elsewhere g s steps t (λ same. omega (arith, members s (inl refl))) ∙ outsider g steps n t (λ other among. members other (inr among)) past

-- what an order gives is a recording of its run's steps, which are a history after which each thread is at rest
pub driven-history : MachineLaws → (g : Setting) (order : List ℕ) → stranger (length g.program.threads) order ≡ None → IsHistoryOf g (driven g order) (whole_run g order).steps
unfolding driven recording_of whole_run
driven-history laws g order known =
    let n = length g.program.threads in
    let resting = (order-resting laws g order known).0 in
    let steps = (whole_run g order).steps in
    record {
      lawful = resting.0.lawful;
      threads = resting.0.members;
      logs = refl;
      at_rest = λ t. elim (cases_lt t n) [
        | inl below ↦ resting.1 t below
        | inr past ↦ subst (λ (a : Activity). IsAtRest a.phase) (sym (outsider g steps n t resting.0.members past)) tt
      ];
      last_values = refl;
    }
