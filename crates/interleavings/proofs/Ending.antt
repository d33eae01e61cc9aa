-- What a recording keeps of a run.
use Rattle.std.proofs.Common.{◌≡◌, ℕ, zero, suc, ◌+◌, ◌*◌, ◌<◌, ◌≤◌, ◌∙◌, List, [], ◌∷◌, ◌++◌, length, map, get_or, slice_index, refl, sym, ap, arith, None}
use Rattle.std.specs.List.{range_with_len}
use Rattle.std.proofs.lemmas.Grind.{get_or_default_zero}
use Rattle.std.proofs.lemmas.List.{map-append}
use Rattle.stride_base.specs.Listed.{Listed}
use Rattle.stride_isa.specs.Limits.{thread_limit}
use Rattle.stride_isa.specs.Listing.{cell_count}
use Rattle.sc_machine.specs.StandingThread.{Standing}
use Rattle.sc_machine.specs.ThreadStep.{Thread, end_of}
use Rattle.sc_machine.specs.Schedule.{stopped, thread_numbers}
use Rattle.interleavings.specs.declared.activity.Activity.{Activity}
use Rattle.interleavings.specs.declared.driven.Driven.{Driven}
use Rattle.interleavings.specs.declared.simulation.Simulation.{Simulation}
use Rattle.interleavings.specs.declared.event.LogEntry.{LogEntry}
use Rattle.interleavings.specs.AtomicStep.{SharedWord, Value}
use Rattle.interleavings.specs.DrivenSeen.{recording_seen}
use Rattle.interleavings.specs.Driving.{Drive, advance_all, begun, driven, recording_of, settle_all, stranger, whole_run}
use Rattle.interleavings.specs.SimulationShows.{CanGo, Makes, Shows}
use Rattle.interleavings.specs.Events.{log_of}
use Rattle.interleavings.specs.Layout.{index_of}
use Rattle.interleavings.specs.Recording.{Recording, Setting, activity_of, state_of}
use Rattle.stride_isa.specs.Limits.{fuel_limit}
use Rattle.stride_base.specs.declared.limits.TheConstants.{ORDER_LIMIT}
use Rattle.interleavings.specs.Driving.{Drive, advance_all, begun, driven, recording_of, settle_all, stranger, whole_run}
use Rattle.interleavings.proofs.Begins.{draws_length}
use Rattle.interleavings.proofs.Going.{advance_all_steps, range_length, range_more}
use Rattle.interleavings.proofs.Reaching.{reached-begun}

-- one more value of a cell
pub values_more : (row : List ℕ) (cells i place x : ℕ) (values values' : List ℕ) → values' ≡ values ++ x ∷ [] → values ≡ map (λ cell. slice_index row (index_of cells (Value cell))) (range_with_len 0 i) → place ≡ index_of cells (Value i) → place < length row → x ≡ get_or row place x → values' ≡ map (λ cell. slice_index row (index_of cells (Value cell))) (range_with_len 0 (i + 1))
values_more row cells i place x values values' more so_far where_is inside read =
    let here : x ≡ slice_index row (index_of cells (Value i)) = read ∙ get_or_default_zero row place x inside ∙ ap (λ k. slice_index row k) where_is in
    more
    ∙ ap (λ xs. xs ++ x ∷ []) so_far
    ∙ ap (λ y. map (λ cell. slice_index row (index_of cells (Value cell))) (range_with_len 0 i) ++ y ∷ []) here
    ∙ sym (ap (map (λ cell. slice_index row (index_of cells (Value cell)))) (range_more i) ∙ map-append (λ cell. slice_index row (index_of cells (Value cell))) (range_with_len 0 i) (i ∷ []))

by_index : {X Y : Type 0} (f : X → Y) (h : ℕ → Y) (xs : List X) (from : ℕ) → ((k : ℕ) (d : X) → k < length xs → f (get_or xs k d) ≡ h (from + k)) → map f xs ≡ map h (range_with_len from (length xs))
by_index f h [] from same = refl
by_index f h (x ∷ xs) from same =
    let here : from + 0 ≡ from = omega arith in
    ap (λ y. y ∷ map f xs) (same 0 x (omega arith) ∙ ap h here)
    ∙ ap (λ ys. h from ∷ ys) (by_index f h xs (from + 1) (λ k d lt. let there : from + suc k ≡ from + 1 + k = omega arith in same (suc k) d (omega arith) ∙ ap h there))

in_range : {Y : Type 0} (f h : ℕ → Y) (from n : ℕ) → ((k : ℕ) → k < from + n → f k ≡ h k) → map f (range_with_len from n) ≡ map h (range_with_len from n)
in_range f h from zero same = refl
in_range f h from (suc n) same =
    ap (λ y. y ∷ map f (range_with_len (from + 1) n)) (same from (omega arith))
    ∙ ap (λ ys. h from ∷ ys) (in_range f h (from + 1) n (λ k lt. same k (omega arith)))

outputs_kept : (threads : List Standing) → map (λ (s : Standing). s.state.out) threads ≡ map (λ (s : Thread). s.out) (map stopped (map (λ (s : Standing). s.state) threads))
outputs_kept [] = refl
outputs_kept (s ∷ ss) = ap (λ xs. s.state.out ∷ xs) (outputs_kept ss)

ends_kept : (threads : List Standing) → map (λ (s : Standing). end_of s.state) threads ≡ map end_of (map stopped (map (λ (s : Standing). s.state) threads))
ends_kept [] = refl
ends_kept (s ∷ ss) = ap (λ xs. end_of s.state ∷ xs) (ends_kept ss)

-- the four parts of a recording
pub recorded_parts : (g : Setting) (sim : Simulation) (d : Drive) (r : Driven) → Shows g sim d → map (λ (log : Listed LogEntry). log.items) r.logs.items ≡ map (λ (activity : Activity). log_of activity.events) sim.core.people.items → map (λ (output : Listed ℕ). output.items) r.outputs.items ≡ map (λ (s : Standing). s.state.out) sim.threads.items → r.ends.items ≡ map (λ (s : Standing). end_of s.state) sim.threads.items → r.last_values.items ≡ map (λ cell. slice_index sim.core.words.items (index_of sim.core.layout.cells (Value cell))) (range_with_len 0 sim.core.layout.cells) → recording_seen r ≡ recording_of g (record { steps = d.steps; threads = map stopped d.threads })
unfolding recording_of
recorded_parts g sim d r shows logs outputs ends values =
    let people : List Activity = sim.core.people.items in
    let activity : ℕ → Activity = activity_of g d.steps in
    let words : SharedWord → ℕ = (state_of g d.steps).words in
    let logs_are : map (λ (log : Listed LogEntry). log.items) r.logs.items ≡ map (λ t. log_of (activity t).events) (thread_numbers g.program) =
    logs
    ∙ by_index (λ (a : Activity). log_of a.events) (λ t. log_of (activity t).events) people 0
    (λ k e lt. let same : k ≡ 0 + k = omega arith in ap (λ (a : Activity). log_of a.events) (shows.state.people k e lt) ∙ ap (λ n. log_of (activity n).events) same)
    ∙ ap (λ n. map (λ t. log_of (activity t).events) (range_with_len 0 n)) shows.people in
    let outputs_are : map (λ (output : Listed ℕ). output.items) r.outputs.items ≡ map (λ (s : Thread). s.out) (map stopped d.threads) =
    outputs ∙ outputs_kept sim.threads.items ∙ ap (λ ts. map (λ (s : Thread). s.out) (map stopped ts)) (sym shows.threads) in
    let ends_are : r.ends.items ≡ map end_of (map stopped d.threads) = ends ∙ ends_kept sim.threads.items ∙ ap (λ ts. map end_of (map stopped ts)) (sym shows.threads) in
    let values_are : r.last_values.items ≡ map (λ cell. words (Value cell)) (range_with_len 0 (cell_count g.program.decls)) =
    values
    ∙ in_range (λ cell. slice_index sim.core.words.items (index_of sim.core.layout.cells (Value cell))) (λ cell. words (Value cell)) 0 sim.core.layout.cells (λ k lt. shows.state.words (Value k) (omega arith))
    ∙ ap (λ n. map (λ cell. words (Value cell)) (range_with_len 0 n)) shows.cells in
    ap (λ x. record { logs = x; outputs = map (λ (output : Listed ℕ). output.items) r.outputs.items; ends = r.ends.items; last_values = r.last_values.items }) logs_are
    ∙ ap (λ x. record { logs = map (λ t. log_of (activity t).events) (thread_numbers g.program); outputs = x; ends = r.ends.items; last_values = r.last_values.items }) outputs_are
    ∙ ap (λ x. record { logs = map (λ t. log_of (activity t).events) (thread_numbers g.program); outputs = map (λ (s : Thread). s.out) (map stopped d.threads); ends = x; last_values = r.last_values.items }) ends_are
    ∙ ap (λ x. record { logs = map (λ t. log_of (activity t).events) (thread_numbers g.program); outputs = map (λ (s : Thread). s.out) (map stopped d.threads); ends = map end_of (map stopped d.threads); last_values = x }) values_are

-- what the whole of a recording's code came to
module _ (g : Setting) (order : List ℕ) (start followed settled : Simulation) (begins : Shows g start (begun g)) where
  begun_steps : length (begun g).steps ≤ thread_limit
  unfolding begun
  begun_steps = omega (arith, draws_length (thread_numbers g.program) [], range_length 0 (length g.program.threads), begins.few)

  pub follow_may : length order ≤ ORDER_LIMIT → CanGo start (length order)
  follow_may short = record { setting = g; drive = begun g; reached = reached-begun g; shows = begins; few = omega (arith, begun_steps) }

  pub settle_may : length order ≤ ORDER_LIMIT → g.fuel ≤ fuel_limit → stranger (length g.program.threads) order ≡ None → Makes (λ g. advance_all g order) start followed → CanGo followed (48 * (followed.fuel + 3))
  settle_may short small known follows =
      let shown : Shows g followed (advance_all g order (begun g)) = follows g (begun g) begins in
      record { setting = g; drive = advance_all g order (begun g); reached = record { order = order; known = known; same = refl }; shows = shown; few = omega (arith, begun_steps, advance_all_steps g order (begun g), shown.fuel) }

  pub settled_shows : Makes (λ g. advance_all g order) start followed → Makes settle_all followed settled → Shows g settled (settle_all g (advance_all g order (begun g)))
  settled_shows follows settles = settles g (advance_all g order (begun g)) (follows g (begun g) begins)

  pub whole_driven : (r : Recording) → r ≡ recording_of g (record { steps = (settle_all g (advance_all g order (begun g))).steps; threads = map stopped (settle_all g (advance_all g order (begun g))).threads }) → r ≡ driven g order
  unfolding driven whole_run
  whole_driven r e = e
