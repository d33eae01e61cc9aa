-- Following the log of a thread that goes from event to event gives these events.
use Rattle.std.proofs.Common.{◌≡◌, ℕ, zero, suc, ◌+◌, ◌<◌, false, List, [], ◌∷◌, ◌++◌, Option, Some, None, Ok, length, refl, sym, ◌∙◌, ap, subst, inl, inr, arith, append_assoc, length-append}
use Rattle.std.proofs.lemmas.Bool.{true≢false}
use Rattle.std.proofs.lemmas.List.{append-nil}
use Rattle.std.proofs.lemmas.Option.{slice_get_past}
use Rattle.std.specs.Prelude.{slice_get}
use Rattle.stride_isa.specs.Listing.{Listing, op_at}
use Rattle.sc_machine.specs.declared.end.End.{End}
use Rattle.sc_machine.specs.declared.stop.Stop.{Stop}
use Rattle.sc_machine.specs.declared.stop.Stop.TheVariants as stops
use Rattle.sc_machine.specs.ThreadStep.{Thread, Row, start_thread, settled, row, now_unless, stop_in, stop_of}
use Rattle.sc_machine.specs.Schedule.{stopped}
use Rattle.interleavings.specs.declared.event.Event.{Event}
use Rattle.interleavings.specs.declared.event.Event.TheVariants as events
use Rattle.interleavings.specs.declared.event.LogEntry.{LogEntry}
use Rattle.interleavings.specs.declared.event.LogEntry.TheVariants as entries
use Rattle.interleavings.specs.Events.{log_of}
use Rattle.interleavings.specs.Walking.{is_exit, IsMet, Walks, turns_by}
use Rattle.interleavings.specs.EventStep.{after_event}
use Rattle.interleavings.specs.Laws.{ComesBy}
use Rattle.interleavings.specs.Following.{Makes, no_turns, Over, met_of, on_met, event_before, place_after, turns_after, follow_from}
use Rattle.interleavings.proofs.MachineLaws.{MachineLaws, IsAlive, after_event-alive, after_event-made}

-- one event more
pub walks_on : (p : Listing) (fuel t : ℕ) (es : List Event) (turns : ℕ → ℕ) (s last : Thread) (event : Event) → Walks p fuel t es turns s last → IsMet (stop_of p t last) (turns_by es turns) event → Walks p fuel t (es ++ event ∷ []) turns s (after_event p fuel t event last)
walks_on p fuel t [] turns s last event walks met = (subst (λ (x : Thread). IsMet (stop_of p t x) turns event) (sym walks) met, ap (after_event p fuel t event) walks)
walks_on p fuel t (e ∷ es) turns s last event walks met = (walks.0, walks_on p fuel t es (turns_after e turns) (after_event p fuel t e s) last event walks.1 met)

-- the same from the local start
pub walks-go_on : (p : Listing) (fuel t : ℕ) (es : List Event) (last : Thread) (event : Event) → ComesBy p fuel t es last → IsMet (stop_of p t last) (turns_by es no_turns) event → ComesBy p fuel t (es ++ event ∷ []) (after_event p fuel t event last)
walks-go_on p fuel t es last event walks met = walks_on p fuel t es no_turns (settled p fuel t start_thread) last event walks met

-- the turns after one event more
pub turns_by-on : (es : List Event) (turns : ℕ → ℕ) (event : Event) → turns_by (es ++ event ∷ []) turns ≡ turns_after event (turns_by es turns)
turns_by-on [] turns event = refl
turns_by-on (e ∷ es) turns event = turns_by-on es (turns_after e turns) event

-- a thread that goes from event to event stays alive
pub walks-alive : MachineLaws → (p : Listing) (fuel t : ℕ) (es : List Event) (turns : ℕ → ℕ) (s last : Thread) → Walks p fuel t es turns s last → IsAlive fuel s → IsAlive fuel last
walks-alive laws p fuel t [] turns s last walks alive = subst (λ (x : Thread). IsAlive fuel x) walks alive
walks-alive laws p fuel t (event ∷ es) turns s last walks alive =
    walks-alive laws p fuel t es (turns_after event turns) (after_event p fuel t event s) last walks.1 (after_event-alive laws p fuel t event s)

-- a thread that has ended meets no event
nothing_met : (ended : Option End) (r : Row) (turns : ℕ → ℕ) (event : Event) → (ended ≡ None → ⊥) → IsMet (stop_in (now_unless ended r)) turns event → ⊥
nothing_met None r turns event over met = over refl
nothing_met (Some end) r turns (events.Read cell value bound) over met = cc
nothing_met (Some end) r turns (events.Write cell value number) over met = cc
nothing_met (Some end) r turns (events.Update cell old new number) over met = cc
nothing_met (Some end) r turns (events.Enter monitor turn) over met = cc
nothing_met (Some end) r turns (events.Exit monitor turn) over met = cc

-- a thread that has made more than its fuel meets no event
nothing_beyond : (p : Listing) (fuel t : ℕ) (s : Thread) (turns : ℕ → ℕ) (event : Event) → IsAlive fuel s → fuel < s.made → IsMet (stop_of p t s) turns event → ⊥
nothing_beyond p fuel t s turns event (inl left) beyond met = nothing_met s.ended (row p (op_at p t s.pc) s.pc s.stack s.locals s.held) turns event (λ e. omega (arith, left e)) met
nothing_beyond p fuel t s turns event (inr start) beyond met = omega (arith, ap (λ (x : Thread). x.made) start)

-- where no entry is left a thread is over, but at an exit
over_without_entry : (stop : Stop) (turns : ℕ → ℕ) → is_exit stop ≡ false → met_of stop None turns ≡ Over
over_without_entry (stops.Read cell) turns inside = refl
over_without_entry (stops.Write cell value) turns inside = refl
over_without_entry (stops.Update cell change) turns inside = refl
over_without_entry (stops.Enter monitor) turns inside = refl
over_without_entry (stops.Exit monitor) turns inside = absurd (true≢false inside)
over_without_entry (stops.Ended end) turns inside = refl

-- an exit is met whatever entry is next
exit_met : (stop : Stop) (next : Option LogEntry) (turns : ℕ → ℕ) (monitor turn : ℕ) → IsMet stop turns (events.Exit monitor turn) → met_of stop next turns ≡ Makes (events.Exit monitor turn)
exit_met (stops.Read cell) next turns monitor turn met = cc
exit_met (stops.Write cell value) next turns monitor turn met = cc
exit_met (stops.Update cell change) next turns monitor turn met = cc
exit_met (stops.Enter at) next turns monitor turn met = cc
exit_met (stops.Exit at) next turns monitor turn met = met
exit_met (stops.Ended end) next turns monitor turn met = cc

-- the entry at a seam
pub entry_at_seam : (front : List LogEntry) (entry : LogEntry) (rest : List LogEntry) → slice_get (front ++ entry ∷ rest) (length front) ≡ Some entry
entry_at_seam [] entry rest = refl
entry_at_seam (e ∷ front) entry rest = entry_at_seam front entry rest

-- the event is met by the next entry of its own log
met_in_log : (stop : Stop) (turns : ℕ → ℕ) (front : List LogEntry) (event : Event) (es : List Event) → IsMet stop turns event → met_of stop (slice_get (front ++ log_of (event ∷ es)) (length front)) turns ≡ Makes event
met_in_log stop turns front (events.Read cell value bound) es met = ap (λ next. met_of stop next turns) (entry_at_seam front (entries.Read bound value) (log_of es)) ∙ met
met_in_log stop turns front (events.Write cell value number) es met = ap (λ next. met_of stop next turns) (entry_at_seam front (entries.Write number) (log_of es)) ∙ met
met_in_log stop turns front (events.Update cell old new number) es met = ap (λ next. met_of stop next turns) (entry_at_seam front (entries.Update number old) (log_of es)) ∙ met
met_in_log stop turns front (events.Enter monitor turn) es met = ap (λ next. met_of stop next turns) (entry_at_seam front (entries.Enter turn) (log_of es)) ∙ met
met_in_log stop turns front (events.Exit monitor turn) es met = exit_met stop _ turns monitor turn met

-- the log with the entry of the first event put to the prefix
pub front_moved : (front : List LogEntry) (event : Event) (es : List Event) → front ++ log_of (event ∷ es) ≡ (front ++ log_of (event ∷ [])) ++ log_of es
front_moved front (events.Read cell value bound) es = sym (append_assoc front (entries.Read bound value ∷ []) (log_of es))
front_moved front (events.Write cell value number) es = sym (append_assoc front (entries.Write number ∷ []) (log_of es))
front_moved front (events.Update cell old new number) es = sym (append_assoc front (entries.Update number old ∷ []) (log_of es))
front_moved front (events.Enter monitor turn) es = sym (append_assoc front (entries.Enter turn ∷ []) (log_of es))
front_moved front (events.Exit monitor turn) es = sym (append_assoc front [] (log_of es))

-- the place after its entry
pub place_moved : (front : List LogEntry) (event : Event) → place_after event (length front) ≡ length (front ++ log_of (event ∷ []))
place_moved front (events.Read cell value bound) = sym (length-append front (entries.Read bound value ∷ []))
place_moved front (events.Write cell value number) = sym (length-append front (entries.Write number ∷ []))
place_moved front (events.Update cell old new number) = sym (length-append front (entries.Update number old ∷ []))
place_moved front (events.Enter monitor turn) = sym (length-append front (entries.Enter turn ∷ []))
place_moved front (events.Exit monitor turn) = sym (ap length (append-nil front))

module _ (laws : MachineLaws) (p : Listing) (fuel t : ℕ) (log : List LogEntry) where
  -- a thread that walks through the events after this prefix of its log is followed through them
  pub walks_followed : (n : ℕ) (front : List LogEntry) (es : List Event) (turns : ℕ → ℕ) (s last : Thread) → log ≡ front ++ log_of es → IsAlive fuel s → fuel < n + s.made → is_exit (stop_of p t last) ≡ false → Walks p fuel t es turns s last → follow_from p fuel t log n (length front) turns s ≡ Ok (record { events = es; thread = stopped last })
  unfolding follow_from
  walks_followed zero front [] turns s last whole alive beyond inside walks = ap (λ x. Ok (record { events = []; thread = stopped x })) walks
  walks_followed zero front (event ∷ es) turns s last whole alive beyond inside walks = absurd (nothing_beyond p fuel t s turns event alive (omega (arith, beyond)) walks.0)
  walks_followed (suc n) front [] turns s last whole alive beyond inside walks =
      let used : slice_get log (length front) ≡ None = slice_get_past log (length front) (omega (arith, ap length (whole ∙ append-nil front))) in
      let over : met_of (stop_of p t s) (slice_get log (length front)) turns ≡ Over = ap (λ next. met_of (stop_of p t s) next turns) used ∙ over_without_entry (stop_of p t s) turns (ap (λ x. is_exit (stop_of p t x)) walks ∙ inside) in
      ap (on_met (length front) s _) over ∙ ap (λ x. Ok (record { events = []; thread = stopped x })) walks
  walks_followed (suc n) front (event ∷ es) turns s last whole alive beyond inside walks =
      let met : met_of (stop_of p t s) (slice_get log (length front)) turns ≡ Makes event = ap (λ (l : List LogEntry). met_of (stop_of p t s) (slice_get l (length front)) turns) whole ∙ met_in_log (stop_of p t s) turns front event es walks.0 in
      let next = after_event p fuel t event s in
      let rest : follow_from p fuel t log n (length (front ++ log_of (event ∷ []))) (turns_after event turns) next ≡ Ok (record { events = es; thread = stopped last }) =
      walks_followed n (front ++ log_of (event ∷ [])) es (turns_after event turns) next last (whole ∙ front_moved front event es) (after_event-alive laws p fuel t event s) (omega (arith, beyond, after_event-made laws p fuel t event s)) inside walks.1 in
      ap (on_met (length front) s _) met
      ∙ ap (λ place. event_before event (follow_from p fuel t log n place (turns_after event turns) next)) (place_moved front event)
      ∙ ap (event_before event) rest
