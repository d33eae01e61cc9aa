-- What a step does to the word of a monitor, and to the turn that its thread holds of it.
use Rattle.std.proofs.Common.{◌≡◌, ℕ, ◌+◌, ◌*◌, ◌/◌, ◌==◌, Bool, true, false, not, if◌then◌else◌, List, [], ◌∷◌, filter, Option, Some, None, is_some, refl, sym, ◌∙◌, ap, inl, inr, arith}
use Rattle.std.proofs.lemmas.Bool.{true≢false, cond_both, cond-true, cond-false, eqb-true, eq-eqb, ne_eqb, cases_eq}
use prog.Atomic.{either}
use Rattle.interleavings.specs.declared.activity.Activity.{Activity}
use Rattle.interleavings.specs.declared.activity.HeldTurn.{HeldTurn}
use Rattle.interleavings.specs.declared.activity.Phase.{Phase}
use Rattle.interleavings.specs.declared.activity.Phase.TheVariants.{Idle, Loaded, Numbered, Marked, Fetched, Stored, Looked}
use Rattle.interleavings.specs.declared.kind.Kind.{Kind}
use Rattle.interleavings.specs.declared.kind.Kind.TheVariants as by
use Rattle.interleavings.specs.AtomicStep.{SharedWord, Monitor, word_of, Begins, Suits, held_turn, turn_or_zero, is_even, word_after, held_if, held_after}
use Rattle.interleavings.specs.History.{put_word}
use Rattle.histories.specs.Chronicle.{Entries, Exits, share}
use Rattle.histories.proofs.Notes.{adds}
use Rattle.histories.proofs.Ownership.{Moves, odd_half, even_twice}

-- a word that is taken begins a turn, and one that is given back ends one
abbrev pub MonitorMoves : Bool → Bool → ℕ → ℕ → Option ℕ → Option ℕ → Type 0
MonitorMoves enters exits w w' has has' = Moves ((enters ≡ false) × (exits ≡ false)) ((enters ≡ true) × (exits ≡ false)) ((enters ≡ false) × (exits ≡ true)) w w' has has'

-- a word that is put back as it was met
pub monitor_back : (words : SharedWord → ℕ) (monitor at : ℕ) → put_word words (Monitor at) (words (Monitor at)) (Monitor monitor) ≡ words (Monitor monitor)
monitor_back words monitor at = cond_both (monitor == at) (words (Monitor at)) (words (Monitor monitor)) (λ x. x ≡ words (Monitor monitor)) (λ e. ap (λ m. words (Monitor m)) (sym (eqb-true monitor at e))) (λ e. refl)

enters_it : (words : SharedWord → ℕ) (monitor at turn : ℕ) (held : List HeldTurn) (met_it : Bool) → (words (Monitor at) == 2 * turn) ≡ met_it → MonitorMoves (if met_it then monitor == at else false) false (words (Monitor monitor)) (put_word words (Monitor at) (either met_it (2 * turn + 1) (words (Monitor at))) (Monitor monitor)) (held_turn monitor held) (held_turn monitor (held_if met_it (record { mon = at; turn = turn + 1 }) held))
enters_it words monitor at turn held false e = inl (monitor_back words monitor at, refl, (refl, refl))
enters_it words monitor at turn held true e = elim (cases_eq monitor at) [
  | inl here ↦
      let met : words (Monitor monitor) ≡ 2 * turn = ap (λ x. words (Monitor x)) here ∙ eqb-true (words (Monitor at)) (2 * turn) e in
      let half : turn + 1 ≡ words (Monitor monitor) / 2 + 1 = omega arith in
      inr (inl (
        even_twice (words (Monitor monitor)) turn met,
        cond-true (monitor == at) (2 * turn + 1) (words (Monitor monitor)) (eq-eqb monitor at here) ∙ omega (arith, met),
        cond-true (at == monitor) (Some (turn + 1)) (held_turn monitor held) (eq-eqb at monitor (sym here)) ∙ ap Some half,
        (eq-eqb monitor at here, refl),
      ))
  | inr there ↦ inl (cond-false (monitor == at) (2 * turn + 1) (words (Monitor monitor)) (ne_eqb monitor at there), cond-false (at == monitor) (Some (turn + 1)) (held_turn monitor held) (ne_eqb at monitor (λ is. there (sym is))), (ne_eqb monitor at there, refl))
]

gone_here : (at : ℕ) (h : HeldTurn) (rest : List HeldTurn) (b : Bool) → (h.mon == at) ≡ b → held_turn at rest ≡ None → held_turn at (if not b then h ∷ rest else rest) ≡ None
gone_here at h rest true e is = is
gone_here at h rest false e is = cond-false (h.mon == at) (Some h.turn) (held_turn at rest) e ∙ is

-- a monitor that was left is not held
gone : (at : ℕ) (held : List HeldTurn) → held_turn at (filter (λ h. not (h.mon == at)) held) ≡ None
gone at [] = refl
gone at (h ∷ held) = gone_here at h (filter (λ h. not (h.mon == at)) held) (h.mon == at) refl (gone at held)

left_here : (monitor at : ℕ) (h : HeldTurn) (rest held : List HeldTurn) (b : Bool) → (h.mon == at) ≡ b → (monitor ≡ at → ⊥) → held_turn monitor rest ≡ held_turn monitor held → held_turn monitor (if not b then h ∷ rest else rest) ≡ held_turn monitor (h ∷ held)
left_here monitor at h rest held true e other is = is ∙ sym (cond-false (h.mon == monitor) (Some h.turn) (held_turn monitor held) (ne_eqb h.mon monitor (λ same. other (sym same ∙ eqb-true h.mon at e))))
left_here monitor at h rest held false e other is = ap (λ x. if h.mon == monitor then Some h.turn else x) is

-- the others are held as before
left : (monitor at : ℕ) (held : List HeldTurn) → (monitor ≡ at → ⊥) → held_turn monitor (filter (λ h. not (h.mon == at)) held) ≡ held_turn monitor held
left monitor at [] other = refl
left monitor at (h ∷ held) other = left_here monitor at h (filter (λ h. not (h.mon == at)) held) held (h.mon == at) refl other (left monitor at held other)

some_half : (even own : Bool) (half : ℕ) (x : Option ℕ) → x ≡ share even own half → is_some x ≡ true → (even ≡ false) × (turn_or_zero x ≡ half)
some_half true own half x e some = absurd (true≢false (sym some ∙ ap is_some e))
some_half false true half x e some = (refl, ap turn_or_zero e)
some_half false false half x e some = absurd (true≢false (sym some ∙ ap is_some e))

-- the turn of a monitor that is held
pub holds_half : (w : ℕ) (own : Bool) (x : Option ℕ) → x ≡ share (is_even w) own ((w + 1) / 2) → is_some x ≡ true → 2 * turn_or_zero x ≡ w + 1
holds_half w own x is some =
    let half = some_half (is_even w) own ((w + 1) / 2) x is some in
    let odd = odd_half w half.0 in
    omega (arith, half.1)

leaves_it : (words : SharedWord → ℕ) (monitor : ℕ) (own : Bool) (at : ℕ) (held : List HeldTurn) → is_some (held_turn at held) ≡ true → held_turn monitor held ≡ share (is_even (words (Monitor monitor))) own ((words (Monitor monitor) + 1) / 2) → MonitorMoves false (monitor == at) (words (Monitor monitor)) (put_word words (Monitor at) (2 * turn_or_zero (held_turn at held)) (Monitor monitor)) (held_turn monitor held) (held_turn monitor (filter (λ h. not (h.mon == at)) held))
leaves_it words monitor own at held suits is = elim (cases_eq monitor at) [
  | inl here ↦
      let some : is_some (held_turn monitor held) ≡ true = ap (λ m. is_some (held_turn m held)) here ∙ suits in
      inr (inr (
        (λ none. true≢false (sym some ∙ ap is_some none)),
        cond-true (monitor == at) (2 * turn_or_zero (held_turn at held)) (words (Monitor monitor)) (eq-eqb monitor at here) ∙ ap (λ m. 2 * turn_or_zero (held_turn m held)) (sym here) ∙ holds_half (words (Monitor monitor)) own (held_turn monitor held) is some,
        ap (λ m. held_turn m (filter (λ h. not (h.mon == at)) held)) here ∙ gone at held,
        (refl, eq-eqb monitor at here),
      ))
  | inr there ↦ inl (cond-false (monitor == at) (2 * turn_or_zero (held_turn at held)) (words (Monitor monitor)) (ne_eqb monitor at there), left monitor at held there, (refl, ne_eqb monitor at there))
]

-- by the step's kind and the phase
pub monitor_moves : (words : SharedWord → ℕ) (monitor : ℕ) (own : Bool) (kind : Kind) (at value : ℕ) (activity : Activity) (phase : Phase) → Begins kind at phase → Suits kind at (record activity { phase = phase }) → held_turn monitor activity.held ≡ share (is_even (words (Monitor monitor))) own ((words (Monitor monitor) + 1) / 2) → MonitorMoves (adds kind at phase (words (word_of kind at)) (Entries monitor)) (adds kind at phase (words (word_of kind at)) (Exits monitor)) (words (Monitor monitor)) (put_word words (word_of kind at) (word_after kind at value (record activity { phase = phase }) (words (word_of kind at))) (Monitor monitor)) (held_turn monitor activity.held) (held_turn monitor (held_after kind at phase activity.held (words (word_of kind at))))
monitor_moves words monitor own by.ValueLoad at value activity Idle begins suits is = inl (refl, refl, (refl, refl))
monitor_moves words monitor own by.NumberLoad at value activity (Loaded a v) begins suits is = inl (refl, refl, (refl, refl))
monitor_moves words monitor own by.SeeNumber at value activity Idle begins suits is = inl (refl, refl, (refl, refl))
monitor_moves words monitor own by.Claim at value activity (Numbered a n) begins suits is = inl (refl, refl, (refl, refl))
monitor_moves words monitor own by.Fetch at value activity (Marked a n) begins suits is = inl (refl, refl, (refl, refl))
monitor_moves words monitor own by.Put at value activity (Marked a n) begins suits is = inl (refl, refl, (refl, refl))
monitor_moves words monitor own by.Put at value activity (Fetched a n old) begins suits is = inl (refl, refl, (refl, refl))
monitor_moves words monitor own by.Complete at value activity (Stored a n old v) begins suits is = inl (refl, refl, (refl, refl))
monitor_moves words monitor own by.Look at value activity Idle begins suits is = inl (monitor_back words monitor at, refl, (refl, refl))
monitor_moves words monitor own by.Enter at value activity (Looked m turn) begins suits is = enters_it words monitor at turn activity.held (words (Monitor at) == 2 * turn) refl
monitor_moves words monitor own by.Leave at value activity Idle begins suits is = leaves_it words monitor own at activity.held suits is
monitor_moves words monitor own by.Draw at value activity Idle begins suits is = inl (refl, refl, (refl, refl))
monitor_moves words monitor own kind at value activity phase begins suits is = absurd begins
