-- What a step does to the threads: to the one that makes it, and to the others.
use Rattle.std.proofs.Common.{◌≡◌, ◌≢◌, ℕ, ◌==◌, List, ◌∷◌, refl, ap}
use Rattle.std.proofs.lemmas.Bool.{cond_both, eqb-true, eqb-false}
use Rattle.interleavings.specs.AtomicStep.{word_of, activity_after}
use Rattle.interleavings.specs.History.{Person, Step, put_person, after}
use Rattle.interleavings.specs.Recording.{Setting, state_of, activity_of}

-- the thread that makes a step
pub maker : (people : ℕ → Person) (who : ℕ) (person : Person) → put_person people who person who ≡ person
maker people who person = cond_both (who == who) person (people who) (λ x. x ≡ person) (λ e. refl) (λ e. absurd (eqb-false who who e refl))

-- another thread than the one that makes a step
pub another : (people : ℕ → Person) (who other : ℕ) (person : Person) → other ≢ who → put_person people who person other ≡ people other
another people who other person differs = cond_both (other == who) person (people other) (λ x. x ≡ people other) (λ e. absurd (differs (eqb-true other who e))) (λ e. refl)

-- the other threads do nothing by a step
pub step_elsewhere : (g : Setting) (s : Step) (steps : List Step) (u : ℕ) → u ≢ s.who → activity_of g (s ∷ steps) u ≡ activity_of g steps u
unfolding after
step_elsewhere g s steps u other = ap (λ (person : Person). person.activity) (another (state_of g steps).people s.who u _ other)

-- the thread that makes a step does what its kind says
pub step_here : (g : Setting) (s : Step) (steps : List Step) → activity_of g (s ∷ steps) s.who ≡ activity_after s.kind s.at s.value (activity_of g steps s.who) ((state_of g steps).words (word_of s.kind s.at))
unfolding after
step_here g s steps = ap (λ (person : Person). person.activity) (maker (state_of g steps).people s.who _)
