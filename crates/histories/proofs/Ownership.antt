-- Who owns an odd word, while steps make words odd and even again.
use Rattle.std.proofs.Common.{◌≡◌, ℕ, ◌+◌, ◌*◌, ◌/◌, ◌%◌, ◌==◌, ◌⊎◌, Bool, true, false, if◌then◌else◌, Option, Some, None, refl, sym, ◌∙◌, ap, subst, inl, inr, arith}
use Rattle.std.proofs.lemmas.Bool.{true≢false, cond_both, eqb-true, eqb-false, eq-eqb, ne_eqb}
use Rattle.interleavings.specs.AtomicStep.{is_even}
use Rattle.histories.specs.Chronicle.{share, IsOwned}
use Rattle.histories.proofs.Notes.{owner_if}

pub even_half : (w : ℕ) → is_even w ≡ true → w ≡ 2 * (w / 2)
even_half w e = omega (arith, eqb-true (w % 2) 0 e)

pub odd_half : (w : ℕ) → is_even w ≡ false → w ≡ 2 * (w / 2) + 1
odd_half w e = (let no : w % 2 ≡ 0 → ⊥ = eqb-false (w % 2) 0 e in omega arith)

pub even_twice : (w n : ℕ) → w ≡ 2 * n → is_even w ≡ true
even_twice w n e = eq-eqb (w % 2) 0 (omega arith)

odd_next : (w : ℕ) → is_even w ≡ true → is_even (w + 1) ≡ false
odd_next w e = ne_eqb ((w + 1) % 2) 0 (let half = even_half w e in λ z. omega arith)

even_next : (w : ℕ) → is_even w ≡ false → is_even (w + 1) ≡ true
even_next w e = eq-eqb ((w + 1) % 2) 0 (let half = odd_half w e in omega arith)

-- what a step does to a word and to what its thread has of it: nothing, or it makes an even word odd and takes it, or it makes an
-- odd word even and gives it back; and what holds besides in each case
abbrev pub Moves : Type 0 → Type 0 → Type 0 → ℕ → ℕ → Option ℕ → Option ℕ → Type 0
Moves Same Taken Given w w' has has' = ((w' ≡ w) × (has' ≡ has) × Same) ⊎ (((is_even w ≡ true) × (w' ≡ w + 1) × (has' ≡ Some (w / 2 + 1)) × Taken) ⊎ ((has ≡ None → ⊥) × (w' ≡ w + 1) × (has' ≡ None) × Given))

-- what a thread has of a word that it has something of
pub owner_at : (even own : Bool) (half : ℕ) (x : Option ℕ) → x ≡ share even own half → (x ≡ None → ⊥) → (even ≡ false) × (own ≡ true) × (x ≡ Some half)
owner_at true own half x e some = absurd (some e)
owner_at false true half x e some = (refl, refl, e)
owner_at false false half x e some = absurd (some e)

-- a thread that has something of a word is its owner, and has half of it
pub owner_of : (w owner : ℕ) (has : ℕ → Option ℕ) (t : ℕ) → IsOwned w owner has → (has t ≡ None → ⊥) → (is_even w ≡ false) × (t ≡ owner) × (has t ≡ Some ((w + 1) / 2))
owner_of w owner has t own some =
    let at = owner_at (is_even w) (t == owner) ((w + 1) / 2) (has t) (own t) some in
    (at.0, eqb-true t owner at.1, at.2)

-- so one thread at most has something of it
pub alone : (w owner : ℕ) (has : ℕ → Option ℕ) (t u : ℕ) → IsOwned w owner has → (has t ≡ None → ⊥) → (has u ≡ None → ⊥) → t ≡ u
alone w owner has t u own some other = (owner_of w owner has t own some).1 ∙ sym (owner_of w owner has u own other).1

owner_same : (b : Bool) (who owner : ℕ) → owner_if b b who owner ≡ owner
owner_same true who owner = refl
owner_same false who owner = refl

same_kept : (w owner : ℕ) (has : ℕ → Option ℕ) (who : ℕ) (has' : Option ℕ) → IsOwned w owner has → has' ≡ has who → IsOwned w (owner_if (is_even w) (is_even w) who owner) (λ t. if t == who then has' else has t)
same_kept w owner has who has' own same t =
    subst (λ (o : ℕ). (if t == who then has' else has t) ≡ share (is_even w) (t == o) ((w + 1) / 2)) (sym (owner_same (is_even w) who owner))
    (cond_both (t == who) has' (has t) (λ x. x ≡ share (is_even w) (t == owner) ((w + 1) / 2)) (λ e. same ∙ ap has (sym (eqb-true t who e)) ∙ own t) (λ e. own t))

taken_at : (even even' : Bool) (who owner t half : ℕ) (mine other : Option ℕ) → even ≡ true → even' ≡ false → mine ≡ Some half → other ≡ None → (if t == who then mine else other) ≡ share even' (t == owner_if even even' who owner) half
taken_at true false who owner t half mine other e e' m o = cond_both (t == who) mine other (λ x. x ≡ share false (t == who) half) (λ is. m ∙ ap (λ b. share false b half) (sym is)) (λ is. o ∙ ap (λ b. share false b half) (sym is))
taken_at true true who owner t half mine other e e' m o = absurd (true≢false e')
taken_at false even' who owner t half mine other e e' m o = absurd (true≢false (sym e))

taken_kept : (w owner : ℕ) (has : ℕ → Option ℕ) (who : ℕ) (has' : Option ℕ) → IsOwned w owner has → is_even w ≡ true → has' ≡ Some (w / 2 + 1) → IsOwned (w + 1) (owner_if (is_even w) (is_even (w + 1)) who owner) (λ t. if t == who then has' else has t)
taken_kept w owner has who has' own even is t =
    let half : w / 2 + 1 ≡ (w + 1 + 1) / 2 = omega arith in
    taken_at (is_even w) (is_even (w + 1)) who owner t ((w + 1 + 1) / 2) has' (has t) even (odd_next w even) (is ∙ ap Some half) (own t ∙ ap (λ b. share b (t == owner) ((w + 1) / 2)) even)

given_kept : (w owner : ℕ) (has : ℕ → Option ℕ) (who : ℕ) (has' : Option ℕ) → IsOwned w owner has → (has who ≡ None → ⊥) → has' ≡ None → IsOwned (w + 1) (owner_if (is_even w) (is_even (w + 1)) who owner) (λ t. if t == who then has' else has t)
given_kept w owner has who has' own some is t =
    let of_who = owner_of w owner has who own some in
    cond_both (t == who) has' (has t) (λ x. x ≡ share (is_even (w + 1)) (t == owner_if (is_even w) (is_even (w + 1)) who owner) ((w + 1 + 1) / 2))
    (λ e. is ∙ sym (nothing of_who.0))
    (λ e. own t ∙ ap (λ b. share b (t == owner) ((w + 1) / 2)) of_who.0 ∙ ap (λ b. share false b ((w + 1) / 2)) (ap (λ o. t == o) (sym of_who.1) ∙ e) ∙ sym (nothing of_who.0))
  where
    nothing : is_even w ≡ false → share (is_even (w + 1)) (t == owner_if (is_even w) (is_even (w + 1)) who owner) ((w + 1 + 1) / 2) ≡ None
    nothing odd = ap (λ b. share b (t == owner_if (is_even w) (is_even (w + 1)) who owner) ((w + 1 + 1) / 2)) (even_next w odd)

-- whatever a step does, what the threads have of the word stays the owner's
pub owned_kept : (Same Taken Given : Type 0) (w w' owner : ℕ) (has : ℕ → Option ℕ) (who : ℕ) (has' : Option ℕ) → IsOwned w owner has → Moves Same Taken Given w w' (has who) has' → IsOwned w' (owner_if (is_even w) (is_even w') who owner) (λ t. if t == who then has' else has t)
owned_kept Same Taken Given w w' owner has who has' own (inl same) = subst (λ (x : ℕ). IsOwned x (owner_if (is_even w) (is_even x) who owner) (λ t. if t == who then has' else has t)) (sym same.0) (same_kept w owner has who has' own same.1)
owned_kept Same Taken Given w w' owner has who has' own (inr (inl taken)) = subst (λ (x : ℕ). IsOwned x (owner_if (is_even w) (is_even x) who owner) (λ t. if t == who then has' else has t)) (sym taken.1) (taken_kept w owner has who has' own taken.0 taken.2)
owned_kept Same Taken Given w w' owner has who has' own (inr (inr given)) = subst (λ (x : ℕ). IsOwned x (owner_if (is_even w) (is_even x) who owner) (λ t. if t == who then has' else has t)) (sym given.1) (given_kept w owner has who has' own given.0 given.2)
