-- A valid program has no fault, and of the first faults there is one.
use Rattle.std.proofs.Common.{◌≡◌, ℕ, ◌+◌, ◌<◌, ◌∙◌, length, refl, sym, ap, subst, arith, inl, inr, zero, suc, Some, None}
use Rattle.std.proofs.lemmas.Bool.{cases_lt}
use Rattle.stride_isa.specs.Faults.{HasNameFault, HasDepthFault, Misnames, Strays, IsFirst, IsFirstFault, Fault, rank}
use Rattle.stride_isa.specs.Laws.{ValidHasNoFault, OneFirstFault, OneVerdict}
use Rattle.stride_isa.specs.Listing.{Listing, code_of}
use Rattle.stride_isa.specs.Validity.{IsValid}
use Rattle.stride_isa.specs.declared.check_error.CheckKind.{CheckKind}
use Rattle.stride_isa.specs.declared.check_error.CheckKind.TheVariants.{Underflow, Overflow, TwoDepths, RunsOff, BadTarget, BadName}

module _ (p : Listing) (valid : IsValid p) (thread at : ℕ) where
  no_misname : (kind : CheckKind) → thread < length p.threads → at < length (code_of p thread) → Misnames p thread at kind → ⊥
  no_misname BadName is inside wrong = wrong (valid.names thread at is inside)
  no_misname BadTarget is inside wrong = wrong (valid.targets thread at is inside)
  no_misname TwoDepths is inside wrong = wrong
  no_misname Underflow is inside wrong = wrong
  no_misname Overflow is inside wrong = wrong
  no_misname RunsOff is inside wrong = wrong

  no_stray : (kind : CheckKind) → thread < length p.threads → Strays p thread at kind → ⊥
  no_stray TwoDepths is (a, (b, apart)) =
      let same = valid.one_depth thread at a.depth b.depth is a.reached b.reached in omega arith
  no_stray Underflow is (a, low) = let fine = valid.fine thread at a.depth is a.reached in omega (arith, fine.enough)
  no_stray Overflow is (a, high) = let fine = valid.fine thread at a.depth is a.reached in omega (arith, fine.room)
  no_stray RunsOff is (inl (a, (leads, behind))) =
      let there = (valid.fine thread at a.depth is a.reached).inside (at + 1) leads in omega arith
  no_stray RunsOff is (inr (none, start)) = let some = valid.code thread is in omega arith
  no_stray BadTarget is stray = stray
  no_stray BadName is stray = stray

pub valid_faultless_both : ValidHasNoFault
valid_faultless_both p valid thread at kind =
    (λ h. no_misname p valid thread at kind h.thread_is h.inside h.fault, λ h. no_stray p valid thread at kind h.thread_is h.fault)

-- the kind of a rank
pub kind_of_rank : ℕ → CheckKind
kind_of_rank zero = TwoDepths
kind_of_rank (suc zero) = Underflow
kind_of_rank (suc (suc zero)) = Overflow
kind_of_rank (suc (suc (suc zero))) = RunsOff
kind_of_rank (suc (suc (suc (suc zero)))) = BadTarget
kind_of_rank (suc (suc (suc (suc (suc n))))) = BadName

pub rank_back : (kind : CheckKind) → kind_of_rank (rank kind) ≡ kind
unfolding kind_of_rank
rank_back TwoDepths = refl
rank_back Underflow = refl
rank_back Overflow = refl
rank_back RunsOff = refl
rank_back BadTarget = refl
rank_back BadName = refl

-- neither of two numbers is less
neither_less : (m n : ℕ) → (m < n → ⊥) → (n < m → ⊥) → m ≡ n
neither_less m n h k = elim (cases_lt m n) [
  | inl lt ↦ absurd (h lt)
  | inr ge ↦ elim (cases_lt n m) [ inl lt ↦ absurd (k lt) | inr le ↦ omega arith ]
]

module _ (F : ℕ → ℕ → CheckKind → Type 0) where
  same_thread : (t a : ℕ) (k : CheckKind) (u b : ℕ) (l : CheckKind) → IsFirst F t a k → IsFirst F u b l → t ≡ u
  same_thread t a k u b l f g = neither_less t u (λ lt. g.threads t a k lt f.here) (λ lt. f.threads u b l lt g.here)

  same_position : (t a : ℕ) (k : CheckKind) (b : ℕ) (l : CheckKind) → IsFirst F t a k → IsFirst F t b l → a ≡ b
  same_position t a k b l f g = neither_less a b (λ lt. g.positions a k lt f.here) (λ lt. f.positions b l lt g.here)

  same_kind : (t a : ℕ) (k l : CheckKind) → IsFirst F t a k → IsFirst F t a l → k ≡ l
  same_kind t a k l f g =
      let same = neither_less (rank k) (rank l) (λ lt. g.kinds k lt f.here) (λ lt. f.kinds l lt g.here) in
      sym (rank_back k) ∙ ap kind_of_rank same ∙ rank_back l

  same_first : (t a : ℕ) (k : CheckKind) (u b : ℕ) (l : CheckKind) → IsFirst F t a k → IsFirst F u b l → (t ≡ u) × (a ≡ b) × (k ≡ l)
  same_first t a k u b l f g =
      let threads : t ≡ u = same_thread t a k u b l f g in
      let there : IsFirst F u a k = subst (λ x. IsFirst F x a k) threads f in
      let positions : a ≡ b = same_position u a k b l there g in
      let here : IsFirst F u b k = subst (λ x. IsFirst F u x k) positions there in
      (threads, positions, same_kind u b k l here g)

pub one_first : OneFirstFault
one_first p t a k u b l (inl f) (inl g) = same_first (HasNameFault p) t a k u b l f g
one_first p t a k u b l (inl f) (inr g) = absurd (g.0 t a k f.here)
one_first p t a k u b l (inr f) (inl g) = absurd (f.0 u b l g.here)
one_first p t a k u b l (inr f) (inr g) = same_first (HasDepthFault p) t a k u b l f.1 g.1

valid_not_first : (p : Listing) → IsValid p → (t a : ℕ) (k : CheckKind) → IsFirstFault p t a k → ⊥
valid_not_first p valid t a k (inl f) = (valid_faultless_both p valid t a k).0 f.here
valid_not_first p valid t a k (inr f) = (valid_faultless_both p valid t a k).1 f.1.here

same_fault : (f g : Fault) → f.thread ≡ g.thread → f.instruction ≡ g.instruction → f.kind ≡ g.kind → f ≡ g
same_fault f g threads positions kinds = λ i. record { kind = kinds i; thread = threads i; instruction = positions i }

pub one_answer : OneVerdict
one_answer p None None v w = refl
one_answer p None (Some g) v w = absurd (valid_not_first p v g.thread g.instruction g.kind w)
one_answer p (Some f) None v w = absurd (valid_not_first p w f.thread f.instruction f.kind v)
one_answer p (Some f) (Some g) v w =
    let same = one_first p f.thread f.instruction f.kind g.thread g.instruction g.kind v w in
    ap Some (same_fault f g same.0 same.1 same.2)
