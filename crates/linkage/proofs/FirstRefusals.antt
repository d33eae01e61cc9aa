-- Where something is refused, something is refused first.
use Rattle.std.proofs.Common.{◌≡◌, ℕ, zero, suc, ◌<◌, ◌⊎◌, Some, refl, subst, inl, inr, arith}
use Rattle.std.specs.Option.{option_and_then}
use Rattle.stride_base.specs.Ascending.{Before, Triple}
use Rattle.interleavings.specs.Events.{read_of}
use Rattle.interleavings.specs.TraceLists.{TraceLists}
use Rattle.linkage.specs.declared.link_error.LinkError.{LinkError}
use Rattle.linkage.specs.declared.link_error.LinkError.TheVariants.{TwiceWritten, WriteGap, TwiceTurned, TurnGap, BoundTooLarge, NoEqualWrite, UpdateMismatch, NoMemory}
use Rattle.linkage.specs.Refusals.{IsFirstRefusal, IsRefused, rank_of}
use Rattle.linkage.specs.GatherShows.{place_at}
use Rattle.linkage.specs.Sources.{event_at}
use Rattle.linkage.proofs.Bounds.{IsBound}
use Rattle.linkage.proofs.Deciding.{IsLeastNumber, Known, known_least, least_under, some_least}
use Rattle.linkage.proofs.Frontier.{inside}
use Rattle.linkage.proofs.KnownRefusals.{known_refused}

-- the refusal of a rank; want of memory where there is none
abbrev refusal_at : ℕ → ℕ → ℕ → LinkError
refusal_at zero a b = NoMemory
refusal_at (suc zero) a b = TwiceWritten a b
refusal_at (suc (suc zero)) a b = WriteGap a b
refusal_at (suc (suc (suc zero))) a b = TwiceTurned a b
refusal_at (suc (suc (suc (suc zero)))) a b = TurnGap a b
refusal_at (suc (suc (suc (suc (suc zero))))) a b = BoundTooLarge (record { thread = a; place = b })
refusal_at (suc (suc (suc (suc (suc (suc zero)))))) a b = NoEqualWrite (record { thread = a; place = b })
refusal_at (suc (suc (suc (suc (suc (suc (suc zero))))))) a b = UpdateMismatch (record { thread = a; place = b })
refusal_at (suc (suc (suc (suc (suc (suc (suc (suc kind)))))))) a b = NoMemory

module _ (traces : TraceLists) where
  -- the refusal of a rank is so
  abbrev IsRefusedAt : ℕ → ℕ → ℕ → Type 0
  IsRefusedAt kind a b = IsRefused traces (refusal_at kind a b)

  -- what is refused is refused at its rank
  at_rank : (refusal : LinkError) → IsRefused traces refusal → IsRefusedAt (rank_of refusal).0 (rank_of refusal).1 (rank_of refusal).2
  at_rank NoMemory refused = refused
  at_rank (TwiceWritten cell number) refused = refused
  at_rank (WriteGap cell number) refused = refused
  at_rank (TwiceTurned monitor turn) refused = refused
  at_rank (TurnGap monitor turn) refused = refused
  at_rank (BoundTooLarge at) refused = refused
  at_rank (NoEqualWrite at) refused = refused
  at_rank (UpdateMismatch at) refused = refused

  module _ (most : ℕ) (bound_is : IsBound traces most) where
    -- a rank at which something is refused is below a bound
    record IsRank (kind a b : ℕ) : Type 0 where
      kind_small : kind < 8
      first_small : a < most
      second_small : b < most
      rank : rank_of (refusal_at kind a b) ≡ (kind, a, b)

    -- the place of an event that reads is below the bound
    place_below : (thread place cell value : ℕ) → option_and_then read_of (event_at traces (place_at thread place)) ≡ Some (record { cell = cell; value = value }) → (thread < most) × (place < most)
    place_below thread place cell value met = bound_is.places (place_at thread place) (inside traces (place_at thread place) read_of (record { cell = cell; value = value }) met)

    -- each rank at which something is refused is
    rank_below : (kind a b : ℕ) → IsRefusedAt kind a b → IsRank kind a b
    rank_below zero a b refused = absurd refused
    rank_below (suc zero) a b refused = let small = bound_is.writes refused.one a b refused.one_value refused.one_writes in record { kind_small = omega arith; first_small = small.0; second_small = small.1; rank = refl }
    rank_below (suc (suc zero)) a b refused = let small = bound_is.writes refused.there.0 a refused.greater refused.greater_value refused.there.1 in record { kind_small = omega arith; first_small = small.0; second_small = (let less = refused.above in let last = small.1 in omega arith); rank = refl }
    rank_below (suc (suc (suc zero))) a b refused = let small = bound_is.entries refused.one a b refused.one_enters in record { kind_small = omega arith; first_small = small.0; second_small = small.1; rank = refl }
    rank_below (suc (suc (suc (suc zero)))) a b refused = let small = bound_is.entries refused.source a refused.greater refused.enters in record { kind_small = omega arith; first_small = small.0; second_small = (let less = refused.above in let last = small.1 in omega arith); rank = refl }
    rank_below (suc (suc (suc (suc (suc zero))))) a b refused = let small = place_below a b refused.cell refused.value refused.reads.met in record { kind_small = omega arith; first_small = small.0; second_small = small.1; rank = refl }
    rank_below (suc (suc (suc (suc (suc (suc zero)))))) a b refused = let small = place_below a b refused.cell refused.value refused.reads.met in record { kind_small = omega arith; first_small = small.0; second_small = small.1; rank = refl }
    rank_below (suc (suc (suc (suc (suc (suc (suc zero))))))) a b refused = let small = place_below a b refused.cell refused.old refused.updates.met in record { kind_small = omega arith; first_small = small.0; second_small = small.1; rank = refl }
    rank_below (suc (suc (suc (suc (suc (suc (suc (suc kind)))))))) a b refused = absurd refused

    -- whether the refusal of a rank is so is known
    known_at : (kind a b : ℕ) → Known (IsRefusedAt kind a b)
    known_at kind a b = known_refused traces most bound_is (refusal_at kind a b)

    -- the least second number of a rank of this kind and first number
    abbrev LeastSecond : ℕ → ℕ → Type 0
    LeastSecond kind a = (b : ℕ) × IsLeastNumber (IsRefusedAt kind a) b

    -- second numbers are below the bound
    seconds_small : (kind a b : ℕ) → IsRefusedAt kind a b → b < most
    seconds_small kind a b refused = (rank_below kind a b refused).second_small

    -- the least first number of a rank of this kind
    abbrev LeastFirst : ℕ → Type 0
    LeastFirst kind = (a : ℕ) × IsLeastNumber (LeastSecond kind) a

    -- whether there is a least second number is known
    known_second : (kind a : ℕ) → Known (LeastSecond kind a)
    known_second kind a = known_least (IsRefusedAt kind a) (known_at kind a) most (seconds_small kind a)

    -- where there is one there is a least
    some_second : (kind a b : ℕ) → IsRefusedAt kind a b → LeastSecond kind a
    some_second kind a = some_least (IsRefusedAt kind a) (known_at kind a) most (seconds_small kind a)

    -- first numbers are below the bound
    firsts_small : (kind a : ℕ) → LeastSecond kind a → a < most
    firsts_small kind a least = (rank_below kind a least.0 least.1.holds).first_small

    -- whether there is a least first number is known
    known_first : (kind : ℕ) → Known (LeastFirst kind)
    known_first kind = known_least (LeastSecond kind) (known_second kind) most (firsts_small kind)

    -- where there is one there is a least
    some_first : (kind a b : ℕ) → IsRefusedAt kind a b → LeastFirst kind
    some_first kind a b refused = some_least (LeastSecond kind) (known_second kind) most (firsts_small kind) a (some_second kind a b refused)

    -- kinds are few
    kinds_small : (kind : ℕ) → LeastFirst kind → kind < 8
    kinds_small kind least = (rank_below kind least.0 least.1.holds.0 least.1.holds.1.holds).kind_small

    -- no rank at which something is refused stands before the least
    none_before : (kind : ℕ) (least : IsLeastNumber LeastFirst kind) (other a b : ℕ) → IsRefusedAt other a b → Before (other, a, b) (kind, least.holds.0, least.holds.1.holds.0) → ⊥
    none_before kind least other a b refused (inl less) = least.none other less (some_first other a b refused)
    none_before kind least other a b refused (inr (same, inl less)) =
        let P : ℕ → Type 0 = λ k. IsRefusedAt k a b in
        least.holds.1.none a less (some_second kind a b (subst P same refused))
    none_before kind least other a b refused (inr (same, inr (level, less))) =
        let P : ℕ × ℕ → Type 0 = λ t. IsRefusedAt t.0 t.1 b in
        let pair : (other, a) ≡ (kind, least.holds.0) = cc in
        least.holds.1.holds.1.none b less (subst P pair refused)

    -- something is refused first, or nothing is refused
    pub first_or_none : ((refusal : LinkError) × IsFirstRefusal traces refusal) ⊎ ((refusal : LinkError) → IsRefused traces refusal → ⊥)
    first_or_none = elim (least_under LeastFirst known_first 8 kinds_small) [
      | inr none ↦ inr (λ refusal refused. none (rank_of refusal).0 (some_first (rank_of refusal).0 (rank_of refusal).1 (rank_of refusal).2 (at_rank refusal refused)))
      | inl found ↦
          let kind = found.0 in
          let a = found.1.holds.0 in
          let b = found.1.holds.1.holds.0 in
          let refused = found.1.holds.1.holds.1.holds in
          inl (
            refusal_at kind a b,
            record {
              refused = refused;
              first = λ other also before.
                  let P : Triple → Type 0 = λ t. Before (rank_of other) t in
                  none_before kind found.1 (rank_of other).0 (rank_of other).1 (rank_of other).2 (at_rank other also) (subst P (rank_below kind a b refused).rank before);
            },
          )
    ]
