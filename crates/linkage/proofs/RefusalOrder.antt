-- The order of refusals, kind by kind.
use Rattle.std.proofs.Common.{◌≡◌, ℕ, ◌+◌, ◌<◌, ◌≤◌, ◌⊎◌, inl, inr, arith}
use Rattle.std.proofs.Math.Nat.{eq-or-lt_of_le}
use Rattle.stride_base.specs.Ascending.{Triple, Before}
use Rattle.interleavings.specs.TraceLists.{TraceLists}
use Rattle.linkage.specs.declared.link_error.LinkError.{LinkError}
use Rattle.linkage.specs.declared.link_error.LinkError.TheVariants.{TwiceWritten, WriteGap, TwiceTurned, TurnGap, BoundTooLarge, NoEqualWrite, UpdateMismatch, NoMemory}
use Rattle.linkage.specs.Checking.{NoneBelow}
use Rattle.linkage.specs.Numbers.{NotAfter}
use Rattle.linkage.specs.Refusals.{IsRefused, IsFirstRefusal, rank_of}

-- no refusal has a kind below the first
pub none_below_first : (traces : TraceLists) → NoneBelow traces 1
none_below_first traces NoMemory refused = absurd refused
none_below_first traces (TwiceWritten cell number) refused = omega arith
none_below_first traces (WriteGap cell number) refused = omega arith
none_below_first traces (TwiceTurned monitor turn) refused = omega arith
none_below_first traces (TurnGap monitor turn) refused = omega arith
none_below_first traces (BoundTooLarge place) refused = omega arith
none_below_first traces (NoEqualWrite place) refused = omega arith
none_below_first traces (UpdateMismatch place) refused = omega arith

-- nor one below the next kind, where none has this kind
pub none_below_next : (traces : TraceLists) (kind : ℕ) → NoneBelow traces kind → ((other : LinkError) → IsRefused traces other → (rank_of other).0 ≡ kind → ⊥) → NoneBelow traces (kind + 1)
none_below_next traces kind below absent other refused =
    elim (eq-or-lt_of_le {n = kind} {m = (rank_of other).0} (below other refused)) [
      | inl same ↦ absurd (absent other refused (omega (arith, same)))
      | inr less ↦ omega (arith, less)
    ]

not_before : (a b : Triple) → b.0 ≤ a.0 → (a.0 ≡ b.0 → NotAfter b.1 b.2 a.1 a.2) → Before a b → ⊥
not_before (x, y, z) (u, v, w) kind least before =
    elim before [
      | inl less ↦ omega (arith, kind, less)
      | inr same ↦ apart (least same.0) same.1
    ]
  where
    apart : NotAfter v w y z → (y < v) ⊎ ((y ≡ v) × (z < w)) → ⊥
    apart up less = grind arith

-- the least of the first kind that there is is the first refusal
pub first_of_kind : (traces : TraceLists) (refusal : LinkError) → IsRefused traces refusal → NoneBelow traces (rank_of refusal).0 → ((other : LinkError) → IsRefused traces other → (rank_of other).0 ≡ (rank_of refusal).0 → NotAfter (rank_of refusal).1 (rank_of refusal).2 (rank_of other).1 (rank_of other).2) → IsFirstRefusal traces refusal
first_of_kind traces refusal refused below least = record {
  refused = refused;
  first = λ other also before. not_before (rank_of other) (rank_of refusal) (below other also) (λ same. least other also same) before;
}
