use Rattle.std.proofs.lemmas.List.Sorted.{Contains-permutation, IsPermutation-sym, length_permutation}
use Rattle.stride_base.proofs.AscendingLemmas.{IsAscending-from_sort}
use Rattle.stride_base.proofs.ascending.Ascending.sorted.Goals as goal

pub invariant_of-result : goal.invariant_of-result
invariant_of-result c =
    IsAscending-from_sort _ _ c.requires c.sort_unstable.ensures.permutation c.sort_unstable.ensures.sorted

pub returns-clause-members : goal.returns-clause-members
returns-clause-members c = λ triple.
    let moved = c.sort_unstable.ensures.permutation in (
      Contains-permutation _ _ triple moved,
      Contains-permutation _ _ triple (IsPermutation-sym _ _ moved),
    )

pub returns-clause-len : goal.returns-clause-len
returns-clause-len c = length_permutation _ _ c.sort_unstable.ensures.permutation

pub returns-clause-ascending : goal.returns-clause-ascending
returns-clause-ascending c =
    IsAscending-from_sort _ _ c.requires c.sort_unstable.ensures.permutation c.sort_unstable.ensures.sorted
