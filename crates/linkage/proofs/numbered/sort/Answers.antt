use Rattle.std.proofs.Common.{rules}
use Rattle.std.proofs.lemmas.List.Sorted.{answers_always}
use Rattle.linkage.specs.declared.numbered.Numbered.{Numbered}
use Rattle.linkage.proofs.NumberedLists.{ordered_from_sort}
use Rattle.linkage.proofs.numbered.sort.Goals as goal

pub returns-clause-ordered : goal.returns-clause-ordered
returns-clause-ordered g c =
    ordered_from_sort c.sort_unstable_by_key.new.self.items
    (c.sort_unstable_by_key.ensures.sorted (λ (item : Numbered _). (item.owner, item.number)) (answers_always _ _ _ (λ f a r q h. search rules)))
