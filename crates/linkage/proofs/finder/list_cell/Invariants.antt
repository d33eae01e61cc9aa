use Rattle.std.proofs.Common.{◌≡◌, ◌+◌, length}
use Rattle.linkage.specs.Indexing.{AreListedBefore}
use Rattle.linkage.proofs.finder.list_cell.Given as goal

abbrev pub invariant-loop-number : goal.invariant-loop-number
invariant-loop-number l = record {
  listed : AreListedBefore l.row l.cell l.number l.triples.items;
  room : length l.triples.items + l.triples.spare ≡ length l.initial.triples.items + l.initial.triples.spare;
}
