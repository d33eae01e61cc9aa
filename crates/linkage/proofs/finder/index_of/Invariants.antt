use Rattle.std.proofs.Common.{◌+◌, ◌≤◌, length}
use Rattle.linkage.specs.Indexing.{AreListedBefore}
use Rattle.linkage.proofs.finder.index_of.Given as goal

abbrev pub invariant-loop-cell : goal.invariant-loop-cell
invariant-loop-cell l = record {
  listed : AreListedBefore l.row l.cell 0 l.triples.items;
  room : length l.row.values.items ≤ length l.triples.items + l.triples.spare;
}
