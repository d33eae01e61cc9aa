use Rattle.std.proofs.Common.{◌≡◌, ◌+◌, ◌≤◌}
use Rattle.linkage.specs.Indexing.{AreListedFrom}
use Rattle.linkage.proofs.finder.list_span.Given as goal

abbrev pub invariant-loop-number : goal.invariant-loop-number
invariant-loop-number l = record {
  order : l.first ≤ l.number;
  listed : AreListedFrom l.row l.cell l.first l.number l.triples.items;
  room : l.number + l.triples.spare ≡ l.first + l.initial.triples.spare;
}
