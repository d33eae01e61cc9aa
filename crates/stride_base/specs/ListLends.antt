-- What a `List` ends as, where a `&mut` to an item is returned.
use Rattle.std.specs.Prelude.{ℕ}
use Rattle.std.specs.Borrow.{Lends, Fml, RattleType, MutBor}
use Rattle.stride_base.specs.Listed.{Listed, with_item}
use Rattle.stride_base.specs.contracts.list.List.{the_row}

-- once the borrow r ends, the index has the last value written through r, and all else stays
abbrev pub LendsItem : (T : RattleType) → MutBor (Listed T.Denot) → ℕ → MutBor T.Denot → Fml
LendsItem T list i r = Lends (the_row T) T list r (with_item list.now i)
