-- Names and their positions, as the assembler keeps them.
use Rattle.std.specs.Prelude.{ℕ, List, Option}
use Rattle.std.specs.BTreeMap.{get_by}
use Rattle.std.specs.Cmp.Lexicographic.{slice_cmp}
use Rattle.std.specs.Ordering.{nat_cmp}
use Rattle.assembler.specs.declared.names.Names.{Names}

-- the position that is kept for a name
abbrev pub position_of : Names → List ℕ → Option ℕ
position_of names name = get_by (λ key. slice_cmp nat_cmp name key.now) names.positions
