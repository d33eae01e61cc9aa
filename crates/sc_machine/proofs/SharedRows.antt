-- What a thread meets in a row of cells and a row of holders, where these show what a machine has.
use Rattle.std.proofs.Common.{◌≡◌, ◌≢◌, ℕ, ◌<◌, ◌≤◌, ◌∙◌, inl, inr, if◌then◌else◌, List, length, refl, sym, ap, set, slice_index, Option, Some, None, arith}
use Rattle.std.specs.List.{slice_index_or}
use Rattle.std.proofs.lemmas.Bool.Decides.{eqb_tells}
use Rattle.std.proofs.lemmas.List.{get_or-set_other, get_or-set_same, length-set}
use Rattle.stride_isa.specs.Changes.{applied}
use Rattle.stride_isa.specs.Limits.{monitor_limit}
use Rattle.stride_isa.specs.Listing.{Listing, cell_count}
use Rattle.sc_machine.specs.declared.stop.Stop.{Stop}
use Rattle.sc_machine.specs.declared.stop.Stop.TheVariants.{Read, Write, Update, Enter, Exit, Ended}
use Rattle.sc_machine.specs.Machine.{Machine, cells_after, holders_after, is_free_for, may_pass, put, word_read}
use Rattle.sc_machine.specs.ThreadRun.{NamesCell}
use Rattle.sc_machine.specs.TurnsInARow.{cells_in, holders_in, may_in, word_in}

-- the rows show the first cells and the holders of the machine
pub record RowsShow (p : Listing) (cells : List ℕ) (holders : List (Option ℕ)) (m : Machine) : Type 0 where
  pub room : cell_count p.decls ≤ length cells
  pub cells_are : (cell : ℕ) → cell < cell_count p.decls → slice_index cells cell ≡ m.cells cell
  pub monitors : length holders ≡ monitor_limit
  pub holders_are : (monitor : ℕ) → monitor < monitor_limit → slice_index_or holders monitor None ≡ m.holders monitor

-- the rows keep their lengths
pub cells_long : (stop : Stop) (cells : List ℕ) → length (cells_in stop cells) ≡ length cells
cells_long (Read cell) cells = refl
cells_long (Write cell value) cells = length-set cells cell value
cells_long (Update cell change) cells = length-set cells cell (applied change (slice_index cells cell))
cells_long (Enter monitor) cells = refl
cells_long (Exit monitor) cells = refl
cells_long (Ended end) cells = refl

pub holders_long : (t : ℕ) (stop : Stop) (holders : List (Option ℕ)) → length (holders_in t stop holders) ≡ length holders
holders_long t (Read cell) holders = refl
holders_long t (Write cell value) holders = refl
holders_long t (Update cell change) holders = refl
holders_long t (Enter monitor) holders = length-set holders monitor (Some t)
holders_long t (Exit monitor) holders = length-set holders monitor None
holders_long t (Ended end) holders = refl

-- the row with another value at one place shows the map with it there
put_shown : {X : Type 0} (row : List X) (map : ℕ → X) (d : X) (at : ℕ) (value : X) (count : ℕ) → count ≤ length row → ((k : ℕ) → k < count → slice_index_or row k d ≡ map k) → at < count → (k : ℕ) → k < count → slice_index_or (set row at value) k d ≡ put map at value k
put_shown row map d at value count room shown inside k lt = elim (eqb_tells k at) [
  | inl same ↦
      let e : k ≡ at = same.1 in
      ap (λ n. slice_index_or (set row at value) n d) e ∙ get_or-set_same row at value d (omega arith) ∙ ap (λ b. if b then value else map k) (sym same.0)
  | inr other ↦
      let differ : k ≢ at = other.1 in
      get_or-set_other row at k value d differ ∙ shown k lt ∙ ap (λ b. if b then value else map k) (sym other.0)
]

module _ (p : Listing) (cells : List ℕ) (holders : List (Option ℕ)) (m : Machine) (rows : RowsShow p cells holders m) where
  pub word_shown : (stop : Stop) → NamesCell p stop → word_in stop cells ≡ word_read stop m.cells
  word_shown (Read cell) named = rows.cells_are cell named.0
  word_shown (Write cell value) named = refl
  word_shown (Update cell change) named = rows.cells_are cell named.0
  word_shown (Enter monitor) named = refl
  word_shown (Exit monitor) named = refl
  word_shown (Ended end) named = refl

  pub cells_shown : (stop : Stop) → NamesCell p stop → (k : ℕ) → k < cell_count p.decls → slice_index (cells_in stop cells) k ≡ cells_after stop m.cells k
  cells_shown (Read at) named k lt = rows.cells_are k lt
  cells_shown (Write at value) named k lt = put_shown cells m.cells 0 at value (cell_count p.decls) rows.room rows.cells_are named.0 k lt
  cells_shown (Update at change) named k lt =
      ap (λ old. slice_index (set cells at (applied change old)) k) (rows.cells_are at named.0)
      ∙ put_shown cells m.cells 0 at (applied change (m.cells at)) (cell_count p.decls) rows.room rows.cells_are named.0 k lt
  cells_shown (Enter monitor) named k lt = rows.cells_are k lt
  cells_shown (Exit monitor) named k lt = rows.cells_are k lt
  cells_shown (Ended end) named k lt = rows.cells_are k lt

  pub holders_shown : (t : ℕ) (stop : Stop) → NamesCell p stop → (k : ℕ) → k < monitor_limit → slice_index_or (holders_in t stop holders) k None ≡ holders_after t stop m.holders k
  holders_shown t (Read cell) named k lt = rows.holders_are k lt
  holders_shown t (Write cell value) named k lt = rows.holders_are k lt
  holders_shown t (Update cell change) named k lt = rows.holders_are k lt
  holders_shown t (Enter at) named k lt = put_shown holders m.holders None at (Some t) monitor_limit (omega (arith, rows.monitors)) rows.holders_are named.1 k lt
  holders_shown t (Exit at) named k lt = put_shown holders m.holders None at None monitor_limit (omega (arith, rows.monitors)) rows.holders_are named.1 k lt
  holders_shown t (Ended end) named k lt = rows.holders_are k lt

  pub may_shown : (t : ℕ) (stop : Stop) → NamesCell p stop → may_in t stop holders ≡ may_pass t stop m.holders
  may_shown t (Read cell) named = refl
  may_shown t (Write cell value) named = refl
  may_shown t (Update cell change) named = refl
  may_shown t (Enter monitor) named = ap (is_free_for t) (rows.holders_are monitor named.1)
  may_shown t (Exit monitor) named = refl
  may_shown t (Ended end) named = refl
