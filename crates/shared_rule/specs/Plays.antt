-- What one access tells its pass.
use Rattle.std.specs.Prelude.{◌≡◌, ℕ, ◌+◌, ◌*◌, ◌/◌, ◌<◌, ◌≤◌, ◌^◌, false, Option, Some, None}
use Rattle.atomic_table.specs.Table.{Step, Me}
use Rattle.interleavings.specs.declared.kind.Kind.{Kind}
use Rattle.interleavings.specs.declared.kind.Kind.TheVariants as by
use Rattle.interleavings.specs.AtomicStep.{is_even}
use Rattle.interleavings.specs.History.{greatest_seen}
use Rattle.shared_rule.specs.declared.limits.TheConstants.{DRAW_LIMIT}
use Rattle.shared_rule.specs.declared.view.View.{View}
use Rattle.shared_rule.specs.Accesses.{at_of, load_kind, store_kind, exchange_kind}
use Rattle.shared_rule.specs.Lines.{word_at}
use Rattle.shared_rule.specs.Views.{view_after}

-- half of the word of a number or a monitor, and the number or turn after it, have 31 bits
abbrev pub IsSmall : ℕ → Type 0
IsSmall word = word / 2 + 1 < 2 ^ 31

-- what is known of the word that a step of this kind met: half of the number that a read loads is not below what the pass has
-- seen of the cell
abbrev pub Met : Kind → ℕ → View → ℕ → Type 0
Met by.ValueLoad at v met = Unit {0}
Met by.NumberLoad at v met = IsSmall met × (greatest_seen at v.seen ≤ met / 2)
Met by.SeeNumber at v met = IsSmall met
Met by.Claim at v met = IsSmall met
Met by.Fetch at v met = Unit {0}
Met by.Put at v met = Unit {0}
Met by.Complete at v met = IsSmall met
Met by.Look at v met = IsSmall met
Met by.Enter at v met = IsSmall met
Met by.Leave at v met = IsSmall met
Met by.Draw at v met = met < DRAW_LIMIT

-- what a look at a number or a monitor answers: half of the word where it was even, and nothing where it was odd
abbrev pub IsHalf : Option ℕ → ℕ → Type 0
IsHalf (Some half) word = word ≡ 2 * half
IsHalf None word = is_even word ≡ false

-- the pass made exactly one step, of this kind at this cell or monitor, which stores this value where it stores one, and met
-- this word
pub record Makes (kind : Kind) (at value : ℕ) (before : View) (met : ℕ) (now : View) : Type 0 where
  pub view : now ≡ view_after kind at value before met
  pub met_is : Met kind at before met

-- a seat of the table goes on with a view and keeps its slots
pub record Goes (kind : Kind) (at value : ℕ) (before : Me (Unit {0}) View) (met : ℕ) (now : Me (Unit {0}) View) : Type 0 where
  pub step : Makes kind at value before.0 met now.0
  pub slots : now.1 ≡ before.1

-- what a draw, a load and an exchange tell
abbrev pub Draws : Step (Unit {0}) → Me (Unit {0}) View → ℕ → Me (Unit {0}) View → Type 0
Draws step before met now = Goes by.Draw 0 0 before met now

abbrev pub Loads : Step (Unit {0}) → Me (Unit {0}) View → ℕ → Me (Unit {0}) View → Type 0
Loads step before met now = Goes (load_kind (word_at step.word) before.0.activity.phase) (at_of (word_at step.word)) 0 before met now

abbrev pub Exchanges : Step (Unit {0}) → Me (Unit {0}) View → ℕ → Me (Unit {0}) View → Type 0
Exchanges step before met now = Goes (exchange_kind (word_at step.word)) (at_of (word_at step.word)) 0 before met now

-- what a store tells; the word that it met is not among it
abbrev pub Stores : Step (Unit {0}) → Me (Unit {0}) View → ℕ → Me (Unit {0}) View → Type 0
Stores step before new now = (now.0 ≡ view_after (store_kind (word_at step.word)) (at_of (word_at step.word)) new before.0 0) × (now.1 ≡ before.1)
