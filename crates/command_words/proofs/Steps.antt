-- The walk of `clap` over the words, one word at a time.
use Rattle.std.proofs.Common.{◌≡◌, ◌∙◌, ◌&&◌, ◌||◌, Bool, cond, true, false, List, [], ◌∷◌, ◌++◌, Option, Some, None, refl, sym, ap, ap₂, codes}
use Rattle.std.specs.List.{fold, list_all}
use Rattle.std.specs.Option.{is_some}
use Rattle.clap.specs.Faults.{defaults_fault, default_fault, entered_fault, check_fault, fault_of, other_fault, positional_fault, settle_fault, step_fault, turn_fault, use_fault, walk_fault, word_fault}
use Rattle.clap.specs.Kinds.{Kinds, or_else}
use Rattle.clap.specs.Simple.{Shape, built, entered, matches_of}
use Rattle.clap.specs.Walk.{Held, Row, Rule, Step, Text, Waiting, Walk, after_step, finished, idle, option, positional, plain_word, positional_held, has_row, is_empty, is_pending, pushed, settled, settled_rows, subcommand_met, subcommand_or_other, used, value, walked, with_default, word_met}
use Rattle.clap.proofs.WalkLemmas.{both}
use Rattle.command_words.specs.App.{line_app}
use Rattle.command_words.specs.Words.{flag}
use Rattle.command_words.specs.declared.options.Setting.{Setting}
use Rattle.command_words.specs.declared.options.Setting.TheVariants.{Fuel, Patience}
use Rattle.command_words.proofs.Rows.{built_option, built_positional, name, rules}

abbrev pub top : Shape
top = (built line_app).top

abbrev pub hold : List Row → Option (Text × List Text) → Held
hold rows pending = record { rows = rows; pending = pending; skip = 0 }

-- between two words
abbrev pub at : List Row → Option (Text × List Text) → Waiting → Bool → Walk
at rows pending waiting trailing = record { held = hold rows pending; waiting = waiting; position = 1; is_trailing = trailing; stopped = None }

-- the fault of using what is pending, and the rows after it
abbrev pub settling : List Row → Option (Text × List Text) → Kinds
settling rows pending = settle_fault rules false (hold rows pending)

abbrev pub settled_at : List Row → Option (Text × List Text) → List Row
settled_at rows pending = settled_rows rules pending rows

-- the faults of the words from here on, and the rows after them
abbrev pub total : Walk → List Text → Kinds
total walk words = or_else (walk_fault top [] walk words) (settle_fault rules false (fold (walked rules []) walk words).held)

abbrev pub final : Walk → List Text → List Row
final walk words = (settled rules (fold (walked rules []) walk words).held).rows

-- ---- faults in a row

pub or_else_assoc : (one two three : Kinds) → or_else (or_else one two) three ≡ or_else one (or_else two three)
or_else_assoc [] two three = refl
or_else_assoc (kind ∷ kinds) two three = refl

pub or_else_nil : (kinds : Kinds) → or_else kinds [] ≡ kinds
or_else_nil [] = refl
or_else_nil (kind ∷ kinds) = refl

pub both_clear : (one two : Kinds) → or_else one two ≡ [] → (one ≡ []) × (two ≡ [])
both_clear [] two h = (refl, h)
both_clear (kind ∷ kinds) two h = absurd (cc)

-- ---- the whole parse

default_clear : (rows : List Row) (rule : Rule) → is_empty rule.defaults ≡ true → default_fault rows rule ≡ []
default_clear rows rule none = go (has_row rule.id rows) (is_empty rule.defaults) _ none
  where
    go : (one two : Bool) (kinds : Kinds) → two ≡ true → cond (one || two) [] kinds ≡ []
    go true two kinds h = refl
    go false two kinds h = rw h refl

defaults_clear : (rows : List Row) (rest : List Rule) → list_all (λ (rule : Rule). is_empty rule.defaults) rest ≡ true → defaults_fault rows rest ≡ []
unfolding defaults_fault
defaults_clear rows [] none = refl
defaults_clear rows (rule ∷ rest) none =
    let parts = both (is_empty rule.defaults) (list_all (λ (rule : Rule). is_empty rule.defaults) rest) none in
    ap₂ or_else (default_clear rows rule parts.0) (defaults_clear (with_default rows rule) rest parts.1)

level_is : (walks settles defaults : Kinds) (rows : List Row) (stop : Option (Text × List Text)) → defaults ≡ []
    → or_else walks (or_else (entered_fault (built line_app) stop) (or_else settles (or_else defaults (check_fault top rows (is_some (entered (built line_app) stop))))))
    ≡ or_else walks settles
level_is walks settles defaults rows None none = ap (λ (k : Kinds). or_else walks (or_else settles (or_else k []))) none ∙ ap (or_else walks) (or_else_nil settles)
level_is walks settles defaults rows (Some stop) none = ap (λ (k : Kinds). or_else walks (or_else settles (or_else k []))) none ∙ ap (or_else walks) (or_else_nil settles)

abbrev pub start : Walk
start = at [] None idle false

-- the faults of a parse are those of its walk
pub fault_is : (words : List Text) → fault_of line_app words ≡ total start words
fault_is words =
    let end = fold (walked rules []) start words in
    level_is (walk_fault top [] start words) (settle_fault rules false end.held) (defaults_fault (settled rules end.held).rows rules) (finished rules end.held) end.stopped
    (defaults_clear (settled rules end.held).rows rules refl)

same_rows : (rows : List Row) (b : Bool) → cond b rows rows ≡ rows
same_rows rows true = refl
same_rows rows false = refl

-- and so are its matches
pub matches_are : (words : List Text) → matches_of line_app words ≡ final start words
matches_are words =
    let rows = final start words in
    let first : with_default rows (built_option Fuel) ≡ rows = same_rows rows (has_row (name Fuel) rows) in
    let second : with_default rows (built_option Patience) ≡ rows = same_rows rows (has_row (name Patience) rows) in
    let third : with_default rows built_positional ≡ rows = same_rows rows (has_row (codes "command") rows) in
    ap (λ (rs : List Row). with_default (with_default rs (built_option Patience)) built_positional) first ∙ ap (λ (rs : List Row). with_default rs built_positional) second ∙ third

-- ---- one word

-- what a word comes to: the fault of its turn, and where the walk stands after it
pub record Goes (walk : Walk) (word : Text) (fault : Kinds) (next : Walk) : Type 0 where
  pub fault_is : turn_fault top [] walk word ≡ fault
  pub next_is : walked rules [] walk word ≡ next

pub total_step : (walk next : Walk) (word : Text) (fault : Kinds) (rest : List Text) → Goes walk word fault next → total walk (word ∷ rest) ≡ or_else fault (total next rest)
unfolding walk_fault
total_step walk next word fault rest goes =
    or_else_assoc (turn_fault top [] walk word) (walk_fault top [] (walked rules [] walk word) rest) _
    ∙ ap₂ (λ (k : Kinds) (w : Walk). or_else k (total w rest)) goes.fault_is goes.next_is

pub total_end : (walk : Walk) → total walk [] ≡ settle_fault rules false walk.held
unfolding walk_fault
total_end walk = refl

pub final_step : (walk next : Walk) (word : Text) (fault : Kinds) (rest : List Text) → Goes walk word fault next → final walk (word ∷ rest) ≡ final next rest
final_step walk next word fault rest goes = ap (λ (w : Walk). final w rest) goes.next_is

-- nothing waits for a value
abbrev pub IsClear : Waiting → Type 0
IsClear idle = Unit
IsClear positional = Unit
IsClear (option id) = ⊥

-- a word that is no flag, for `clap`
pub record IsTaken (word : Text) : Type 0 where
  pub plain : (waiting : Waiting) (rows : List Row) (pending : Option (Text × List Text))
      → subcommand_or_other rules None waiting 1 word (hold rows pending) ≡ plain_word rules waiting word (hold rows pending)
  pub clear : (rows : List Row) (pending : Option (Text × List Text)) → other_fault top None word (hold rows pending) ≡ []

no_subcommand : (waiting : Waiting) (word : Text) → subcommand_met [] waiting word ≡ None
no_subcommand idle word = refl
no_subcommand (option id) word = refl
no_subcommand positional word = refl

-- a positional takes one value in each use
one_each : {X : Type 0} (pending : Bool) (one other : X) → cond (pending && false) one other ≡ other
one_each true one other = refl
one_each false one other = refl

-- the walk after a positional
abbrev pub after_positional : List Row → Option (Text × List Text) → Text → Bool → Walk
after_positional rows pending word trailing = at (settled_at rows pending) (Some (codes "command", word ∷ [])) positional trailing

module _ (rows : List Row) (pending : Option (Text × List Text)) where
  to_positional_fault : positional_fault rules false built_positional (hold rows pending) ≡ settling rows pending
  to_positional_fault = one_each (is_pending built_positional pending) [] (settling rows pending)

  to_positional_held : (word : Text) → positional_held rules built_positional word (hold rows pending) ≡ hold (settled_at rows pending) (Some (codes "command", word ∷ []))
  to_positional_held word = ap (λ (h : Held). pushed (codes "command") word h) (one_each (is_pending built_positional pending) (hold rows pending) (settled rules (hold rows pending)))

  plain_is_value : (waiting : Waiting) (word : Text) → IsClear waiting → ◌≡◌ {A = Held × Step} (plain_word rules waiting word (hold rows pending)) (hold rows pending, value)
  plain_is_value idle word h = refl
  plain_is_value positional word h = refl
  plain_is_value (option id) word h = absurd h

  pub goes_taken : (waiting : Waiting) (word : Text) → IsClear waiting → IsTaken word → Goes (at rows pending waiting false) word (settling rows pending) (after_positional rows pending word false)
  unfolding walked
  goes_taken waiting word idles taken =
      let met : ◌≡◌ {A = Held × Step} (word_met rules [] false waiting 1 word (hold rows pending)) (hold rows pending, value)
      = ap (λ o. subcommand_or_other rules o waiting 1 word (hold rows pending)) (no_subcommand waiting word) ∙ taken.plain waiting rows pending ∙ plain_is_value waiting word idles in
      let clear : word_fault top [] false waiting word (hold rows pending) ≡ [] = ap (λ o. other_fault top o word (hold rows pending)) (no_subcommand waiting word) ∙ taken.clear rows pending in
      record {
        fault_is = ap₂ (λ (k : Kinds) (m : Held × Step). or_else k (step_fault top 1 m.0 m.1)) clear met ∙ to_positional_fault;
        next_is = ap (λ (m : Held × Step). after_step rules word (at rows pending waiting false) m.0 m.1) met
            ∙ ap (λ (h : Held). record { held = h; waiting = positional; position = 1; is_trailing = false; stopped = None }) (to_positional_held word);
      }

  pub goes_trailing : (waiting : Waiting) (word : Text) → Goes (at rows pending waiting true) word (settling rows pending) (after_positional rows pending word true)
  unfolding walked
  goes_trailing waiting word = record {
    fault_is = to_positional_fault;
    next_is = ap (λ (h : Held). record { held = h; waiting = positional; position = 1; is_trailing = true; stopped = None }) (to_positional_held word);
  }

  pub goes_dashes : (waiting : Waiting) → Goes (at rows pending waiting false) (codes "--") [] (at rows pending waiting true)
  unfolding walked
  goes_dashes idle = record { fault_is = refl; next_is = refl }
  goes_dashes positional = record { fault_is = refl; next_is = refl }
  goes_dashes (option id) = record { fault_is = refl; next_is = refl }

  pub goes_bare : (waiting : Waiting) (setting : Setting)
      → Goes (at rows pending waiting false) (flag setting) (settling rows pending) (at (settled_at rows pending) (Some (name setting, [])) (option (name setting)) false)
  unfolding walked
  goes_bare idle Fuel = record { fault_is = or_else_nil _; next_is = refl }
  goes_bare positional Fuel = record { fault_is = or_else_nil _; next_is = refl }
  goes_bare (option id) Fuel = record { fault_is = or_else_nil _; next_is = refl }
  goes_bare idle Patience = record { fault_is = or_else_nil _; next_is = refl }
  goes_bare positional Patience = record { fault_is = or_else_nil _; next_is = refl }
  goes_bare (option id) Patience = record { fault_is = or_else_nil _; next_is = refl }

  abbrev pub joint_fault : Setting → Text → Kinds
  joint_fault setting word = or_else (settling rows pending) (use_fault false (built_option setting) (word ∷ []) (settled_at rows pending))

  abbrev pub after_joint : Setting → Text → Walk
  after_joint setting word = at (used (built_option setting) (word ∷ []) (settled_at rows pending)) None idle false

  pub goes_joint : (waiting : Waiting) (setting : Setting) (word : Text) → Goes (at rows pending waiting false) (flag setting ++ codes "=" ++ word) (joint_fault setting word) (after_joint setting word)
  unfolding walked
  goes_joint idle Fuel word = record { fault_is = or_else_nil _; next_is = refl }
  goes_joint positional Fuel word = record { fault_is = or_else_nil _; next_is = refl }
  goes_joint (option id) Fuel word = record { fault_is = or_else_nil _; next_is = refl }
  goes_joint idle Patience word = record { fault_is = or_else_nil _; next_is = refl }
  goes_joint positional Patience word = record { fault_is = or_else_nil _; next_is = refl }
  goes_joint (option id) Patience word = record { fault_is = or_else_nil _; next_is = refl }

-- a word that is the value of an option
pub goes_value : (rows : List Row) (setting : Setting) (word : Text) → IsTaken word
    → Goes (at rows (Some (name setting, [])) (option (name setting)) false) word [] (at rows (Some (name setting, word ∷ [])) idle false)
unfolding walked
goes_value rows Fuel word taken = record {
  fault_is = ap₂ (λ (k : Kinds) (m : Held × Step). or_else k (step_fault top 1 m.0 m.1)) (taken.clear rows _) (taken.plain (option (codes "fuel")) rows _);
  next_is = ap (λ (m : Held × Step). after_step rules word (at rows (Some (codes "fuel", [])) (option (codes "fuel")) false) m.0 m.1) (taken.plain (option (codes "fuel")) rows _);
}
goes_value rows Patience word taken = record {
  fault_is = ap₂ (λ (k : Kinds) (m : Held × Step). or_else k (step_fault top 1 m.0 m.1)) (taken.clear rows _) (taken.plain (option (codes "patience")) rows _);
  next_is = ap (λ (m : Held × Step). after_step rules word (at rows (Some (codes "patience", [])) (option (codes "patience")) false) m.0 m.1)
      (taken.plain (option (codes "patience")) rows _);
}

-- a word that every walk refuses
pub record IsOdd (word : Text) : Type 0 where
  pub refused : (rows : List Row) (pending : Option (Text × List Text)) → other_fault top None word (hold rows pending) ≡ [] → ⊥

pub odd_stops : (rows : List Row) (pending : Option (Text × List Text)) (waiting : Waiting) (word : Text) (rest : List Text) → IsOdd word
    → total (at rows pending waiting false) (word ∷ rest) ≡ [] → ⊥
unfolding walk_fault
odd_stops rows pending waiting word rest odd clear =
    let turn = (both_clear _ _ (both_clear _ _ clear).0).0 in
    odd.refused rows pending (sym (ap (λ o. other_fault top o word (hold rows pending)) (no_subcommand waiting word)) ∙ (both_clear _ _ turn).0)
