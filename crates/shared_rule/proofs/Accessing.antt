-- Each access keeps the rule, and is the step that its kind says.
use Rattle.std.proofs.Common.{◌≡◌, ℕ, ◌+◌, ◌*◌, ◌%◌, ◌^◌, ◌==◌, ◌<◌, ◌≤◌, ◌∙◌, List, length, Option, Some, None, refl, sym, ap, subst, arith, get_or, set}
use Rattle.std.specs.Prelude.{slice_index}
use Rattle.std.proofs.lemmas.Bool.{false≢true}
use mathlib.Core.Option.{some, none}
use lib.ListN.{get_elem?}
use prog.Atomic.{either}
use Rattle.atomic_table.specs.Table as table
use Rattle.atomic_table.specs.Table.{Me, Allows, Splits, Joins, keeps}
use Rattle.interleavings.specs.declared.activity.Activity.{Activity}
use Rattle.interleavings.specs.declared.activity.Phase.{Phase}
use Rattle.interleavings.specs.declared.activity.Phase.TheVariants.{Idle, Loaded, Numbered, Marked, Fetched, Stored, Looked}
use Rattle.interleavings.specs.declared.activity.Tally.{Tally}
use Rattle.interleavings.specs.declared.kind.Kind.{Kind}
use Rattle.interleavings.specs.declared.kind.Kind.TheVariants as by
use Rattle.interleavings.specs.AtomicStep.{SharedWord, Drawn, Value, Number, Monitor, word_of, word_after, May, IsIdle, number_in, turn_in}
use Rattle.interleavings.specs.History.{State, after, newcomer}
use Rattle.shared_rule.specs.declared.shared.Shared.{Shared}
use Rattle.shared_rule.specs.declared.view.View.{View}
use Rattle.shared_rule.specs.declared.word.Word.{Word}
use Rattle.shared_rule.specs.declared.word.Word.TheVariants as words
use Rattle.shared_rule.specs.Accesses.{word_named, at_of, load_kind, store_kind, exchange_kind, seen_half, CanStep, MayLoad, MayStore, MayExchange}
use Rattle.shared_rule.specs.Facts.{HistoriesKeep}
use Rattle.shared_rule.specs.Holding.{IsOwn, Holds}
use Rattle.shared_rule.specs.Lines.{index_of, IsThere, word_at}
use Rattle.shared_rule.specs.Passes.{IsWordOf, starts_in}
use Rattle.shared_rule.specs.Plays.{Goes, Loads, Stores, Exchanges, Draws}
use Rattle.shared_rule.specs.Views.{view_after, halved, split_off, taken_in, spent_view}
use Rattle.shared_rule.proofs.Placed.{decoded, index_inside}
use Rattle.shared_rule.proofs.KindRows.{IsNoDraw}
use Rattle.shared_rule.proofs.Steps.{kept}
use Rattle.shared_rule.proofs.Drawing.{drawn, few_drawn}
use Rattle.shared_rule.proofs.Sharing.{splits, joins}
use Rattle.shared_rule.proofs.Small.{met_known}

-- who has no name makes no step but a draw
newcomers_draw : (kind : Kind) (at : ℕ) → IsNoDraw kind at → May kind at newcomer.activity → ⊥
newcomers_draw by.ValueLoad at apart may = absurd (false≢true may.suits)
newcomers_draw by.NumberLoad at apart may = may.begins
newcomers_draw by.SeeNumber at apart may = absurd (false≢true may.suits)
newcomers_draw by.Claim at apart may = may.begins
newcomers_draw by.Fetch at apart may = may.begins
newcomers_draw by.Put at apart may = may.begins
newcomers_draw by.Complete at apart may = may.begins
newcomers_draw by.Look at apart may = absurd (false≢true may.suits)
newcomers_draw by.Enter at apart may = may.begins
newcomers_draw by.Leave at apart may = absurd (false≢true may.suits)
newcomers_draw by.Draw at apart may = apart refl

has_name : (st : State) (kind : Kind) (at : ℕ) → IsNoDraw kind at → (name : Option ℕ) (activity : Activity) (tally : Tally) → activity.name ≡ name → May kind at activity → IsOwn st name activity tally → (n : ℕ) × (activity.name ≡ Some n)
has_name st kind at apart None activity tally is may own = absurd (newcomers_draw kind at apart (subst (λ (a : Activity). May kind at a) own.0 may))
has_name st kind at apart (Some n) activity tally is may own = (n, is)

-- a word that a caller can name is not the count of names
no_draw : (word : SharedWord) (kind : Kind) → (word ≡ Drawn → ⊥) → word_of kind (at_of word) ≡ word → IsNoDraw kind (at_of word)
no_draw word kind apart touches drawn_is = apart (sym touches ∙ drawn_is)

-- loads leave the word as it was
load_leaves : (word : SharedWord) (phase : Phase) (at value : ℕ) (activity : Activity) (met : ℕ) → word_after (load_kind word phase) at value activity met ≡ met
load_leaves Drawn phase at value activity met = refl
load_leaves (Value cell) Idle at value activity met = refl
load_leaves (Value cell) (Loaded c v) at value activity met = refl
load_leaves (Value cell) (Numbered c n) at value activity met = refl
load_leaves (Value cell) (Marked c n) at value activity met = refl
load_leaves (Value cell) (Fetched c n old) at value activity met = refl
load_leaves (Value cell) (Stored c n old v) at value activity met = refl
load_leaves (Value cell) (Looked m t) at value activity met = refl
load_leaves (Number cell) Idle at value activity met = refl
load_leaves (Number cell) (Loaded c v) at value activity met = refl
load_leaves (Number cell) (Numbered c n) at value activity met = refl
load_leaves (Number cell) (Marked c n) at value activity met = refl
load_leaves (Number cell) (Fetched c n old) at value activity met = refl
load_leaves (Number cell) (Stored c n old v) at value activity met = refl
load_leaves (Number cell) (Looked m t) at value activity met = refl
load_leaves (Monitor monitor) phase at value activity met = refl

-- a store tells its pass nothing of the word that it met
store_tells : (word : SharedWord) (at value : ℕ) (v : View) (met : ℕ) → view_after (store_kind word) at value v met ≡ view_after (store_kind word) at value v 0
store_tells Drawn at value v met = refl
store_tells (Value cell) at value v met = refl
store_tells (Number cell) at value v met = refl
store_tells (Monitor monitor) at value v met = refl

abbrev IsValueWord : SharedWord → Type 0
IsValueWord Drawn = ⊥
IsValueWord (Value cell) = Unit {0}
IsValueWord (Number cell) = ⊥
IsValueWord (Monitor monitor) = ⊥

abbrev IsNumberWord : SharedWord → Type 0
IsNumberWord Drawn = ⊥
IsNumberWord (Value cell) = ⊥
IsNumberWord (Number cell) = Unit {0}
IsNumberWord (Monitor monitor) = ⊥

abbrev IsMonitorWord : SharedWord → Type 0
IsMonitorWord Drawn = ⊥
IsMonitorWord (Value cell) = ⊥
IsMonitorWord (Number cell) = ⊥
IsMonitorWord (Monitor monitor) = Unit {0}

abbrev IsDrawnWord : SharedWord → Type 0
IsDrawnWord Drawn = Unit {0}
IsDrawnWord (Value cell) = ⊥
IsDrawnWord (Number cell) = ⊥
IsDrawnWord (Monitor monitor) = ⊥

-- an exchange of twice what was seen for the next word
exchange_puts : (word : SharedWord) (activity : Activity) (old new met : ℕ) → word_of (exchange_kind word) (at_of word) ≡ word → old ≡ 2 * seen_half word activity.phase → new ≡ 2 * seen_half word activity.phase + 1 → either (met == old) new met ≡ word_after (exchange_kind word) (at_of word) 0 activity met
exchange_puts Drawn activity old new met touches old_is new_is = absurd (subst IsDrawnWord (sym touches) tt)
exchange_puts (Value cell) activity old new met touches old_is new_is = absurd (subst IsValueWord (sym touches) tt)
exchange_puts (Number cell) activity old new met touches old_is new_is =
    ap (λ k. either (met == k) new met) old_is ∙ ap (λ k. either (met == 2 * number_in activity.phase) k met) new_is
exchange_puts (Monitor monitor) activity old new met touches old_is new_is =
    ap (λ k. either (met == k) new met) old_is ∙ ap (λ k. either (met == 2 * turn_in activity.phase) k met) new_is

module _ (starts : List ℕ) (facts : HistoriesKeep) (id : ℕ) (v : View) (word : SharedWord) (apart : word ≡ Drawn → ⊥) (inside : IsThere (length starts) word) where
  module _ (s : table.State (Unit {0}) View) (holds : Holds starts s) (there : get_elem? s.views id ≡ some v) (kind : Kind) (can : CanStep kind word v) (value new : ℕ) (new_is : new ≡ word_after kind (at_of word) value v.activity (slice_index s.words (index_of word))) where
    away : IsNoDraw kind (at_of word)
    away = no_draw word kind apart can.touches

    abbrev met : ℕ
    met = slice_index s.words (index_of word)

    named : (n : ℕ) × (v.activity.name ≡ Some n)
    named = has_name (after starts holds.steps) kind (at_of word) away v.activity.name v.activity v.tally refl can.may (holds.each id v there).own

    within : IsThere (length starts) (word_of kind (at_of word))
    within = subst (IsThere (length starts)) (sym can.touches) inside

    at_index : index_of (word_of kind (at_of word)) ≡ index_of word
    at_index = ap index_of can.touches

    pub stepped : Holds starts (record { words = set s.words (index_of word) new; homes = s.homes; views = set s.views id (view_after kind (at_of word) value v met) })
    stepped =
        let done = kept starts s holds facts id named.0 v there named.1 kind (at_of word) value away within can.may can.room met (ap (λ i. get_or s.words i 0) (sym at_index)) in
        let Shown : ℕ → ℕ → Type 0 = λ i x. Holds starts (record { words = set s.words i x; homes = s.homes; views = set s.views id (view_after kind (at_of word) value v met) }) in
        subst (λ x. Shown (index_of word) x) (sym new_is) (subst (λ i. Shown i (word_after kind (at_of word) value v.activity met)) at_index done)

    pub goes : (slots : List (ℕ × Unit {0})) → Goes kind (at_of word) value (v, slots) met (view_after kind (at_of word) value v met, slots)
    goes slots = record {
      step = record { view = refl; met_is = met_known starts s holds facts v (holds.each id v there) kind (at_of word) met away (holds.words word inside ∙ ap (after starts holds.steps).words (sym can.touches)) };
      slots = refl;
    }

module _ (starts : List ℕ) (facts : HistoriesKeep) (slots id : ℕ) (me : Me (Unit {0}) View) (word : SharedWord) (i : ℕ) (at : i ≡ index_of word) (apart : word ≡ Drawn → ⊥) (inside : IsThere (length starts) word) where
  path : word ≡ word_at (index_of word)
  path = sym (decoded (length starts) word inside)

  pub loads : MayLoad word me.0 → Allows (Holds starts) slots id me i (λ n. n) (Loads (table.step slots i 0 0 none) me)
  loads may = subst (λ j. Allows (Holds starts) slots id me j (λ n. n) (Loads (table.step slots j 0 0 none) me)) (sym at)
      (λ s holds homes there small.
      (let kind = load_kind word me.0.activity.phase in
      let met : ℕ = slice_index s.words (index_of word) in
      let now : View = view_after kind (at_of word) 0 me.0 met in
      let Told : SharedWord → Type 0 = λ w. Goes (load_kind w me.0.activity.phase) (at_of w) 0 me met (now, me.1) in (
        now,
        keeps,
        tt,
        stepped starts facts id me.0 word apart inside s holds there kind may 0 met (sym (load_leaves word me.0.activity.phase (at_of word) 0 me.0.activity met)),
        subst Told path (goes starts facts id me.0 word apart inside s holds there kind may 0 met (sym (load_leaves word me.0.activity.phase (at_of word) 0 me.0.activity met)) me.1),
      )))

  pub stores : (new : ℕ) → MayStore word new me.0 → Allows (Holds starts) slots id me i (λ n. new) (λ n. Stores (table.step slots i new 0 none) me new)
  stores new may = subst (λ j. Allows (Holds starts) slots id me j (λ n. new) (λ n. Stores (table.step slots j new 0 none) me new)) (sym at)
      (λ s holds homes there small.
      (let kind = store_kind word in
      let met : ℕ = slice_index s.words (index_of word) in
      let now : View = view_after kind (at_of word) new me.0 met in
      let Told : SharedWord → Type 0 = λ w. (now ≡ view_after (store_kind w) (at_of w) new me.0 0) × (me.1 ≡ me.1) in (
        now,
        keeps,
        tt,
        stepped starts facts id me.0 word apart inside s holds there kind may.step new new (sym (may.new_is met)),
        subst Told path (store_tells word (at_of word) new me.0 met, refl),
      )))

  pub exchanges : (old new : ℕ) → MayExchange word old new me.0 → Allows (Holds starts) slots id me i (λ n. either (n == old) new n) (Exchanges (table.step slots i old new none) me)
  exchanges old new may = subst (λ j. Allows (Holds starts) slots id me j (λ n. either (n == old) new n) (Exchanges (table.step slots j old new none) me)) (sym at)
      (λ s holds homes there small.
      (let kind = exchange_kind word in
      let met : ℕ = slice_index s.words (index_of word) in
      let now : View = view_after kind (at_of word) 0 me.0 met in
      let puts = exchange_puts word me.0.activity old new met may.step.touches may.old_is may.new_is in
      let Told : SharedWord → Type 0 = λ w. Goes (exchange_kind w) (at_of w) 0 me met (now, me.1) in (
        now,
        keeps,
        tt,
        stepped starts facts id me.0 word apart inside s holds there kind may.step 0 (either (met == old) new met) puts,
        subst Told path (goes starts facts id me.0 word apart inside s holds there kind may.step 0 (either (met == old) new met) puts me.1),
      )))

module _ (starts : List ℕ) (slots id : ℕ) (me : Me (Unit {0}) View) where
  pub draws : HistoriesKeep → me.0.activity.name ≡ None → 1 ≤ me.0.draws → Allows (Holds starts) slots id me 0 (λ n. (n + 1) % 2 ^ 64) (Draws (table.step slots 0 1 0 none) me)
  draws facts nameless some_draw s holds homes there small =
      let met : ℕ = slice_index s.words 0 in (
        view_after by.Draw 0 0 me.0 met,
        keeps,
        tt,
        drawn starts s holds facts id me.0 there nameless some_draw met refl,
        record { step = record { view = refl; met_is = few_drawn starts s holds facts id me.0 there nameless some_draw met refl }; slots = refl },
      )

pub split_keeps : (starts : List ℕ) (id : ℕ) (v : View) → Splits {S = Unit {0}} (Holds starts) id v (halved v) (split_off v)
split_keeps starts id v s holds there = splits starts s holds id v there

pub join_keeps : (starts : List ℕ) (id other : ℕ) (v w : View) → IsIdle w.activity.phase → Joins {S = Unit {0}} (Holds starts) id v other w (taken_in v w) spent_view
join_keeps starts id other v w idle s holds there apart at_other = joins starts s holds id other v w there apart at_other idle

-- a word that a caller names
pub named_apart : (word : Word) → word_named word ≡ Drawn → ⊥
named_apart (words.Value cell) e = subst IsValueWord e tt
named_apart (words.Number cell) e = subst IsNumberWord e tt
named_apart (words.Monitor monitor) e = subst IsMonitorWord e tt

pub named_there : (shared : Shared) (word : Word) → IsWordOf shared (word_named word) → IsThere (length (starts_in shared)) (word_named word)
named_there shared (words.Value cell) within = within
named_there shared (words.Number cell) within = within
named_there shared (words.Monitor monitor) within = (let few = shared.few_monitors in omega arith)

-- its place is one of the table's
pub index_fits : (shared : Shared) (word : Word) → IsWordOf shared (word_named word) → (i : ℕ) → i ≡ index_of (word_named word) → i < shared.table.shared.table_id.words
index_fits shared word within i at =
    let inside = index_inside (length (starts_in shared)) (word_named word) (named_there shared word within) in
    let wide = shared.wide in
    omega arith

pub drawn_fits : (shared : Shared) → 0 < shared.table.shared.table_id.words
drawn_fits shared = (let wide = shared.wide in omega arith)
