-- Once all names are gathered, what was gathered is of one history.
use Rattle.std.proofs.Common.{◌≡◌, ◌⊎◌, ℕ, zero, suc, ◌+◌, ◌<◌, ◌≤◌, ◌∙◌, List, [], ◌∷◌, length, sum_by, Option, Some, None, refl, sym, ap, subst, inl, inr, arith, get_or, map}
use Rattle.std.specs.Prelude.{slice_get, unwrap_or, is_some}
use Rattle.std.proofs.lemmas.Option.{slice_get_within}
use Rattle.std.proofs.lemmas.Bool.{cases_lt, cases_eq, false≢true}
use Rattle.std.proofs.lemmas.List.Sums.{sum_by-cons}
use mathlib.Core.Option.{some, some-injective, some-ne-none}
use lib.ListN.{get_elem?}
use Rattle.atomic_table.specs.Table as table
use Rattle.interleavings.specs.declared.activity.Activity.{Activity}
use Rattle.interleavings.specs.AtomicStep.{SharedWord, Drawn, IsIdle}
use Rattle.interleavings.specs.History.{Person, State, Step, after, IsHistory, newcomer}
use Rattle.std.specs.Mem.Slots.{slots_items}
use Rattle.interleavings.specs.Recording.{Among}
use Rattle.shared_rule.specs.Closing.{last_word, AreCounted, IsOneHistory, IsWhole}
use Rattle.shared_rule.specs.declared.closed.Closed.{Closed}
use Rattle.shared_rule.specs.declared.limits.TheConstants.{DRAW_LIMIT}
use Rattle.shared_rule.specs.declared.view.View.{View}
use Rattle.shared_rule.specs.Facts.{HistoriesKeep}
use Rattle.shared_rule.specs.Holding.{view_weight, weight_of, weight_below, gathered_weight, IsGatheredAs, AreGathered, Holds}
use Rattle.shared_rule.specs.Lines.{index_of, IsThere}
use Rattle.shared_rule.proofs.Weights.{sum_one, counts_name, counts_itself, counts_other, below_itself, once_below}
use Rattle.shared_rule.proofs.Relabelled.{relabelled, after_same, history_same}

some_same : {A : Type 0} (a b : A) → Some a ≡ Some b → a ≡ b
some_same {A} a b e = ap (λ (o : Option A). unwrap_or o a) e

not_there : {A : Type 0} (a : A) → None ≡ Some a → ⊥
not_there {A} a e = false≢true (ap (λ (o : Option A). is_some o) e)

-- the weighing that counts names
abbrev one : ℕ → ℕ
one name = 1

below_one : (k : ℕ) → weight_below one k ≡ k
below_one zero = refl
below_one (suc k) = let rest = below_one k in omega arith

-- what weighs nothing has no names
no_name : (weigh : ℕ → ℕ) (name : Option ℕ) → weight_of one name ≡ 0 → weight_of weigh name ≡ 0
no_name weigh None none = refl
no_name weigh (Some n) none = absurd (omega arith)

no_names : (weigh : ℕ → ℕ) (gathered : List Activity) → gathered_weight one gathered ≡ 0 → gathered_weight weigh gathered ≡ 0
no_names weigh [] none = refl
no_names weigh (g ∷ gathered) none =
    let split = sum_by-cons (λ (a : Activity). weight_of one a.name) g gathered in
    let own = no_name weigh g.name (omega arith) in
    let rest = no_names weigh gathered (omega arith) in
    omega (arith, sum_by-cons (λ (a : Activity). weight_of weigh a.name) g gathered)

nothing : (weigh : ℕ → ℕ) (v : View) → view_weight one v ≡ 0 → view_weight weigh v ≡ 0
nothing weigh v none =
    let own = no_name weigh v.activity.name (omega arith) in
    let rest = no_names weigh v.gathered (omega arith) in
    omega arith

all_nothing : (weigh : ℕ → ℕ) (views : List View) → sum_by (view_weight one) views ≡ 0 → sum_by (view_weight weigh) views ≡ 0
all_nothing weigh [] none = refl
all_nothing weigh (v ∷ views) none =
    let split = sum_by-cons (view_weight one) v views in
    let own = nothing weigh v (omega arith) in
    let rest = all_nothing weigh views (omega arith) in
    omega (arith, sum_by-cons (view_weight weigh) v views)

-- where what one view gathered has all names, nobody else has any
only_gathered : (weigh : ℕ → ℕ) (views : List View) (id : ℕ) (v : View) → get_elem? views id ≡ some v → sum_by (view_weight one) views ≡ gathered_weight one v.gathered → sum_by (view_weight weigh) views ≡ gathered_weight weigh v.gathered
only_gathered weigh [] id v there all = absurd (some-ne-none v (sym there))
only_gathered weigh (x ∷ views) zero v there all =
    let split = sum_by-cons (view_weight one) x views in
    let same : x ≡ v = some-injective x v there in
    let weighs : view_weight one x ≡ view_weight one v = ap (view_weight one) same in
    let own = no_name weigh v.activity.name (omega arith) in
    let rest = all_nothing weigh views (omega arith) in
    omega (arith, sum_by-cons (view_weight weigh) x views, ap (view_weight weigh) same)
only_gathered weigh (x ∷ views) (suc id) v there all =
    let split = sum_by-cons (view_weight one) x views in
    let part = sum_one (view_weight one) views id v there in
    let none = nothing weigh x (omega arith) in
    let rest = only_gathered weigh views id v there (omega arith) in
    omega (arith, sum_by-cons (view_weight weigh) x views)

counted : (st : State) (g : Activity) (name : Option ℕ) → IsGatheredAs st name g → weight_of one name ≡ 1
counted st g None is = absurd is
counted st g (Some n) is = refl

gathered_count : (st : State) (gathered : List Activity) → AreGathered st gathered → gathered_weight one gathered ≡ length gathered
gathered_count st [] are = refl
gathered_count st (g ∷ gathered) are =
    let rest = gathered_count st gathered are.1 in
    let own = counted st g g.name are.0 in
    omega (arith, sum_by-cons (λ (a : Activity). weight_of one a.name) g gathered)

-- what was gathered at a place
record IsAt (st : State) (gathered : List Activity) (t : ℕ) : Type 0 where
  name : ℕ
  activity : Activity
  there : slice_get gathered t ≡ Some activity
  named : activity.name ≡ Some name
  drawn : name < st.words Drawn
  person : (st.people name).activity ≡ activity
  idle : IsIdle activity.phase

gathered_as : (st : State) (g : Activity) (gathered : List Activity) (name : Option ℕ) → g.name ≡ name → IsGatheredAs st name g → IsAt st (g ∷ gathered) zero
gathered_as st g gathered None is as_is = absurd as_is
gathered_as st g gathered (Some n) is as_is = record { name = n; activity = g; there = refl; named = is; drawn = as_is.0; person = as_is.1; idle = as_is.2 }

gathered_at : (st : State) (gathered : List Activity) → AreGathered st gathered → (t : ℕ) → t < length gathered → IsAt st gathered t
gathered_at st [] are t less = absurd (omega arith)
gathered_at st (g ∷ gathered) are zero less = gathered_as st g gathered g.name refl are.0
gathered_at st (g ∷ gathered) are (suc t) less = (let found = gathered_at st gathered are.1 t (omega arith) in record { name = found.name; activity = found.activity; there = found.there; named = found.named; drawn = found.drawn; person = found.person; idle = found.idle })

name_is : (n : ℕ) (name : Option ℕ) → (name ≡ Some n) ⊎ (weight_of (counts_name n) name ≡ 0)
name_is n None = inr refl
name_is n (Some m) = elim (cases_eq m n) [ inl same ↦ inl (ap Some same) | inr other ↦ inr (counts_other n m other) ]

-- where a name stands
record Stands (n : ℕ) (gathered : List Activity) : Type 0 where
  place : ℕ
  activity : Activity
  there : slice_get gathered place ≡ Some activity
  named : activity.name ≡ Some n

-- a name that weighs something stands somewhere
name_stands : (n : ℕ) (gathered : List Activity) → gathered_weight (counts_name n) gathered ≡ 1 → Stands n gathered
name_stands n [] weighs = absurd (omega arith)
name_stands n (g ∷ gathered) weighs = elim (name_is n g.name) [
  | inl is ↦ record { place = zero; activity = g; there = refl; named = is }
  | inr none ↦
      let found = name_stands n gathered (omega (arith, sum_by-cons (λ (a : Activity). weight_of (counts_name n) a.name) g gathered)) in
      record { place = suc found.place; activity = found.activity; there = found.there; named = found.named }
]

-- a name that stands somewhere weighs something
name_weighs : (n : ℕ) (gathered : List Activity) (t : ℕ) (a : Activity) → slice_get gathered t ≡ Some a → a.name ≡ Some n → 1 ≤ gathered_weight (counts_name n) gathered
name_weighs n [] t a there named = absurd (not_there a there)
name_weighs n (g ∷ gathered) zero a there named =
    let name : g.name ≡ Some n = ap (λ (x : Activity). x.name) (some_same g a there) ∙ named in
    omega (arith, sum_by-cons (λ (x : Activity). weight_of (counts_name n) x.name) g gathered, ap (weight_of (counts_name n)) name, counts_itself n)
name_weighs n (g ∷ gathered) (suc t) a there named =
    let rest = name_weighs n gathered t a there named in
    omega (arith, sum_by-cons (λ (x : Activity). weight_of (counts_name n) x.name) g gathered)

-- a name that weighs one at most stands at one place
name_once : (n : ℕ) (gathered : List Activity) (t u : ℕ) (a b : Activity) → slice_get gathered t ≡ Some a → a.name ≡ Some n → slice_get gathered u ≡ Some b → b.name ≡ Some n → gathered_weight (counts_name n) gathered ≤ 1 → t ≡ u
name_once n [] t u a b at_t named_t at_u named_u most = absurd (not_there a at_t)
name_once n (g ∷ gathered) zero zero a b at_t named_t at_u named_u most = refl
name_once n (g ∷ gathered) zero (suc u) a b at_t named_t at_u named_u most =
    let name : g.name ≡ Some n = ap (λ (x : Activity). x.name) (some_same g a at_t) ∙ named_t in
    let rest = name_weighs n gathered u b at_u named_u in
    absurd (omega (arith, sum_by-cons (λ (x : Activity). weight_of (counts_name n) x.name) g gathered, ap (weight_of (counts_name n)) name, counts_itself n))
name_once n (g ∷ gathered) (suc t) zero a b at_t named_t at_u named_u most =
    let name : g.name ≡ Some n = ap (λ (x : Activity). x.name) (some_same g b at_u) ∙ named_u in
    let rest = name_weighs n gathered t a at_t named_t in
    absurd (omega (arith, sum_by-cons (λ (x : Activity). weight_of (counts_name n) x.name) g gathered, ap (weight_of (counts_name n)) name, counts_itself n))
name_once n (g ∷ gathered) (suc t) (suc u) a b at_t named_t at_u named_u most =
    ap suc (name_once n gathered t u a b at_t named_t at_u named_u (omega (arith, sum_by-cons (λ (x : Activity). weight_of (counts_name n) x.name) g gathered)))

below_weighs : (n k : ℕ) → n < k → weight_below (counts_name n) k ≡ 1
below_weighs n zero less = absurd (omega arith)
below_weighs n (suc k) less = elim (cases_eq k n) [
  | inl same ↦ omega (arith, ap (counts_name n) same, counts_itself n, below_itself n k (omega arith))
  | inr other ↦ omega (arith, counts_other n k other, below_weighs n k (omega arith))
]

module _ (starts : List ℕ) (s : table.State (Unit {0}) View) (holds : Holds starts s) (facts : HistoriesKeep) (id : ℕ) (v : View) (there : get_elem? s.views id ≡ some v) (whole : length v.gathered ≡ (after starts holds.steps).words Drawn) where
  abbrev st : State
  st = after starts holds.steps

  abbrev many : ℕ
  many = length v.gathered

  are : AreGathered st v.gathered
  are = (holds.each id v there).rest

  -- what was gathered weighs what the drawn names weigh
  all_weigh : (weigh : ℕ → ℕ) → gathered_weight weigh v.gathered ≡ weight_below weigh many
  all_weigh weigh =
      sym (only_gathered weigh s.views id v there (holds.once one ∙ below_one (st.words Drawn) ∙ sym whole ∙ sym (gathered_count st v.gathered are)))
      ∙ holds.once weigh
      ∙ ap (weight_below weigh) (sym whole)

  -- the name at a place, and the place of a name; past the last, a number is its own
  name_by : (t : ℕ) → (t < many) ⊎ (many ≤ t) → ℕ
  name_by t (inl less) = (gathered_at st v.gathered are t less).name
  name_by t (inr past) = t

  stands : (n : ℕ) → n < many → Stands n v.gathered
  stands n less = name_stands n v.gathered (all_weigh (counts_name n) ∙ below_weighs n many less)

  place_by : (n : ℕ) → (n < many) ⊎ (many ≤ n) → ℕ
  place_by n (inl less) = (stands n less).place
  place_by n (inr past) = n

  name : ℕ → ℕ
  name t = name_by t (cases_lt t many)

  place : ℕ → ℕ
  place n = place_by n (cases_lt n many)

  once_more : (n : ℕ) → gathered_weight (counts_name n) v.gathered ≤ 1
  once_more n = (let most = once_below n many in omega (arith, all_weigh (counts_name n)))

  place-name-by : (t : ℕ) (here : (t < many) ⊎ (many ≤ t)) (there_too : (name_by t here < many) ⊎ (many ≤ name_by t here)) → place_by (name_by t here) there_too ≡ t
  unfolding name_by place_by
  place-name-by t (inl less) (inl within) =
      let found = gathered_at st v.gathered are t less in
      let again = stands found.name within in
      name_once found.name v.gathered again.place t again.activity found.activity again.there again.named found.there found.named (once_more found.name)
  place-name-by t (inl less) (inr past) = (let found = (gathered_at st v.gathered are t less).drawn in absurd (omega arith))
  place-name-by t (inr past) (inl within) = absurd (omega arith)
  place-name-by t (inr past) (inr past_too) = refl

  name-place-by : (n : ℕ) (here : (n < many) ⊎ (many ≤ n)) (there_too : (place_by n here < many) ⊎ (many ≤ place_by n here)) → name_by (place_by n here) there_too ≡ n
  unfolding name_by place_by
  name-place-by n (inl less) (inl within) =
      let found = stands n less in
      let again = gathered_at st v.gathered are found.place within in
      let same : again.activity ≡ found.activity = some_same again.activity found.activity (sym again.there ∙ found.there) in
      some_same again.name n (sym again.named ∙ ap (λ (a : Activity). a.name) same ∙ found.named)
  name-place-by n (inl less) (inr past) =
      (let found = stands n less in
      let within = slice_get_within v.gathered found.place found.activity found.there in
      absurd (omega arith))
  name-place-by n (inr past) (inl within) = absurd (omega arith)
  name-place-by n (inr past) (inr past_too) = refl

  place-name : (t : ℕ) → place (name t) ≡ t
  unfolding name place
  place-name t = place-name-by t (cases_lt t many) (cases_lt (name_by t (cases_lt t many)) many)

  name-place : (n : ℕ) → name (place n) ≡ n
  unfolding name place
  name-place n = name-place-by n (cases_lt n many) (cases_lt (place_by n (cases_lt n many)) many)

  abbrev all_steps : List Step
  all_steps = map (relabelled starts place name place-name name-place) holds.steps

  thread_by : (t : ℕ) (here : (t < many) ⊎ (many ≤ t)) → t < many → slice_get v.gathered t ≡ Some (st.people (name_by t here)).activity
  unfolding name_by
  thread_by t (inl less) within = (let found = gathered_at st v.gathered are t less in found.there ∙ ap Some (sym found.person))
  thread_by t (inr past) within = absurd (omega arith)

  stranger : (t : ℕ) → many ≤ t → st.people t ≡ newcomer
  stranger t past = facts.strangers starts holds.steps t (λ x among e. (let less = holds.named x among in absurd (omega arith)))

  idle_by : (t : ℕ) (here : (t < many) ⊎ (many ≤ t)) → IsIdle (st.people (name_by t here)).activity.phase
  unfolding name_by
  idle_by t (inl less) = (let found = gathered_at st v.gathered are t less in subst (λ (a : Activity). IsIdle a.phase) (sym found.person) found.idle)
  idle_by t (inr past) = subst (λ (p : Person). IsIdle p.activity.phase) (sym (stranger t past)) tt

  place_within : (n : ℕ) (here : (n < many) ⊎ (many ≤ n)) → n < many → place_by n here < many
  unfolding place_by
  place_within n (inl less) within = (let found = stands n less in slice_get_within v.gathered found.place found.activity found.there)
  place_within n (inr past) within = absurd (omega arith)

  -- no other thread has made a step
  only_these : (made : List Step) → ((x : Step) → Among x made → x.who < many) → (x : Step) → Among x (map (relabelled starts place name place-name name-place) made) → x.who < many
  unfolding place
  only_these [] named x among = absurd among
  only_these (y ∷ made) named x (inl same) = (let within = place_within y.who (cases_lt y.who many) (named y (inl refl)) in let who : x.who ≡ place y.who = ap (λ (z : Step). z.who) same in omega arith)
  only_these (y ∷ made) named x (inr among) = only_these made (λ z there. named z (inr there)) x among

  person_is : (t : ℕ) → (after starts all_steps).people t ≡ st.people (name t)
  person_is t = (after_same starts place name place-name name-place holds.steps).people t

  -- each thread of the relabelled history did what was gathered at its place
  pub record IsTold (told : List Step) : Type 0 where
    pub lawful : IsHistory starts told
    pub threads : (t : ℕ) → t < many → slice_get v.gathered t ≡ Some ((after starts told).people t).activity
    pub idle : (t : ℕ) → IsIdle ((after starts told).people t).activity.phase
    pub only : (x : Step) → Among x told → x.who < many
    pub words : (word : SharedWord) → IsThere (length starts) word → (after starts told).words word ≡ get_or s.words (index_of word) 0

  told : IsTold all_steps
  unfolding name
  told = record {
    lawful = history_same starts place name place-name name-place holds.steps holds.lawful;
    threads = λ t less. thread_by t (cases_lt t many) less ∙ ap (λ (p : Person). Some p.activity) (sym (person_is t));
    idle = λ t. subst (λ (p : Person). IsIdle p.activity.phase) (sym (person_is t)) (idle_by t (cases_lt t many));
    only = only_these holds.steps (λ x among. (let less = holds.named x among in omega arith));
    words = λ word within. (after_same starts place name place-name name-place holds.steps).words word ∙ sym (holds.words word within);
  }

-- no more were gathered than were drawn
module _ (starts : List ℕ) (s : table.State (Unit {0}) View) (holds : Holds starts s) (id : ℕ) (v : View) (there : get_elem? s.views id ≡ some v) where
  gathered_within : length v.gathered ≤ (after starts holds.steps).words Drawn
  gathered_within =
      let part = sum_one (view_weight one) s.views id v there in
      let count = gathered_count (after starts holds.steps) v.gathered (holds.each id v there).rest in
      let all = holds.once one in
      let names = below_one ((after starts holds.steps).words Drawn) in
      omega arith

  draws_within : v.draws + (after starts holds.steps).words Drawn ≤ DRAW_LIMIT
  draws_within = (let part = sum_one (λ (w : View). w.draws) s.views id v there in let all = holds.draws in omega arith)

-- what is read at a place
got : (xs : List ℕ) (i x : ℕ) → get_elem? xs i ≡ some x → get_or xs i 0 ≡ x
got [] i x e = absurd (some-ne-none x (sym e))
got (y ∷ xs) zero x e = some-injective y x e
got (y ∷ xs) (suc i) x e = got xs i x e

pub last_got : (closed : Closed) (word : SharedWord) (i x : ℕ) → i ≡ index_of word → get_elem? (slots_items closed.words.words) i ≡ some x → x ≡ last_word closed word
last_got closed word i x at e = sym (got (slots_items closed.words.words) i x e) ∙ ap (λ j. get_or (slots_items closed.words.words) j 0) at

module _ (starts : List ℕ) (facts : HistoriesKeep) (id : ℕ) (v : View) (starts_are : v.starts ≡ starts) (closed : Closed) (units : List (Unit {0})) (final : table.Final (table.Seen (Holds starts) id v) (slots_items closed.words.words) units) where
  s : table.State (Unit {0}) View
  s = final.0

  holds : Holds starts s
  unfolding s
  holds = final.1.0

  there : get_elem? s.views id ≡ some v
  unfolding s
  there = final.1.1

  words_are : s.words ≡ slots_items closed.words.words
  unfolding s
  words_are = final.2

  drawn_is : last_word closed Drawn ≡ (after starts holds.steps).words Drawn
  drawn_is = ap (λ (xs : List ℕ). get_or xs 0 0) (sym words_are) ∙ holds.words Drawn tt

  pub counted_ends : AreCounted v closed
  counted_ends = record {
    gathered = (let within = gathered_within starts s holds id v there in let drawn = drawn_is in omega arith);
    drawn = (let within = draws_within starts s holds id v there in let drawn = drawn_is in omega arith);
  }

  pub whole_ends : IsWhole v closed
  whole_ends all =
      let is_told = told starts s holds facts id v there (all ∙ drawn_is) in
      let steps = all_steps starts s holds facts id v there (all ∙ drawn_is) in
      let shown : IsOneHistory starts v.gathered closed steps = record {
        lawful = is_told.lawful;
        threads = is_told.threads;
        idle = is_told.idle;
        only = is_told.only;
        words = λ word within. is_told.words word within ∙ ap (λ (xs : List ℕ). get_or xs (index_of word) 0) words_are;
      } in
      (steps, subst (λ xs. IsOneHistory xs v.gathered closed steps) (sym starts_are) shown)

-- no more names were drawn than can be
pub few_names : (starts : List ℕ) (id : ℕ) (v : View) (words : List ℕ) (units : List (Unit {0})) → table.Final (table.Seen (Holds starts) id v) words units → get_or words 0 0 ≤ DRAW_LIMIT
few_names starts id v words units final =
    let holds = final.1.0 in
    let all = holds.draws in
    let drawn : get_or words 0 0 ≡ (after starts holds.steps).words Drawn = ap (λ (xs : List ℕ). get_or xs 0 0) (sym final.2) ∙ holds.words Drawn tt in
    omega arith
