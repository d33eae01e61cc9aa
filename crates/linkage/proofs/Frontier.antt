-- What is given before a place, as the place goes on.
use Rattle.std.proofs.Common.{◌≡◌, ◌∙◌, ℕ, ◌+◌, ◌<◌, ◌⊎◌, inl, inr, [], length, refl, sym, ap, subst, arith}
use Rattle.std.specs.Prelude.{Option, Some, None}
use Rattle.std.specs.Option.{option_and_then}
use Rattle.std.proofs.Math.Nat.{eq-or-lt_of_le}
use Rattle.std.proofs.lemmas.Bool.{cases_lt}
use Rattle.std.proofs.lemmas.List.{get_or_past}
use Rattle.std.proofs.lemmas.Option.{slice_get_within}
use Rattle.interleavings.specs.declared.event.Event.{Event}
use Rattle.interleavings.specs.declared.traces.Place.{Place}
use Rattle.interleavings.specs.TraceLists.{TraceLists, events_of}
use Rattle.linkage.specs.declared.numbered.Numbered.{Numbered}
use Rattle.linkage.specs.AllOf.{StartsGiven}
use Rattle.linkage.specs.GatherShows.{place_at, GivenAt, IsBefore, UpTo}
use Rattle.linkage.specs.Sources.{event_at}
use Rattle.linkage.proofs.Growing.{IsSame, IsMore}

-- places before the next one of a thread
pub further : (place : Place) (t i : ℕ) → IsBefore place (place_at t i) → IsBefore place (place_at t (i + 1))
further place t i before = elim before [ inl less ↦ inl less | inr same ↦ inr (same.0, omega arith) ]

pub same_place : (place : Place) (t i : ℕ) → place.thread ≡ t → place.place ≡ i → place ≡ place_at t i
same_place place t i thread at = λ k. record { thread = thread k; place = at k }

pub last_or_before : (place : Place) (t i : ℕ) → IsBefore place (place_at t (i + 1)) → IsBefore place (place_at t i) ⊎ (place ≡ place_at t i)
last_or_before place t i before =
    elim before [
      | inl less ↦ inl (inl less)
      | inr same ↦
          elim (eq-or-lt_of_le {n = place.place} {m = i} (omega (arith, same.1))) [
            | inl last ↦ inr (same_place place t i same.0 last)
            | inr less ↦ inl (inr (same.0, less))
          ]
    ]

-- of these places one more was gone through
pub record IsOneMore (seen seen' : Place → Type 0) (at : Place) : Type 0 where
  pub kept : (place : Place) → seen place → seen' place
  pub here : seen' at
  pub last : (place : Place) → seen' place → seen place ⊎ (place ≡ at)
  pub fresh : seen at → ⊥

pub one_further : (t i : ℕ) → IsOneMore (λ place. IsBefore place (place_at t i)) (λ place. IsBefore place (place_at t (i + 1))) (place_at t i)
one_further t i = record {
  kept = λ place. further place t i;
  here = inr (refl, omega arith);
  last = λ place. last_or_before place t i;
  fresh = λ before. elim before [ inl less ↦ omega arith | inr same ↦ omega (arith, same.1) ];
}

pub nothing_first : (place : Place) → IsBefore place (place_at 0 0) → ⊥
nothing_first place before = elim before [ inl less ↦ omega (arith, less) | inr same ↦ omega (arith, same.1) ]

-- as one place more is gone through
module _ {V : Type 0} (given : Option Place → Numbered V → Type 0) (seen seen' : Place → Type 0) (at : Place) (more : IsOneMore seen seen' at) where
  still_given : (source : Option Place) (item : Numbered V) → GivenAt seen given source item → GivenAt seen' given source item
  still_given None item gives = gives
  still_given (Some place) item gives = (gives.0, more.kept place gives.1)

  -- an event that gives nothing
  pub passed : ((item : Numbered V) → given (Some at) item → ⊥) → IsSame (GivenAt seen given) (GivenAt seen' given)
  passed nothing = record { kept = still_given; back = back }
    where
      back : (source : Option Place) (item : Numbered V) → GivenAt seen' given source item → GivenAt seen given source item
      back None item gives = gives
      back (Some place) item gives =
          elim (more.last place gives.1) [
            | inl before ↦ (gives.0, before)
            | inr last ↦ absurd (nothing item (subst (λ (p : Place). given (Some p) item) last gives.0))
          ]

  -- an event that gives one item
  pub taken : (x : Numbered V) → given (Some at) x → ((item : Numbered V) → given (Some at) item → item ≡ x) → IsMore (GivenAt seen given) (GivenAt seen' given) (Some at) x
  taken x here only = record {
    kept = still_given;
    here = (here, more.here);
    news = news;
    fresh = λ item gives own. more.fresh gives.1;
  }
    where
      news : (source : Option Place) (item : Numbered V) → GivenAt seen' given source item → GivenAt seen given source item ⊎ ((source ≡ Some at) × (item ≡ x))
      news None item gives = inl gives
      news (Some place) item gives =
          elim (more.last place gives.1) [
            | inl before ↦ inl (gives.0, before)
            | inr last ↦ inr (ap Some last, only item (subst (λ (p : Place). given (Some p) item) last gives.0))
          ]

-- where of the places that give something the same were gone through
module _ {V : Type 0} (given : Option Place → Numbered V → Type 0) (seen seen' : Place → Type 0) where
  pub same_seen : ((place : Place) (item : Numbered V) → given (Some place) item → seen place → seen' place) → ((place : Place) (item : Numbered V) → given (Some place) item → seen' place → seen place) → IsSame (GivenAt seen given) (GivenAt seen' given)
  same_seen to from = record { kept = kept; back = back }
    where
      kept : (source : Option Place) (item : Numbered V) → GivenAt seen given source item → GivenAt seen' given source item
      kept None item gives = gives
      kept (Some place) item gives = (gives.0, to place item gives.0 gives.1)

      back : (source : Option Place) (item : Numbered V) → GivenAt seen' given source item → GivenAt seen given source item
      back None item gives = gives
      back (Some place) item gives = (gives.0, from place item gives.0 gives.1)

module _ {V : Type 0} (given : Option Place → Numbered V → Type 0) (seen : Place → Type 0) where
  -- what is given at some places is given
  pub given_at : (source : Option Place) (item : Numbered V) → GivenAt seen given source item → given source item
  given_at None item gives = gives
  given_at (Some place) item gives = gives.0

  -- where each place that gives something was gone through
  pub all_seen : ((place : Place) (item : Numbered V) → given (Some place) item → seen place) → IsSame (GivenAt seen given) given
  all_seen each = record { kept = given_at; back = back }
    where
      back : (source : Option Place) (item : Numbered V) → given source item → GivenAt seen given source item
      back None item gives = gives
      back (Some place) item gives = (gives, each place item gives)

  -- where none was gone through there is what is given from the start
  pub started : ((place : Place) → seen place → ⊥) → (first : Option Place → Numbered V → Type 0) (owners : ℕ) → ((item : Numbered V) → first None item → item.owner < owners → given None item) → ((item : Numbered V) → given None item → first None item × (item.owner < owners)) → IsSame (StartsGiven first owners) (GivenAt seen given)
  started nothing first owners to from = record { kept = kept; back = back }
    where
      kept : (source : Option Place) (item : Numbered V) → StartsGiven first owners source item → GivenAt seen given source item
      kept None item gives = to item gives.0 gives.1
      kept (Some place) item gives = absurd gives

      back : (source : Option Place) (item : Numbered V) → GivenAt seen given source item → StartsGiven first owners source item
      back None item gives = from item gives
      back (Some place) item gives = absurd (nothing place gives.1)

module _ {V : Type 0} (given : Option Place → Numbered V → Type 0) where
  -- the end of a thread is the beginning of the next
  pub thread_passed : (t count : ℕ) → ((place : Place) (item : Numbered V) → given (Some place) item → place.thread ≡ t → place.place < count) → IsSame (UpTo (place_at t count) given) (UpTo (place_at (t + 1) 0) given)
  thread_passed t count inside =
      same_seen given (λ place. IsBefore place (place_at t count)) (λ place. IsBefore place (place_at (t + 1) 0))
      (λ place item gives before. elim before [ inl less ↦ inl (omega (arith, less)) | inr same ↦ inl (omega (arith, same.0)) ])
      (λ place item gives before. elim before [
        | inl less ↦ elim (eq-or-lt_of_le {n = place.thread} {m = t} (omega (arith, less))) [ inl same ↦ inr (same, inside place item gives same) | inr lower ↦ inl lower ]
        | inr none ↦ absurd (omega (arith, none.1))
      ])

  -- after the last thread everything is before
  pub all_passed : (threads : ℕ) → ((place : Place) (item : Numbered V) → given (Some place) item → place.thread < threads) → IsSame (UpTo (place_at threads 0) given) given
  all_passed threads inside = all_seen given (λ place. IsBefore place (place_at threads 0)) (λ place item gives. inl (inside place item gives))

pub same_numbered : {V : Type 0} (a b : Numbered V) → a.owner ≡ b.owner → a.number ≡ b.number → a.value ≡ b.value → a ≡ b
same_numbered a b owner number value = λ k. record { owner = owner k; number = number k; value = value k }

-- what an event at a place gives, by a reading of events
module _ (traces : TraceLists) (place : Place) (event : Event) (there : event_at traces place ≡ Some event) {W : Type 0} (read : Event → Option W) where
  pub gives_none : (w : W) → read event ≡ None → option_and_then read (event_at traces place) ≡ Some w → ⊥
  gives_none w none gives = let e = ap (option_and_then read) there in cc

  pub gives_some : (w : W) → read event ≡ Some w → option_and_then read (event_at traces place) ≡ Some w
  gives_some w some = ap (option_and_then read) there ∙ some

  pub gives_one : (v w : W) → read event ≡ Some w → option_and_then read (event_at traces place) ≡ Some v → Some v ≡ Some w
  gives_one v w some gives = sym gives ∙ (ap (option_and_then read) there ∙ some)

-- what an event at a place gives tells that the place is there
pub inside : (traces : TraceLists) (place : Place) {W : Type 0} (read : Event → Option W) (w : W) → option_and_then read (event_at traces place) ≡ Some w → (place.place < length (events_of traces place.thread)) × (place.thread < length traces.events)
inside traces place read w gives = known (event_at traces place) refl gives
  where
    known : (o : Option Event) → event_at traces place ≡ o → option_and_then read o ≡ Some w → (place.place < length (events_of traces place.thread)) × (place.thread < length traces.events)
    known None is gives = absurd (cc (gives))
    known (Some event) is gives =
        let below = slice_get_within (events_of traces place.thread) place.place event is in (
          below,
          elim (cases_lt place.thread (length traces.events)) [
            | inl less ↦ less
            | inr past ↦ absurd (let e : length (events_of traces place.thread) ≡ 0 = ap length (get_or_past traces.events place.thread [] past) in omega arith)
          ],
        )
