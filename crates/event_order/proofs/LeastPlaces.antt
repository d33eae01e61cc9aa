-- The least place where something is the case.
use Rattle.std.proofs.Common.{◌≡◌, ℕ, ◌<◌, ◌⊎◌, List, Option, Some, None, length, refl, sym, ap, subst, inl, inr}
use Rattle.std.proofs.lemmas.Bool.{cases_lt, cases_order}
use Rattle.interleavings.specs.declared.traces.Place.{Place}
use Rattle.event_order.proofs.Deciding.{IsLeastNumber, Known, known_least, least_under, some_least}
use Rattle.event_order.specs.Backs.{IsLeastOf}
use Rattle.event_order.specs.Deeds.{size}
use Rattle.event_order.specs.declared.deed.Deed.{Deed}
use Rattle.event_order.specs.declared.slot.Slot.{Slot}
use Rattle.event_order.proofs.Rows.{cases_slot}
use Rattle.event_order.proofs.Waiting.{thread_there}

-- one of them is, or not
pub known_either : {P Q : Type 0} → Known P → Known Q → Known (P ⊎ Q)
known_either (inl p) other = inl (inl p)
known_either (inr never) (inl q) = inl (inr q)
known_either (inr never) (inr neither) = inr (λ either. elim either [ inl p ↦ never p | inr q ↦ neither q ])

-- two slots, if there are any, are the same or not
pub known_slot : (a b : Option Slot) → Known (a ≡ b)
known_slot None None = inl refl
known_slot None (Some b) = inr (λ same. absurd cc)
known_slot (Some a) None = inr (λ same. absurd cc)
known_slot (Some a) (Some b) = elim (cases_slot a b) [
  | inl same ↦ inl (ap (λ (s : Slot). Some s) same.0)
  | inr apart ↦ inr (λ same. apart.0 cc)
]

module _ (rows : List (List Deed)) (sort : Place → Type 0) (known : (at : Place) → Known (sort at)) (there : (at : Place) → sort at → at.place < size rows at.thread) where
  -- the place of a thread is of the sort
  abbrev in_thread : ℕ → ℕ → Type 0
  in_thread thread place = sort (record { thread = thread; place = place })

  -- the least place of a thread that is of the sort
  abbrev LeastIn : ℕ → Type 0
  LeastIn thread = (place : ℕ) × IsLeastNumber (in_thread thread) place

  -- the places of a thread are known
  known_place : (thread place : ℕ) → Known (in_thread thread place)
  known_place thread place = known (record { thread = thread; place = place })

  -- and are those of deeds
  place_small : (thread place : ℕ) → in_thread thread place → place < size rows thread
  place_small thread place = there (record { thread = thread; place = place })

  -- a thread has a least place of the sort or not
  known_thread : (thread : ℕ) → Known (LeastIn thread)
  known_thread thread = known_least (in_thread thread) (known_place thread) (size rows thread) (place_small thread)

  -- a thread with a place of the sort has a least one
  least_of_thread : (at : Place) → sort at → LeastIn at.thread
  least_of_thread at is = some_least (in_thread at.thread) (known_place at.thread) (size rows at.thread) (place_small at.thread) at.place is

  -- a thread with one is one of the threads
  thread_small : (thread : ℕ) → LeastIn thread → thread < length rows
  thread_small thread least = thread_there rows thread least.0 (place_small thread least.0 least.1.holds)

  -- there is a least place of the sort, or none
  pub least_place : (found : Option Place) × IsLeastOf sort found
  least_place = elim (least_under LeastIn known_thread (length rows) thread_small) [
    | inr none ↦ (None, λ at is. none at.thread (least_of_thread at is))
    | inl found ↦ (
      Some (record { thread = found.0; place = found.1.holds.0 }),
      (
        found.1.holds.1.holds,
        λ at is. elim (cases_order found.0 at.thread) [
          | inr (inl less) ↦ inl less
          | inr (inr more) ↦ absurd (found.1.none at.thread more (least_of_thread at is))
          | inl same ↦ inr (
            same,
            elim (cases_lt at.place found.1.holds.0) [
              | inr after ↦ after
              | inl before ↦ absurd (found.1.holds.1.none at.place before (let P : ℕ → Type 0 = λ t. in_thread t at.place in subst P (sym same) is))
            ],
          )
        ],
      ),
    )
  ]
