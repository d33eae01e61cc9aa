-- How far the threads are: which deeds stand, for which slots deeds still wait, and what an order has kept on its way.
use Rattle.std.specs.Prelude.{◌≡◌, ◌≢◌, ℕ, ◌+◌, ◌<◌, ◌≤◌, ◌⊎◌, ltb, Bool, true, false, if◌then◌else◌, List, [], ◌++◌, Option, Some, None, length, min, slice_index_or}
use Rattle.interleavings.specs.declared.traces.Place.{Place}
use Rattle.interleavings.specs.TraceLists.{TraceLists}
use Rattle.event_order.specs.Cycles.{IsStuck}
use Rattle.event_order.specs.Deeds.{AreDeedsOf, Needs, NeedsAt, deed_at, gives_at, size}
use Rattle.event_order.specs.DirectOrder.{LinkRows}
use Rattle.event_order.specs.Least.{IsLeast, IsLeastFrom}
use Rattle.event_order.specs.Sums.{upto}
use Rattle.event_order.specs.Tables.{is_given}
use Rattle.event_order.specs.declared.deed.Deed.{Deed}
use Rattle.event_order.specs.declared.front.Next.{Next}
use Rattle.event_order.specs.declared.front.Next.TheVariants.{Ready, Waits, Ended}
use Rattle.event_order.specs.declared.front.ReadyThread.{ReadyThread}
use Rattle.event_order.specs.declared.slot.Slot.{Slot}
use Rattle.event_order.specs.declared.thread_set.ThreadSet.{ThreadSet}
use Rattle.event_order.specs.ThreadSets.{Has, everyone}

-- how many deeds of a thread stand
abbrev pub done_of : List ℕ → ℕ → ℕ
done_of done thread = slice_index_or done thread 0

-- none stands
abbrev pub none_done : ℕ → ℕ
none_done thread = 0

-- the first deeds of each thread stand, so many of them
abbrev pub stood : (ℕ → ℕ) → Place → Bool
stood done at = ltb at.place (done at.thread)

-- 1 where the deed at this place of the thread fills the slot and doesn't stand yet, or 0
abbrev pub awaited : List (List Deed) → (ℕ → ℕ) → Slot → ℕ → ℕ → ℕ
awaited rows done slot thread i = if ltb i (done thread) then 0 else is_given (gives_at rows (record { thread = thread; place = i })) slot

-- how many deeds of a thread fill the slot and don't stand yet
abbrev pub awaited_of : List (List Deed) → (ℕ → ℕ) → Slot → ℕ → ℕ
awaited_of rows done slot thread = upto (awaited rows done slot thread) (size rows thread)

-- how many of the deeds of a thread before a place fill the slot
abbrev pub tallied : List (List Deed) → ℕ → Slot → ℕ → ℕ
tallied rows place slot thread = upto (awaited rows none_done slot thread) (min place (size rows thread))

-- how many deeds fill the slot and don't stand yet
abbrev pub waiting : List (List Deed) → (ℕ → ℕ) → Slot → ℕ
waiting rows done slot = upto (awaited_of rows done slot) (length rows)

-- the counts and how many deeds of each thread stand agree
pub record IsFront (rows : List (List Deed)) (counts : Slot → ℕ) (done : List ℕ) : Type 0 where
  pub threads : length done ≡ length rows
  pub within : (thread : ℕ) → done_of done thread ≤ size rows thread
  pub counts_are : (slot : Slot) → counts slot ≡ waiting rows (done_of done) slot

-- the next deed of the thread waits for nothing
pub record IsReady (rows : List (List Deed)) (counts : Slot → ℕ) (done : ℕ → ℕ) (thread : ℕ) : Type 0 where
  pub deed : Deed
  pub next : deed_at rows (record { thread = thread; place = done thread }) ≡ Some deed
  pub free : (slot : Slot) → Needs deed slot → counts slot ≡ 0

-- the thread is the first whose next deed waits for nothing, and that is its next deed; or there is none
abbrev pub IsFirstReady : List (List Deed) → (Slot → ℕ) → (ℕ → ℕ) → Option ReadyThread → Type 0
IsFirstReady rows counts done None = (thread : ℕ) → thread < length rows → IsReady rows counts done thread → ⊥
IsFirstReady rows counts done (Some ready) =
    (ready.thread < length rows) × IsReady rows counts done ready.thread
    × ((other : ℕ) → other < ready.thread → IsReady rows counts done other → ⊥)
    × (deed_at rows (record { thread = ready.thread; place = done ready.thread }) ≡ Some ready.deed)

-- the deed at a place waits for this; a slot that is waited for may be the one that has just got empty
abbrev pub IsNextAt : List (List Deed) → (Slot → ℕ) → Option Slot → Place → Next → Type 0
IsNextAt rows counts emptied at (Ready deed) = (deed_at rows at ≡ Some deed) × ((slot : Slot) → Needs deed slot → counts slot ≡ 0)
IsNextAt rows counts emptied at (Waits slot) = NeedsAt rows at slot × ((0 < counts slot) ⊎ (emptied ≡ Some slot))
IsNextAt rows counts emptied at Ended = deed_at rows at ≡ None

-- what is kept of the next deed of a thread
abbrev pub next_of : List Next → ℕ → Next
next_of nexts thread = slice_index_or nexts thread Ended

-- what is kept of the next deed of each thread is so
pub record AreNexts (rows : List (List Deed)) (counts : Slot → ℕ) (emptied : Option Slot) (done : List ℕ) (nexts : List Next) : Type 0 where
  pub count : length nexts ≡ length rows
  pub each : (thread : ℕ) → thread < length rows → IsNextAt rows counts emptied (record { thread = thread; place = done_of done thread }) (next_of nexts thread)

-- the threads that may wait for a slot: any where nothing is kept of it
abbrev pub waiters_of : List (List ThreadSet) → Slot → ThreadSet
waiters_of waiters slot = slice_index_or (slice_index_or waiters slot.row []) slot.number everyone

-- each thread that waits for a slot is one of those that may
abbrev pub AreWaiters : List Next → List (List ThreadSet) → Type 0
AreWaiters nexts waiters = (thread : ℕ) (slot : Slot) → next_of nexts thread ≡ Waits slot → Has (waiters_of waiters slot) thread

-- the set has the threads whose next deed waits for nothing
pub record AreReady (nexts : List Next) (set : ThreadSet) : Type 0 where
  pub has : (thread : ℕ) (deed : Deed) → next_of nexts thread ≡ Ready deed → Has set thread
  pub only : (thread : ℕ) → Has set thread → (deed : Deed) × (next_of nexts thread ≡ Ready deed)

-- one deed more of the thread stands
pub record IsRaised (old : ℕ → ℕ) (thread : ℕ) (new : ℕ → ℕ) : Type 0 where
  pub here : new thread ≡ old thread + 1
  pub others : (other : ℕ) → other ≢ thread → new other ≡ old other

-- what stands after these threads' turns is in no set in which each has a direct predecessor, and they begin each least order
-- that goes on from there
pub record IsKept (rows : List (List Deed)) (done : ℕ → ℕ) (order : List ℕ) : Type 0 where
  pub free : (traces : TraceLists) (links : LinkRows) → AreDeedsOf traces links rows → (set : Place → Bool) → IsStuck traces links set → (at : Place) → set at ≡ true → stood done at ≡ false
  pub least : (traces : TraceLists) (links : LinkRows) → AreDeedsOf traces links rows → (rest : List ℕ) → IsLeastFrom traces links (stood done) rest → IsLeast traces links (order ++ rest)

-- the order was kept least on its way, and no thread is ready any more
pub record IsExtended (rows : List (List Deed)) (done : List ℕ) (order : List ℕ) : Type 0 where
  pub counts : Slot → ℕ
  pub front : IsFront rows counts done
  pub kept : IsKept rows (done_of done) order
  pub stopped : (thread : ℕ) → thread < length rows → IsReady rows counts (done_of done) thread → ⊥
