-- A step leaves what a chronicle has, and adds one step to a series at most.
use Rattle.std.proofs.Common.{◌≡◌, ℕ, ◌+◌, ◌==◌, ◌<◌, ◌≤◌, ◌⊎◌, Bool, true, false, Option, Some, None, refl, ◌∙◌, ap, inl, inr, arith}
use Rattle.std.proofs.lemmas.Bool.{eq-eqb, ne_eqb, cases_eq}
use Rattle.interleavings.specs.declared.activity.Activity.{Activity}
use Rattle.interleavings.specs.declared.event.Event.{Event}
use Rattle.interleavings.specs.declared.event.Event.TheVariants.{Read, Write, Update, Enter, Exit}
use Rattle.interleavings.specs.declared.kind.Kind.{Kind}
use Rattle.interleavings.specs.AtomicStep.{SharedWord}
use Rattle.histories.specs.Chronicle.{Series, Puts, Entries, Exits, Mark, Stamp, Chronicle, Cuts, IsValueAt, IsStepOf, IsWriteOf, IsOld, Tells}
use Rattle.histories.proofs.Notes.{adds, count_if, mark_if, noted}

-- one step was made: the steps of each series stay, and a new one is the next and of this time
pub record Grows (c c' : Chronicle) : Type 0 where
  pub now : c'.now ≡ c.now + 1
  pub kept : (series : Series) (k : ℕ) → k ≤ c.count series → c'.mark series k ≡ c.mark series k
  pub more : (series : Series) → c.count series ≤ c'.count series
  pub each : (series : Series) (k : ℕ) → k ≤ c'.count series → (k ≤ c.count series) ⊎ ((k ≡ c.count series + 1) × ((c'.mark series k).time ≡ c.now + 1))

mark_kept : (b : Bool) (count k : ℕ) (new old : Mark) → k ≤ count → mark_if b (k == count + 1) new old ≡ old
mark_kept true count k new old le = ap (λ h. mark_if true h new old) (ne_eqb k (count + 1) (λ e. omega arith))
mark_kept false count k new old le = refl

count_more : (b : Bool) (count : ℕ) → count ≤ count_if b count
count_more true count = omega arith
count_more false count = omega arith

-- the new mark is the next
pub mark_new : (b : Bool) (count k : ℕ) (new old : Mark) → b ≡ true → k ≡ count + 1 → mark_if b (k == count + 1) new old ≡ new
mark_new true count k new old e same = ap (λ h. mark_if true h new old) (eq-eqb k (count + 1) same)
mark_new false count k new old e same = cc

mark_each : (b : Bool) (count k : ℕ) (new old : Mark) → k ≤ count_if b count → (k ≤ count) ⊎ ((k ≡ count + 1) × ((mark_if b (k == count + 1) new old).time ≡ new.time))
mark_each true count k new old le = elim (cases_eq k (count + 1)) [
  | inl same ↦ inr (same, ap (λ m. m.time) (mark_new true count k new old refl same))
  | inr other ↦ inl (omega (arith, other))
]
mark_each false count k new old le = inl le

-- whatever the step is
pub noted_grows : (who : ℕ) (kind : Kind) (at value : ℕ) (activity : Activity) (met : ℕ) (words words' : SharedWord → ℕ) (c : Chronicle) → Grows c (noted who kind at value activity met words words' c)
noted_grows who kind at value activity met words words' c = record {
  now = refl;
  kept = λ series k le. mark_kept (adds kind at activity.phase met series) (c.count series) k _ (c.mark series k) le;
  more = λ series. count_more (adds kind at activity.phase met series) (c.count series);
  each = λ series k le. mark_each (adds kind at activity.phase met series) (c.count series) k _ (c.mark series k) le;
}

module _ (c c' : Chronicle) (grows : Grows c c') where
  -- the time of an old step stays
  pub time_kept : (series : Series) (k : ℕ) → k ≤ c.count series → (c'.mark series k).time ≡ (c.mark series k).time
  time_kept series k le = ap (λ m. m.time) (grows.kept series k le)

  -- and its value
  pub value_kept : (series : Series) (k : ℕ) → k ≤ c.count series → (c'.mark series k).value ≡ (c.mark series k).value
  value_kept series k le = ap (λ m. m.value) (grows.kept series k le)

  -- no step is to come
  pub past_still : ((series : Series) (k : ℕ) → k ≤ c.count series → (c.mark series k).time ≤ c.now) → (series : Series) (k : ℕ) → k ≤ c'.count series → (c'.mark series k).time ≤ c'.now
  past_still past series k le = elim (grows.each series k le) [
    | inl old ↦ omega (arith, time_kept series k old, past series k old, grows.now)
    | inr new ↦ omega (arith, new.1, grows.now)
  ]

  -- the steps are in the order of their numbers
  pub rises_still : ((series : Series) (k : ℕ) → k ≤ c.count series → (c.mark series k).time ≤ c.now) → ((series : Series) (j k : ℕ) → j < k → k ≤ c.count series → (c.mark series j).time < (c.mark series k).time) → (series : Series) (j k : ℕ) → j < k → k ≤ c'.count series → (c'.mark series j).time < (c'.mark series k).time
  rises_still past rises series j k less le = elim (grows.each series k le) [
    | inl old ↦ (let before : j ≤ c.count series = omega arith in omega (arith, time_kept series k old, time_kept series j before, rises series j k less old))
    | inr new ↦ (let before : j ≤ c.count series = omega (arith, new.0) in omega (arith, time_kept series j before, past series j before, new.1))
  ]

  -- what was cut at a time is cut there
  pub cuts_still : (cell number time : ℕ) → number ≤ c.count (Puts cell) → time ≤ c.now → Cuts c cell number time → Cuts c' cell number time
  cuts_still cell number time made past cut = record {
    before = λ k le. (let old : k ≤ c.count (Puts cell) = omega arith in omega (arith, time_kept (Puts cell) k old, cut.before k le));
    behind = λ k less le. elim (grows.each (Puts cell) k le) [
      | inl old ↦ omega (arith, time_kept (Puts cell) k old, cut.behind k less old)
      | inr new ↦ omega (arith, new.1)
    ];
  }

  -- a value was the cell's at a time
  pub value_still : (cell value time : ℕ) → time ≤ c.now → IsValueAt c cell value time → IsValueAt c' cell value time
  value_still cell value time past is = record {
    last = is.last;
    made = omega (arith, is.made, grows.more (Puts cell));
    equal = value_kept (Puts cell) is.last is.made ∙ is.equal;
    cut = cuts_still cell is.last time is.made past is.cut;
  }

  pub step_still : (series : Series) (number t spot time : ℕ) → IsStepOf c series number t spot time → IsStepOf c' series number t spot time
  step_still series number t spot time is =
      let same = grows.kept series number is.made in
      record {
        some = is.some;
        made = omega (arith, is.made, grows.more series);
        who = ap (λ m. m.who) same ∙ is.who;
        place = ap (λ m. m.spot) same ∙ is.place;
        moment = ap (λ m. m.time) same ∙ is.moment;
      }

  pub write_still : (cell value number t spot time : ℕ) → IsWriteOf c cell value number t spot time → IsWriteOf c' cell value number t spot time
  write_still cell value number t spot time is = record {
    step = step_still (Puts cell) number t spot time is.step;
    equal = value_kept (Puts cell) number is.step.made ∙ is.equal;
  }

  pub old_still : (cell n : ℕ) (old : Option ℕ) → n ≤ c.count (Puts cell) → IsOld c cell n old → IsOld c' cell n old
  old_still cell n None le is = tt
  old_still cell n (Some old) le is = value_kept (Puts cell) n le ∙ is

  -- what an event tells stays
  pub tells_still : (t spot : ℕ) (stamp : Stamp) (event : Event) → stamp.from ≤ c.now → stamp.upto ≤ c.now → Tells c t spot stamp event → Tells c' t spot stamp event
  tells_still t spot stamp (Read cell value bound) from upto is = record {
    last = is.last;
    within = is.within;
    made = omega (arith, is.made, grows.more (Puts cell));
    equal = value_kept (Puts cell) is.last (omega (arith, is.within, is.made)) ∙ is.equal;
    from = cuts_still cell is.last stamp.from (omega (arith, is.within, is.made)) from is.from;
    upto = cuts_still cell bound stamp.upto is.made upto is.upto;
  }
  tells_still t spot stamp (Write cell value number) from upto is = write_still cell value number t spot stamp.from is
  tells_still t spot stamp (Update cell old new number) from upto is =
      (write_still cell new number t spot stamp.from is.0, λ below one. value_kept (Puts cell) below (omega (arith, is.0.step.made)) ∙ is.1 below one)
  tells_still t spot stamp (Enter monitor turn) from upto is = step_still (Entries monitor) turn t spot stamp.from is
  tells_still t spot stamp (Exit monitor turn) from upto is = step_still (Exits monitor) turn t spot stamp.from is
