-- Linking event by event.
use Rattle.std.proofs.Common.{◌≡◌, ◌∙◌, ℕ, ◌+◌, ◌<◌, ◌≤◌, ◌⊎◌, inl, inr, List, [], ◌∷◌, ◌++◌, length, get_or, min, drop, set, refl, sym, ap, subst, arith, length-append, get_or-set_other, get_or-set_same}
use Rattle.std.specs.Prelude.{Option, Some, None, Ok, Err}
use Rattle.std.proofs.Math.ListN.{length-set}
use Rattle.std.proofs.Math.Nat.{eq-or-lt_of_le}
use Rattle.std.proofs.lemmas.Bool.{cases_lt}
use Rattle.std.proofs.lemmas.List.{get_or_append_left, get_or_past, get_or_push}
use Rattle.std.proofs.lemmas.List.Sums.{sum_by-cons, sum_by-take-drop}
use Rattle.interleavings.specs.declared.event.Event.{Event}
use Rattle.interleavings.specs.declared.traces.Place.{Place}
use Rattle.interleavings.specs.Events.{read_of}
use Rattle.interleavings.specs.TraceLists.{TraceLists, events_of}
use Rattle.linkage.specs.declared.finding.Finding.{Finding}
use Rattle.linkage.specs.declared.finding.Finding.TheVariants.{Linked, Unlinked, TooLarge, Unequal, Mismatch}
use Rattle.linkage.specs.declared.link_error.LinkError.{LinkError}
use Rattle.linkage.specs.declared.link_error.LinkError.TheVariants.{TwiceWritten, WriteGap, TwiceTurned, TurnGap, BoundTooLarge, NoEqualWrite, UpdateMismatch, NoMemory}
use Rattle.linkage.specs.declared.misfits.Misfits.{Misfits}
use Rattle.linkage.specs.Answers.{IsTold, IsWhole}
use Rattle.linkage.specs.Checking.{NoneBelow}
use Rattle.linkage.specs.GatherShows.{IsBefore, place_at}
use Rattle.linkage.specs.Links.{IsLink, links_of}
use Rattle.linkage.specs.Misfitting.{IsAmongFirst, IsEarlierOf, IsFinding, IsFirstOf, IsKept, IsProgress, IsNoted, IsLinkAt, IsRowUpTo, IsRowLinked, AreRowsBetween, AreRowsLinked, AreRowsUpTo, told_by, told_of}
use Rattle.linkage.specs.Numbers.{NotAfter}
use Rattle.linkage.specs.Refusals.{IsBoundTooLarge, IsUnequal, IsMismatch, IsRefused, rank_of}
use Rattle.linkage.specs.Rounds.{IsReached, first_events, gone_through, sum_first}
use Rattle.linkage.specs.Sources.{IsReadAt}
use Rattle.linkage.proofs.Frontier.{inside}
use Rattle.linkage.proofs.Parts.{same_read}
use Rattle.linkage.proofs.Reaching.{reached_at_start, reached_from_next, reached_last}
use Rattle.linkage.proofs.RefusalOrder.{first_of_kind, none_below_next}

-- the order of places
not_before_itself : (place : Place) → IsBefore place place → ⊥
not_before_itself place before = elim before [ inl less ↦ omega (arith, less) | inr same ↦ omega (arith, same.1) ]

before_both : (a b c : Place) → IsBefore a b → IsBefore b c → IsBefore a c
before_both a b c first second =
    elim first [
      | inl less ↦ elim second [ inl under ↦ inl (omega (arith, less, under)) | inr same ↦ inl (omega (arith, less, same.0)) ]
      | inr same ↦ elim second [ inl under ↦ inl (omega (arith, same.0, under)) | inr also ↦ inr (same.0 ∙ also.0, omega (arith, same.1, also.1)) ]
    ]

not_after : (a b : Place) → (IsBefore b a → ⊥) → NotAfter a.thread a.place b.thread b.place
not_after a b none =
    elim (cases_lt a.thread b.thread) [
      | inl less ↦ inl less
      | inr over ↦
          elim (cases_lt b.thread a.thread) [
            | inl less ↦ absurd (none (inl less))
            | inr under ↦
                let same : a.thread ≡ b.thread = omega arith in
                elim (cases_lt b.place a.place) [
                  | inl less ↦ absurd (none (inr (sym same, less)))
                  | inr up ↦ inr (same, omega (arith, up))
                ]
          ]
    ]

-- misfits of one kind
module _ (misfit : Place → Type 0) (seen seen' : Place → Type 0) where
  -- no misfit more is seen
  same_first : ((place : Place) → misfit place → seen' place → seen place) → (found : Option Place) → IsFirstOf misfit seen found → IsFirstOf misfit seen' found
  same_first back None first = λ place sees m. first place (back place m sees) m
  same_first back (Some found) first = (first.0, λ place sees before m. first.1 place (back place m sees) before m)

  module _ (at : Place) (one_more : (place : Place) → seen' place → seen place ⊎ (place ≡ at)) where
    -- one place more is seen, which is no misfit
    keep_first : (misfit at → ⊥) → (found : Option Place) → IsFirstOf misfit seen found → IsFirstOf misfit seen' found
    keep_first here = same_first back
      where
        back : (place : Place) → misfit place → seen' place → seen place
        back place m sees = elim (one_more place sees) [ inl old ↦ old | inr last ↦ absurd (here (subst misfit last m)) ]

    -- none of the seen places before this one is a misfit
    none_before : (earlier : Place) → ((place : Place) → seen place → IsBefore place earlier → misfit place → ⊥) → (IsBefore at earlier → ⊥) → (place : Place) → seen' place → IsBefore place earlier → misfit place → ⊥
    none_before earlier none here place sees before m =
        elim (one_more place sees) [
          | inl old ↦ none place old before m
          | inr last ↦ here (let P : Place → Type 0 = λ p. IsBefore p earlier in subst P last before)
        ]

    earliest : misfit at → (known : Option Place) (earlier : Place) → IsEarlierOf known at earlier → IsFirstOf misfit seen known → IsFirstOf misfit seen' (Some earlier)
    earliest here None earlier is first =
        let P : Place → Type 0 = λ p. IsFirstOf misfit seen' (Some p) in
        subst P (sym is) (here, none_before at (λ place sees before m. first place sees m) (not_before_itself at))
    earliest here (Some known) earlier is first =
        let P : Place → Type 0 = λ p. IsFirstOf misfit seen' (Some p) in
        elim is [
          | inl old ↦ subst P (sym old.0) (first.0, none_before known first.1 old.1)
          | inr new ↦ subst P (sym new.0) (here, none_before at (λ place sees before m. first.1 place sees (before_both place at known before new.1) m) (not_before_itself at))
        ]

    -- one place more is seen, which is a misfit
    find_first : misfit at → (known kept : Option Place) → IsKept known at kept → IsFirstOf misfit seen known → IsFirstOf misfit seen' kept
    find_first here known kept keeps first =
        let P : Option Place → Type 0 = λ o. IsFirstOf misfit seen' o in
        subst P (sym keeps.1) (earliest here known keeps.0 keeps.2 first)

-- misfits are at events
module _ (traces : TraceLists) where
  -- an event stands at the place
  abbrev IsThere : Place → Type 0
  IsThere place = (place.place < length (events_of traces place.thread)) × (place.thread < length traces.events)

  at_read : (place : Place) (cell value bound : ℕ) → IsReadAt traces place cell value bound → IsThere place
  at_read place cell value bound r = inside traces place read_of _ r.met

  too_large_there : (place : Place) → IsBoundTooLarge traces place → IsThere place
  too_large_there place b = at_read place b.cell b.value b.bound b.reads

  unequal_there : (place : Place) → IsUnequal traces place → IsThere place
  unequal_there place b = at_read place b.cell b.value b.bound b.reads

  mismatch_there : (place : Place) → IsMismatch traces place → IsThere place
  mismatch_there place b = inside traces place read_of _ b.updates.met

  -- no event more is seen
  same_progress : (seen seen' : Place → Type 0) → ((place : Place) → IsThere place → seen' place → seen place) → (misfits : Misfits) → IsProgress traces seen misfits → IsProgress traces seen' misfits
  same_progress seen seen' back misfits so_far = record {
    too_large = same_first (IsBoundTooLarge traces) seen seen' (λ place m. back place (too_large_there place m)) misfits.too_large so_far.too_large;
    unequal = λ none. same_first (IsUnequal traces) seen seen' (λ place m. back place (unequal_there place m)) misfits.unequal (so_far.unequal none);
    mismatch = λ none. same_first (IsMismatch traces) seen seen' (λ place m. back place (mismatch_there place m)) misfits.mismatch (so_far.mismatch none);
  }

  -- a round
  module _ (from to : ℕ) (misfits : Misfits) where
    pub round_begins : IsProgress traces (IsAmongFirst from) misfits → IsProgress traces (IsReached from to (place_at 0 0)) misfits
    round_begins = same_progress (IsAmongFirst from) (IsReached from to (place_at 0 0)) back misfits
      where
        back : (place : Place) → IsThere place → IsReached from to (place_at 0 0) place → IsAmongFirst from place
        back place there sees = elim (reached_at_start from to 0 0 (omega arith) place sees) [ inl before ↦ before | inr none ↦ absurd (omega (arith, none.1)) ]

    pub round_ends : (threads : ℕ) → threads ≡ length traces.events → IsProgress traces (IsReached from to (place_at threads 0)) misfits → IsProgress traces (IsAmongFirst to) misfits
    round_ends threads all = same_progress (IsReached from to (place_at threads 0)) (IsAmongFirst to) back misfits
      where
        back : (place : Place) → IsThere place → IsAmongFirst to place → IsReached from to (place_at threads 0) place
        back place there sees = inr (inl (sees, omega (arith, there.1, all)))

    pub part_begins : (t start : ℕ) → start ≤ from → IsProgress traces (IsReached from to (place_at t 0)) misfits → IsProgress traces (IsReached from to (place_at t start)) misfits
    part_begins t start low = same_progress (IsReached from to (place_at t 0)) (IsReached from to (place_at t start)) back misfits
      where
        back : (place : Place) → IsThere place → IsReached from to (place_at t start) place → IsReached from to (place_at t 0) place
        back place there sees = elim (reached_at_start from to t start low place sees) [ inl before ↦ inl before | inr earlier ↦ inr (inl earlier) ]

    pub part_ends : (t stop : ℕ) → first_events traces to t ≤ stop → IsProgress traces (IsReached from to (place_at t stop)) misfits → IsProgress traces (IsReached from to (place_at (t + 1) 0)) misfits
    part_ends t stop far = same_progress (IsReached from to (place_at t stop)) (IsReached from to (place_at (t + 1) 0)) back misfits
      where
        back : (place : Place) → IsThere place → IsReached from to (place_at (t + 1) 0) place → IsReached from to (place_at t stop) place
        back place there = reached_from_next from to t stop 0 (omega arith) place (λ same under. let e : length (events_of traces place.thread) ≡ length (events_of traces t) = ap (λ thread. length (events_of traces thread)) same in omega (arith, e, under, there.0, far))

  -- an event
  module _ (from to t i : ℕ) (old : Misfits) where
    abbrev seen : Place → Type 0
    seen = IsReached from to (place_at t i)

    abbrev seen' : Place → Type 0
    seen' = IsReached from to (place_at t (i + 1))

    module _ (so_far : IsProgress traces seen old) where
      kept : (IsBoundTooLarge traces (place_at t i) → ⊥) → (IsUnequal traces (place_at t i) → ⊥) → (IsMismatch traces (place_at t i) → ⊥) → IsProgress traces seen' old
      kept fit equal match = record {
        too_large = keep_first (IsBoundTooLarge traces) seen seen' (place_at t i) (reached_last from to t i) fit old.too_large so_far.too_large;
        unequal = λ none. keep_first (IsUnequal traces) seen seen' (place_at t i) (reached_last from to t i) equal old.unequal (so_far.unequal none);
        mismatch = λ none. keep_first (IsMismatch traces) seen seen' (place_at t i) (reached_last from to t i) match old.mismatch (so_far.mismatch none);
      }

      -- after an event that was found to fit, or whose misfit was kept
      pub progress_step : (finding : Finding) (new : Misfits) (link : Option ℕ) → IsFinding traces (place_at t i) finding → IsNoted old (place_at t i) finding new link → IsProgress traces seen' new
      progress_step (Linked number) new link found noted =
          let P : Misfits → Type 0 = IsProgress traces seen' in
          subst P (sym noted.0) (kept found.1 found.2 found.3)
      progress_step Unlinked new link found noted =
          let P : Misfits → Type 0 = IsProgress traces seen' in
          subst P (sym noted.0) (kept found.1 found.2 found.3)
      progress_step TooLarge new link found noted = record {
        too_large = find_first (IsBoundTooLarge traces) seen seen' (place_at t i) (reached_last from to t i) found old.too_large new.too_large noted.0 so_far.too_large;
        unequal = λ none. absurd (let e : Some noted.0.0 ≡ None = sym noted.0.1 ∙ none in cc);
        mismatch = λ none. absurd (let e : Some noted.0.0 ≡ None = sym noted.0.1 ∙ none in cc);
      }
      progress_step Unequal new link found noted =
          let P : Option Place → Type 0 = IsFirstOf (IsBoundTooLarge traces) seen' in
          let Q : Option Place → Type 0 = IsFirstOf (IsMismatch traces) seen' in
          record {
            too_large = subst P (sym noted.0) (keep_first (IsBoundTooLarge traces) seen seen' (place_at t i) (reached_last from to t i) found.1 old.too_large so_far.too_large);
            unequal = λ none. find_first (IsUnequal traces) seen seen' (place_at t i) (reached_last from to t i) found.0 old.unequal new.unequal noted.1 (so_far.unequal (sym noted.0 ∙ none));
            mismatch = λ none. subst Q (sym noted.2) (keep_first (IsMismatch traces) seen seen' (place_at t i) (reached_last from to t i) found.2 old.mismatch (so_far.mismatch (sym noted.0 ∙ none)));
          }
      progress_step Mismatch new link found noted =
          let P : Option Place → Type 0 = IsFirstOf (IsBoundTooLarge traces) seen' in
          let Q : Option Place → Type 0 = IsFirstOf (IsUnequal traces) seen' in
          record {
            too_large = subst P (sym noted.0) (keep_first (IsBoundTooLarge traces) seen seen' (place_at t i) (reached_last from to t i) found.1 old.too_large so_far.too_large);
            unequal = λ none. subst Q (sym noted.1) (keep_first (IsUnequal traces) seen seen' (place_at t i) (reached_last from to t i) found.2 old.unequal (so_far.unequal (sym noted.0 ∙ none)));
            mismatch = λ none. find_first (IsMismatch traces) seen seen' (place_at t i) (reached_last from to t i) found.0 old.mismatch new.mismatch noted.2 (so_far.mismatch (sym noted.0 ∙ none));
          }

  module _ (t i : ℕ) (old : Misfits) where
    -- the link of the event
    pub link_here : (finding : Finding) (new : Misfits) (link : Option ℕ) → IsFinding traces (place_at t i) finding → IsNoted old (place_at t i) finding new link → IsLinkAt traces (place_at t i) link
    link_here (Linked number) new link found noted = record {
      read = λ cell value bound r.
          let l = found.0 in
          let e : (cell ≡ l.cell) × (value ≡ l.value) = same_read (record { cell = cell; value = value }) (record { cell = l.cell; value = l.value }) (sym r.met ∙ l.reads.met) in
          let f : Some bound ≡ Some l.bound = sym r.within ∙ l.reads.within in
          let b : bound ≡ l.bound = cc in
          let P : ℕ × ℕ × ℕ → Type 0 = λ p. IsLink traces p.0 p.1 p.2 number in
          let three : (l.cell, l.value, l.bound) ≡ (cell, value, bound) = cc (e.0, e.1, b) in
          inr (inr (number, noted.1, subst P three l.link));
      unread = λ none. absurd (let e : Some found.0.bound ≡ None = sym found.0.reads.within ∙ none in cc);
    }
    link_here Unlinked new link found noted = record {
      read = λ cell value bound r. absurd (let e : Some bound ≡ None = sym r.within ∙ found.0 in cc);
      unread = λ none. noted.1;
    }
    link_here TooLarge new link found noted = record {
      read = λ cell value bound r. inl found;
      unread = λ none. noted.3;
    }
    link_here Unequal new link found noted = record {
      read = λ cell value bound r. inr (inl found.0);
      unread = λ none. noted.3;
    }
    link_here Mismatch new link found noted = record {
      read = λ cell value bound r. absurd (let e : Some bound ≡ None = sym r.within ∙ found.3 in cc);
      unread = λ none. noted.3;
    }

-- rows of links
pub row_start : (traces : TraceLists) (t : ℕ) → IsRowUpTo traces t 0 []
row_start traces t = record { count = refl; each = λ i below. absurd (omega arith) }

pub row_step : (traces : TraceLists) (t i : ℕ) (row : List (Option ℕ)) (link : Option ℕ) → IsRowUpTo traces t i row → IsLinkAt traces (place_at t i) link → IsRowUpTo traces t (i + 1) (row ++ link ∷ [])
row_step traces t i row link so_far here = record {
  count = length-append row (link ∷ []) ∙ omega (arith, so_far.count);
  each = λ j below.
      elim (eq-or-lt_of_le {n = j} {m = i} (omega arith)) [
        | inl same ↦ (
            let P : ℕ → Type 0 = λ k. IsLinkAt traces (place_at t k) (get_or (row ++ link ∷ []) k None) in
            let Q : Option ℕ → Type 0 = λ l. IsLinkAt traces (place_at t i) l in
            subst P (sym same) (subst Q (sym (get_or_push row link None i so_far.count)) here))
        | inr less ↦ (
            let Q : Option ℕ → Type 0 = λ l. IsLinkAt traces (place_at t j) l in
            subst Q (sym (get_or_append_left row (link ∷ []) None j (omega (arith, less, so_far.count)))) (so_far.each j less))
      ];
}

pub rows_start : (traces : TraceLists) → AreRowsLinked traces 0 []
rows_start traces = record { count = refl; each = λ t below. absurd (omega arith) }

pub rows_step : (traces : TraceLists) (t : ℕ) (rows : List (List (Option ℕ))) (row : List (Option ℕ)) → AreRowsLinked traces t rows → IsRowLinked traces t row → AreRowsLinked traces (t + 1) (rows ++ row ∷ [])
rows_step traces t rows row so_far here = record {
  count = length-append rows (row ∷ []) ∙ omega (arith, so_far.count);
  each = λ s below.
      elim (eq-or-lt_of_le {n = s} {m = t} (omega arith)) [
        | inl same ↦ (
            let P : ℕ → Type 0 = λ k. IsRowLinked traces k (get_or (rows ++ row ∷ []) k []) in
            let Q : List (Option ℕ) → Type 0 = λ l. IsRowLinked traces t l in
            subst P (sym same) (subst Q (sym (get_or_push rows row [] t so_far.count)) here))
        | inr less ↦ (
            let Q : List (Option ℕ) → Type 0 = λ l. IsRowLinked traces s l in
            subst Q (sym (get_or_append_left rows (row ∷ []) [] s (omega (arith, less, so_far.count)))) (so_far.each s less))
      ];
}

-- the rows of all threads, in rounds
module _ (traces : TraceLists) where
  pub row_up_to : (t high high' : ℕ) (row : List (Option ℕ)) → high ≡ high' → IsRowUpTo traces t high row → IsRowUpTo traces t high' row
  row_up_to t high high' row is so_far = let P : ℕ → Type 0 = λ n. IsRowUpTo traces t n row in subst P is so_far

  module _ (from to : ℕ) where
    pub rows_begin : (rows : List (List (Option ℕ))) → AreRowsUpTo traces from rows → AreRowsBetween traces from to 0 rows
    rows_begin rows so_far = record { threads = so_far.threads; done = λ t below. absurd (omega arith); ahead = λ t over there. so_far.each t there }

    pub rows_on : (t : ℕ) (rows : List (List (Option ℕ))) (row : List (Option ℕ)) → t < length traces.events → AreRowsBetween traces from to t rows → IsRowUpTo traces t (first_events traces to t) row → AreRowsBetween traces from to (t + 1) (set rows t row)
    rows_on t rows row there so_far here =
        let within : t < length rows = omega (arith, so_far.threads) in
        let P : (s : ℕ) → List (Option ℕ) → Type 0 = λ s. IsRowUpTo traces s (first_events traces to s) in
        let same : get_or (set rows t row) t [] ≡ row = get_or-set_same rows t row [] within in
        record {
          threads = length-set rows t row ∙ so_far.threads;
          done = λ s below.
              elim (eq-or-lt_of_le {n = s} {m = t} (omega (arith, below))) [
                | inl is ↦ (let Q : ℕ → Type 0 = λ k. P k (get_or (set rows t row) k []) in subst Q (sym is) (subst (P t) (sym same) here))
                | inr less ↦ (let ne : (s ≡ t) → ⊥ = λ e. omega (arith, e, less) in subst (P s) (sym (get_or-set_other rows t s row [] ne)) (so_far.done s less))
              ];
          ahead = λ s over inside_all.
              let ne : (s ≡ t) → ⊥ = λ e. omega (arith, e, over) in
              let Q : List (Option ℕ) → Type 0 = IsRowUpTo traces s (first_events traces from s) in
              subst Q (sym (get_or-set_other rows t s row [] ne)) (so_far.ahead s (omega (arith, over)) inside_all);
        }

  pub rows_all : (count : ℕ) (rows : List (List (Option ℕ))) → ((t : ℕ) → length (events_of traces t) ≤ count) → AreRowsUpTo traces count rows → AreRowsLinked traces (length traces.events) rows
  rows_all count rows most so_far = record {
    count = so_far.threads;
    each = λ t there. row_up_to t (first_events traces count t) (length (events_of traces t)) (get_or rows t []) (omega (arith, most t)) (so_far.each t there);
  }

-- looks in a round
sum_first_grows : (from to : ℕ) → from ≤ to → (rows : List (List Event)) → sum_first from rows ≤ sum_first to rows
sum_first_grows from to on [] = omega arith
sum_first_grows from to on (row ∷ rows) = omega (arith, on, sum_by-cons (λ (events : List Event). min from (length events)) row rows, sum_by-cons (λ (events : List Event). min to (length events)) row rows, sum_first_grows from to on rows)

pub gone_in_round : (traces : TraceLists) (from to t : ℕ) → from ≤ to → gone_through traces from to t ≤ sum_first to traces.events
gone_in_round traces from to t on = omega (arith, sum_first_grows from to on (drop t traces.events), sum_by-take-drop (λ (events : List Event). min to (length events)) traces.events t)

-- the end
module _ (traces : TraceLists) (seen : Place → Type 0) (all : (place : Place) → IsThere traces place → seen place) (below : NoneBelow traces 5) where
  none_below_six : IsFirstOf (IsBoundTooLarge traces) seen None → NoneBelow traces 6
  none_below_six none = none_below_next traces 5 below absent
    where
      absent : (other : LinkError) → IsRefused traces other → (rank_of other).0 ≡ 5 → ⊥
      absent (BoundTooLarge place) refused same = none place (all place (too_large_there traces place refused)) refused
      absent other refused same = absurd (omega arith)

  none_below_seven : IsFirstOf (IsBoundTooLarge traces) seen None → IsFirstOf (IsUnequal traces) seen None → NoneBelow traces 7
  none_below_seven none second = none_below_next traces 6 (none_below_six none) absent
    where
      absent : (other : LinkError) → IsRefused traces other → (rank_of other).0 ≡ 6 → ⊥
      absent (NoEqualWrite place) refused same = second place (all place (unequal_there traces place refused)) refused
      absent other refused same = absurd (omega arith)

  none_refused : NoneBelow traces 7 → IsFirstOf (IsMismatch traces) seen None → (refusal : LinkError) → IsRefused traces refusal → ⊥
  none_refused seven third (UpdateMismatch place) refused = third place (all place (mismatch_there traces place refused)) refused
  none_refused seven third NoMemory refused = refused
  none_refused seven third (TwiceWritten cell number) refused = absurd (let e = seven (TwiceWritten cell number) refused in omega arith)
  none_refused seven third (WriteGap cell number) refused = absurd (let e = seven (WriteGap cell number) refused in omega arith)
  none_refused seven third (TwiceTurned monitor turn) refused = absurd (let e = seven (TwiceTurned monitor turn) refused in omega arith)
  none_refused seven third (TurnGap monitor turn) refused = absurd (let e = seven (TurnGap monitor turn) refused in omega arith)
  none_refused seven third (BoundTooLarge place) refused = absurd (let e = seven (BoundTooLarge place) refused in omega arith)
  none_refused seven third (NoEqualWrite place) refused = absurd (let e = seven (NoEqualWrite place) refused in omega arith)

  -- a first misfit of one kind, where no earlier kind is refused, is the first refusal
  first_too_large : (at : Place) → IsFirstOf (IsBoundTooLarge traces) seen (Some at) → IsTold traces (BoundTooLarge at)
  first_too_large at first = first_of_kind traces (BoundTooLarge at) first.0 below least
    where
      least : (other : LinkError) → IsRefused traces other → (rank_of other).0 ≡ 5 → NotAfter at.thread at.place (rank_of other).1 (rank_of other).2
      least (BoundTooLarge place) refused same = not_after at place (λ before. first.1 place (all place (too_large_there traces place refused)) before refused)
      least other refused same = absurd (omega arith)

  first_unequal : (at : Place) → NoneBelow traces 6 → IsFirstOf (IsUnequal traces) seen (Some at) → IsTold traces (NoEqualWrite at)
  first_unequal at six first = first_of_kind traces (NoEqualWrite at) first.0 six least
    where
      least : (other : LinkError) → IsRefused traces other → (rank_of other).0 ≡ 6 → NotAfter at.thread at.place (rank_of other).1 (rank_of other).2
      least (NoEqualWrite place) refused same = not_after at place (λ before. first.1 place (all place (unequal_there traces place refused)) before refused)
      least other refused same = absurd (omega arith)

  first_mismatch : (at : Place) → NoneBelow traces 7 → IsFirstOf (IsMismatch traces) seen (Some at) → IsTold traces (UpdateMismatch at)
  first_mismatch at seven first = first_of_kind traces (UpdateMismatch at) first.0 seven least
    where
      least : (other : LinkError) → IsRefused traces other → (rank_of other).0 ≡ 7 → NotAfter at.thread at.place (rank_of other).1 (rank_of other).2
      least (UpdateMismatch place) refused same = not_after at place (λ before. first.1 place (all place (mismatch_there traces place refused)) before refused)
      least other refused same = absurd (omega arith)

  -- what is told of kept misfits is the first refusal
  told_first : (too_large unequal mismatch : Option Place) → IsFirstOf (IsBoundTooLarge traces) seen too_large → (too_large ≡ None → IsFirstOf (IsUnequal traces) seen unequal) → (too_large ≡ None → IsFirstOf (IsMismatch traces) seen mismatch) → (refusal : LinkError) → Err refusal ≡ told_by too_large unequal mismatch → IsTold traces refusal
  told_first (Some at) unequal mismatch first second third refusal is =
      let e : BoundTooLarge at ≡ refusal = cc in
      subst (IsTold traces) e (first_too_large at first)
  told_first None (Some at) mismatch first second third refusal is =
      let e : NoEqualWrite at ≡ refusal = cc in
      subst (IsTold traces) e (first_unequal at (none_below_six first) (second refl))
  told_first None None (Some at) first second third refusal is =
      let e : UpdateMismatch at ≡ refusal = cc in
      subst (IsTold traces) e (first_mismatch at (none_below_seven first (second refl)) (third refl))
  told_first None None None first second third refusal is = absurd (cc)

  -- where nothing is told, the links are there and nothing is refused
  whole_first : (rows : List (List (Option ℕ))) (too_large unequal mismatch : Option Place) → AreRowsLinked traces (length traces.events) rows → IsFirstOf (IsBoundTooLarge traces) seen too_large → (too_large ≡ None → IsFirstOf (IsUnequal traces) seen unequal) → (too_large ≡ None → IsFirstOf (IsMismatch traces) seen mismatch) → Ok tt ≡ told_by too_large unequal mismatch → IsWhole traces rows
  whole_first rows (Some found) unequal mismatch linked first second third is = absurd (cc)
  whole_first rows None (Some found) mismatch linked first second third is = absurd (cc)
  whole_first rows None None (Some found) linked first second third is = absurd (cc)
  whole_first rows None None None linked first second third is = record {
    linked = record {
      threads = linked.count;
      counts = counts;
      reads = λ place cell value bound r.
          let there = at_read traces place cell value bound r in
          let row = linked.each place.thread there.1 in
          elim ((row.each place.place there.0).read cell value bound r) [
            | inl large ↦ absurd (first place (all place there) large)
            | inr other ↦
                elim other [
                  | inl none ↦ absurd (second refl place (all place there) none)
                  | inr link ↦ link
                ]
          ];
      others = λ place none.
          elim (cases_lt place.thread (length traces.events)) [
            | inl less ↦
                elim (cases_lt place.place (length (events_of traces place.thread))) [
                  | inl under ↦ ((linked.each place.thread less).each place.place under).unread none
                  | inr past ↦ get_or_past (links_of rows place.thread) place.place None (omega (arith, past, counts place.thread))
                ]
            | inr past ↦ (
                let e : links_of rows place.thread ≡ [] = get_or_past rows place.thread [] (omega (arith, past, linked.count)) in
                ap (λ row. get_or row place.place None) e)
          ];
    };
    unrefused = none_refused (none_below_seven first (second refl)) (third refl);
  }
    where
      counts : (t : ℕ) → length (links_of rows t) ≡ length (events_of traces t)
      counts t =
          elim (cases_lt t (length traces.events)) [
            | inl less ↦ (linked.each t less).count
            | inr past ↦ ap length (get_or_past rows t [] (omega (arith, past, linked.count))) ∙ sym (ap length (get_or_past traces.events t [] past))
          ]

  module _ (misfits : Misfits) (so_far : IsProgress traces seen misfits) where
    pub told_end : (refusal : LinkError) → Err refusal ≡ told_of misfits → IsTold traces refusal
    told_end = told_first misfits.too_large misfits.unequal misfits.mismatch so_far.too_large so_far.unequal so_far.mismatch

    pub whole_end : (rows : List (List (Option ℕ))) → AreRowsLinked traces (length traces.events) rows → Ok tt ≡ told_of misfits → IsWhole traces rows
    whole_end rows linked = whole_first rows misfits.too_large misfits.unequal misfits.mismatch linked so_far.too_large so_far.unequal so_far.mismatch
