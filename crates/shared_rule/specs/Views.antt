-- What a pass knows, and how it changes: by its own steps, by being split and by taking another in.
use Rattle.std.specs.Prelude.{ℕ, ◌+◌, ◌-◌, ◌/◌, true, false, List, [], ◌∷◌, ◌++◌, Option, Some, None}
use Rattle.interleavings.specs.declared.activity.Activity.{Activity}
use Rattle.interleavings.specs.declared.kind.Kind.{Kind}
use Rattle.interleavings.specs.declared.kind.Kind.TheVariants as by
use Rattle.interleavings.specs.AtomicStep.{activity_after, tally_after, seen_after}
use Rattle.interleavings.specs.History.{newcomer}
use Rattle.shared_rule.specs.declared.limits.TheConstants.{DRAW_LIMIT}
use Rattle.shared_rule.specs.declared.view.View.{View}

-- the view of the first pass
abbrev pub first_view : List ℕ → View
first_view starts = record {
  live = true;
  activity = newcomer.activity;
  tally = newcomer.tally;
  seen = [];
  gathered = [];
  starts = starts;
  draws = DRAW_LIMIT;
}

-- what is left of a pass that was taken in by another
abbrev pub spent_view : View
spent_view = record {
  live = false;
  activity = newcomer.activity;
  tally = newcomer.tally;
  seen = [];
  gathered = [];
  starts = [];
  draws = 0;
}

-- the draws that a pass still has after a step; a draw uses one up
abbrev pub draws_after : Kind → ℕ → ℕ
draws_after by.ValueLoad draws = draws
draws_after by.NumberLoad draws = draws
draws_after by.SeeNumber draws = draws
draws_after by.Claim draws = draws
draws_after by.Fetch draws = draws
draws_after by.Put draws = draws
draws_after by.Complete draws = draws
draws_after by.Look draws = draws
draws_after by.Enter draws = draws
draws_after by.Leave draws = draws
draws_after by.Draw draws = draws - 1

-- the view after a step of this kind at this cell or monitor, which stores this value where it stores one, and met this word
abbrev pub view_after : Kind → ℕ → ℕ → View → ℕ → View
view_after kind at value v met = record {
  live = v.live;
  activity = activity_after kind at value v.activity met;
  tally = tally_after kind at v.tally met;
  seen = seen_after kind at v.activity.phase v.seen met;
  gathered = v.gathered;
  starts = v.starts;
  draws = draws_after kind v.draws;
}

-- a pass from which another was split off: it keeps the draws that the other doesn't get
abbrev pub halved : View → View
halved v = record {
  live = v.live;
  activity = v.activity;
  tally = v.tally;
  seen = v.seen;
  gathered = v.gathered;
  starts = v.starts;
  draws = v.draws - v.draws / 2;
}

-- the pass that is split off: it has seen what the other has seen, has half of its draws, rounded down, and has done nothing
abbrev pub split_off : View → View
split_off v = record {
  live = v.live;
  activity = newcomer.activity;
  tally = newcomer.tally;
  seen = v.seen;
  gathered = [];
  starts = v.starts;
  draws = v.draws / 2;
}

-- what a pass brings by its own name, if it has one
abbrev pub brought : Option ℕ → Activity → List Activity
brought None activity = []
brought (Some name) activity = activity ∷ []

-- a pass that takes another in: it has seen what either has seen, and gathered what both have, and the other itself if that
-- has a name
abbrev pub taken_in : View → View → View
taken_in v w = record {
  live = v.live;
  activity = v.activity;
  tally = v.tally;
  seen = w.seen ++ v.seen;
  gathered = (v.gathered ++ brought w.activity.name w.activity) ++ w.gathered;
  starts = v.starts;
  draws = v.draws + w.draws;
}
