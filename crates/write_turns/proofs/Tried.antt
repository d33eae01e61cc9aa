-- What failed tries to claim leave as it was, and what a claim changes.
use Rattle.std.proofs.Common.{◌≡◌, ◌≢◌, ℕ, ◌*◌, ◌/◌, ◌%◌, ◌∙◌, true, false, List, [], ◌∷◌, ◌++◌, refl, sym, ap, arith}
use Rattle.std.proofs.lemmas.Bool.{eq-eqb, ne_eqb}
use Rattle.interleavings.specs.declared.activity.Activity.{Activity}
use Rattle.interleavings.specs.declared.activity.Phase.{Phase}
use Rattle.interleavings.specs.declared.activity.Phase.TheVariants.{Idle, Numbered, Marked}
use Rattle.interleavings.specs.declared.kind.Kind.TheVariants as by
use Rattle.interleavings.specs.AtomicStep.{is_even, phase_if, activity_after}
use Rattle.shared_rule.specs.declared.view.View.{View}
use Rattle.shared_rule.specs.Passes.{IsSameBeside}
use Rattle.shared_rule.specs.Plays.{Makes}
use Rattle.shared_rule.specs.Views.{view_after}
use Rattle.write_turns.specs.Claiming.{Try, Odd, Lost, AreTries, after_try, after_tries, Takes, HasClaimed}

-- the activity in another phase
abbrev in_phase : Activity → Phase → Activity
in_phase a phase = record { name = a.name; phase = phase; events = a.events; held = a.held; looks = a.looks }

-- so far a pass has only tried
pub record HasTried (cell : ℕ) (before now : View) : Type 0 where
  pub tries : List Try
  pub failed : AreTries tries
  pub view : now ≡ after_tries cell before tries
  pub activity : now.activity ≡ before.activity
  pub seen : now.seen ≡ before.seen
  pub same : IsSameBeside before now

pub tried_first : (cell : ℕ) (v : View) → HasTried cell v v
tried_first cell v = record {
  tries = [];
  failed = tt;
  view = refl;
  activity = refl;
  seen = refl;
  same = record { live = refl; gathered = refl; starts = refl; draws = refl };
}

twice_even : (n : ℕ) → is_even (2 * n) ≡ true
twice_even n = eq-eqb (2 * n % 2) 0 (omega arith)

-- a look at an odd number, and at an even one
saw_odd : (cell met : ℕ) (a : Activity) → a.phase ≡ Idle → is_even met ≡ false → activity_after by.SeeNumber cell 0 a met ≡ a
saw_odd cell met a idle odd = ap (λ b. in_phase a (phase_if b (Numbered cell (met / 2)) Idle)) odd ∙ ap (in_phase a) (sym idle)

saw_even : (cell n : ℕ) (a : Activity) → activity_after by.SeeNumber cell 0 a (2 * n) ≡ in_phase a (Numbered cell n)
saw_even cell n a =
    let half : 2 * n / 2 ≡ n = omega arith in
    ap (λ b. in_phase a (phase_if b (Numbered cell (2 * n / 2)) Idle)) (twice_even n) ∙ ap (λ m. in_phase a (Numbered cell m)) half

-- a claim of another word than the one that is there, and of that one
lost : (cell n other : ℕ) (a : Activity) → other ≢ 2 * n → activity_after by.Claim cell 0 (in_phase a (Numbered cell n)) other ≡ in_phase a Idle
lost cell n other a differs = ap (λ b. in_phase a (phase_if b (Marked cell n) Idle)) (ne_eqb other (2 * n) differs)

won : (cell n : ℕ) (a : Activity) → activity_after by.Claim cell 0 (in_phase a (Numbered cell n)) (2 * n) ≡ in_phase a (Marked cell n)
won cell n a = ap (λ b. in_phase a (phase_if b (Marked cell n) Idle)) (eq-eqb (2 * n) (2 * n) refl)

-- a try more
pub tried_odd : (cell met : ℕ) (before now next : View) → before.activity.phase ≡ Idle → HasTried cell before now → Makes by.SeeNumber cell 0 now met next → is_even met ≡ false → HasTried cell before next
tried_odd cell met before now next idle tried makes odd = record {
  tries = Odd met ∷ tried.tries;
  failed = (odd, tried.failed);
  view = makes.view ∙ ap (λ v. view_after by.SeeNumber cell 0 v met) tried.view;
  activity = ap (λ (v : View). v.activity) makes.view
      ∙ saw_odd cell met now.activity (ap (λ (a : Activity). a.phase) tried.activity ∙ idle) odd
      ∙ tried.activity;
  seen = ap (λ (v : View). v.seen) makes.view ∙ tried.seen;
  same = record {
    live = ap (λ (v : View). v.live) makes.view ∙ tried.same.live;
    gathered = ap (λ (v : View). v.gathered) makes.view ∙ tried.same.gathered;
    starts = ap (λ (v : View). v.starts) makes.view ∙ tried.same.starts;
    draws = ap (λ (v : View). v.draws) makes.view ∙ tried.same.draws;
  };
}

module _ (cell met n other : ℕ) (before now saw next : View) (idle : before.activity.phase ≡ Idle) (tried : HasTried cell before now) (sees : Makes by.SeeNumber cell 0 now met saw) (seen_is : met ≡ 2 * n) (claims : Makes by.Claim cell 0 saw other next) where
  path : next ≡ view_after by.Claim cell 0 (view_after by.SeeNumber cell 0 (after_tries cell before tried.tries) (2 * n)) other
  path = claims.view
      ∙ ap (λ v. view_after by.Claim cell 0 v other) (sees.view ∙ ap (λ m. view_after by.SeeNumber cell 0 now m) seen_is ∙ ap (λ v. view_after by.SeeNumber cell 0 v (2 * n)) tried.view)

  shown : next.activity ≡ activity_after by.Claim cell 0 (in_phase before.activity (Numbered cell n)) other
  shown = ap (λ (v : View). v.activity) claims.view
      ∙ ap (λ (a : Activity). activity_after by.Claim cell 0 a other)
      (ap (λ (v : View). v.activity) sees.view
      ∙ ap (λ m. activity_after by.SeeNumber cell 0 now.activity m) seen_is
      ∙ ap (λ (a : Activity). activity_after by.SeeNumber cell 0 a (2 * n)) tried.activity
      ∙ saw_even cell n before.activity)

  beside : IsSameBeside before next
  beside = record {
    live = ap (λ (v : View). v.live) claims.view ∙ ap (λ (v : View). v.live) sees.view ∙ tried.same.live;
    gathered = ap (λ (v : View). v.gathered) claims.view ∙ ap (λ (v : View). v.gathered) sees.view ∙ tried.same.gathered;
    starts = ap (λ (v : View). v.starts) claims.view ∙ ap (λ (v : View). v.starts) sees.view ∙ tried.same.starts;
    draws = ap (λ (v : View). v.draws) claims.view ∙ ap (λ (v : View). v.draws) sees.view ∙ tried.same.draws;
  }

  seen_still : next.seen ≡ before.seen
  seen_still = ap (λ (v : View). v.seen) claims.view ∙ ap (λ (v : View). v.seen) sees.view ∙ tried.seen

  pub tried_lost : other ≢ 2 * n → HasTried cell before next
  tried_lost differs = record {
    tries = Lost n other ∷ tried.tries;
    failed = (differs, tried.failed);
    view = path;
    activity = shown ∙ lost cell n other before.activity differs ∙ ap (in_phase before.activity) (sym idle);
    seen = seen_still;
    same = beside;
  }

  pub takes : other ≡ 2 * n → Takes cell before n next
  takes same = record {
    tries = tried.tries;
    failed = tried.failed;
    view = path ∙ ap (λ m. view_after by.Claim cell 0 (view_after by.SeeNumber cell 0 (after_tries cell before tried.tries) (2 * n)) m) same;
  }

  pub claimed : other ≡ 2 * n → HasClaimed cell n before next
  claimed same = record {
    activity = shown ∙ ap (λ m. activity_after by.Claim cell 0 (in_phase before.activity (Numbered cell n)) m) same ∙ won cell n before.activity;
    seen = seen_still;
    same = beside;
  }

-- tries before others
tries_joined : (cell : ℕ) (v : View) (late early : List Try) → after_tries cell v (late ++ early) ≡ after_tries cell (after_tries cell v early) late
tries_joined cell v [] early = refl
tries_joined cell v (t ∷ late) early = ap (λ w. after_try cell w t) (tries_joined cell v late early)

failed_both : (late early : List Try) → AreTries late → AreTries early → AreTries (late ++ early)
failed_both [] early none failed = failed
failed_both (t ∷ late) early failed_late failed = (failed_late.0, failed_both late early failed_late.1 failed)

-- a claim after tries
pub takes_later : (cell n : ℕ) (before now next : View) → HasTried cell before now → Takes cell now n next → Takes cell before n next
takes_later cell n before now next tried taken = record {
  tries = taken.tries ++ tried.tries;
  failed = failed_both taken.tries tried.tries taken.failed tried.failed;
  view = taken.view
      ∙ ap (λ v. view_after by.Claim cell 0 (view_after by.SeeNumber cell 0 v (2 * n)) (2 * n))
      (ap (λ v. after_tries cell v taken.tries) tried.view ∙ sym (tries_joined cell before taken.tries tried.tries));
}
