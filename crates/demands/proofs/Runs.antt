-- Demand 3 for every run, as specs/Runs states it.
use mathlib.Core.Path.{◌≡◌, sym}
use mathlib.Core.Bool.{true, false}
use mathlib.Core.Logic.{◌⊎◌, inl, inr}
use Prim.Native.Nat.{ℕ, ◌+◌, ◌≤◌}
use native.Mathlib.Omega.{arith}
use Rattle.wire.proofs.Choice.{and_both}
use Rattle.sets.specs.Sets.{member}
use Rattle.table.specs.declared.Table.{Table}
use Rattle.table.specs.Table.{WellFormed}
use Rattle.machine.proofs.Watches.{no_regions}
use Rattle.reaction.specs.Answer.{Reacts}
use Rattle.reaction.specs.Reaction.{next_set, weight}
use Rattle.reaction.specs.Meaning.{Slowest, Reaction}
use Rattle.reaction.proofs.Meaning.{AllExist, target_has, target_only, same_target, means}
use Rattle.tight.specs.Tight.{tight_time}
use Rattle.tight.specs.Several.{tight_weight}
use Rattle.tight.proofs.Time.{tight_covers, tight_at_least}
use Rattle.tight.proofs.Several.{need_by_weight}
use Rattle.runs.specs.Accepted.{Accepted}
use Rattle.runs.specs.Reaction.{Weights}
use Rattle.runs.proofs.Automaton.{machine_is_automaton}
use Rattle.runs.proofs.Soon.{not_too_soon, not_too_soon_by}
use Rattle.runs.proofs.OneMove.{one_move}
use Rattle.laws.proofs.InTime.{calculated_weights, tight_weights, moves_in_time, tight_in_time}
use Rattle.demands.specs.Runs.{InTime, EveryRun, RunsNotTooSoon, RunsNotTooSoonBy, Calculated, RunsNotTooLate, RunsNotTooLateByMoves, RunsNotTooLateTight, RunsNotTooLateTightByMoves}

-- The machine takes every run.
taken : (t : Table) → WellFormed t → EveryRun t (Accepted t)
taken t ok input records T run = (machine_is_automaton t ok input records T).1 run

-- ---- Not too soon

pub runs_not_too_soon : RunsNotTooSoon
runs_not_too_soon t ok input records T run = not_too_soon t input records T (taken t ok input records T run)

pub runs_not_too_soon_by : RunsNotTooSoonBy
runs_not_too_soon_by t ok k real input records T run = not_too_soon_by t ok k real input records T (taken t ok input records T run)

-- ---- Not too late

covers_bound : {t : Table} {P A target time : ℕ} → (time ≡ t.bound) ⊎ Slowest t P A target time → t.bound ≤ time
covers_bound (inl e) = omega arith
covers_bound (inr slowest) = omega (arith, slowest.is)

module _ {t : Table} {P A c target : ℕ} (given : Calculated t P A c target) where
  ok : WellFormed t
  ok = given.well_formed

  r : Reaction t P A c target
  r = means t ok P A (Reacts c target) (sym given.answer)

  all : AllExist t P A
  all = record { table = ok; states = r.states; inputs = r.inputs }

  target_is : target ≡ next_set t P A
  target_is = same_target r.next (record { inside = r.next.inside; has = target_has all; only = target_only all })

  -- A time that covers E and weights that are large enough.
  in_time : (w : ℕ → ℕ) → Weights t (member A) w → (d : ℕ) → t.bound ≤ d →
      ((p : ℕ) → member P p ≡ true → member target p ≡ false → t.bound + w p ≤ d + 1) →
      EveryRun t (λ input records T. InTime t input records T P A d target)
  in_time w large d over_bound covers input records T run = one_move (record {
    no_regions = no_regions ok given.no_timers;
    bound_positive = ok.bound.0;
    weights = large;
    has = λ p a x y. r.next.has p a (x, y);
    inside = λ q n. let comes = r.next.only q n in rw comes.is at (r.next.inside comes.state comes.input comes.pair);
    covers_bound = over_bound;
    covers = covers;
  }) input records T (taken t ok input records T run)

  one : EveryRun t (λ input records T. InTime t input records T P A c target)
  one =
      in_time (weight t A) (calculated_weights t A ok.bound.0 r.inputs) c (covers_bound r.reached)
      (λ p x y. omega (arith, r.covers p x y))

  -- A state needs E - 1 and its tight weight.
  tight : EveryRun t (λ input records T. InTime t input records T P A (tight_time t P A) target)
  tight =
      in_time (tight_weight t A) (tight_weights t A ok.bound.0 r.inputs) (tight_time t P A) (tight_at_least t P A ok.bound.0)
      (λ p x y.
      let needs = tight_covers t P A ok.bound.0 p (r.states p x) (and_both (member P p) _ x (rw (← target_is, y))) in
      omega (arith, need_by_weight t A p ok.bound.0))

pub runs_not_too_late : RunsNotTooLate
runs_not_too_late t P A c target given = one given

pub runs_not_too_late_by_moves : RunsNotTooLateByMoves
runs_not_too_late_by_moves t P A c target given n input records T run =
    moves_in_time (all given) (r given).next.inside n given.no_timers input records T (taken t given.well_formed input records T run)

pub runs_not_too_late_tight : RunsNotTooLateTight
runs_not_too_late_tight t P A c target given = tight given

pub runs_not_too_late_tight_by_moves : RunsNotTooLateTightByMoves
runs_not_too_late_tight_by_moves t P A c target given n input records T run =
    tight_in_time (all given) (r given).next.inside n given.no_timers input records T (taken t given.well_formed input records T run)
