-- What a well-formed table says of timers, and what is known of a machine in its range.
use mathlib.Core.Path.{◌≡◌, sym, ◌∙◌}
use mathlib.Core.Bool.{true}
use Prim.Native.Nat.{ℕ, ◌<◌, ◌≤◌, max}
use native.Mathlib.Omega.{arith}
use Rattle.table.specs.declared.Table.{Table}
use Rattle.table.specs.Table.{longest_hold, length_of, region_of, member, WellFormed}
use Rattle.machine.specs.declared.Machine.{Machine}
use Rattle.machine.specs.Verdict.{left_of, largest_over}
use Rattle.machine.specs.Machine.{timer_watch, state_watch, left}
use Rattle.machine.proofs.Watches.{timers_fit, left_by_state, left_by_timers, no_regions, no_holds}

two_and_two : (a b c d : ℕ) → max (max a b) (max c d) ≡ max a (max b (max c (max d 0)))
two_and_two a b c d =
    let last : max d 0 ≡ d = omega arith in
    let three : (x : ℕ) → max (max a b) x ≡ max a (max b x) = λ x. omega arith in
    rw last (three (max c d))

module _ (t : Table) (good : WellFormed t) where
  pub timer_runs : (k q : ℕ) → member (region_of t k) q ≡ true → 0 < length_of t k
  timer_runs k q = (timers_fit good).running k q

  pub timer_short : (k : ℕ) → length_of t k ≤ longest_hold
  timer_short k = (timers_fit good).short k

  module _ (m : Machine) (time : ℕ) where
    pub left_of_hold : t.timers ≡ 0 → (x : ℕ) → x ≡ left_of m.polled time (state_watch t m) → x ≡ left t m time
    left_of_hold none x is = is ∙ sym (left_by_state t m time (no_regions good none))

    abbrev LeftOf : ℕ → ℕ → Type 0
    LeftOf k x = x ≡ left_of m.polled time (timer_watch t m k)

    pub left_of_four : (t.timers ≡ 0 → ⊥) → (a b c d : ℕ) → LeftOf 0 a → LeftOf 1 b → LeftOf 2 c → LeftOf 3 d → max (max a b) (max c d) ≡ left t m time
    unfolding largest_over
    left_of_four some a b c d first second third fourth =
        rw (left_by_timers t m time (no_holds good some), ← first, ← second, ← third, ← fourth) (two_and_two a b c d)
