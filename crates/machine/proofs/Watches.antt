-- What a test looks at, watch by watch; and which watches count in a table with timers, and in one without.
use mathlib.Core.Path.{◌≡◌, refl, sym, ap, ◌∙◌}
use mathlib.Core.Logic.{◌⊎◌, inl, inr, ⊎_elim, ◌↔◌}
use mathlib.Core.List.{List, [], ◌∷◌}
use mathlib.Core.Bool.{Bool, true, false}
use Prim.Native.Nat.{ℕ, zero, suc, ◌+◌, ◌*◌, ◌<◌, ◌≤◌}
use native.Mathlib.Omega.{arith}
use borrow.Author.Tests.{ltb-true, ltb-false, ne_eqb}
use Rattle.wire.specs.Choice.{◌<?◌}
use Rattle.wire.proofs.Apart.{apart}
use Rattle.wire.proofs.Choice.{never}
use Rattle.sets.proofs.Bits.{none_in_empty}
use Rattle.table.specs.declared.Table.{Table}
use Rattle.table.specs.Table.{longest_hold, hold_of, delayed_of, length_of, region_of, holders, WellFormedBy}
use Rattle.machine.specs.declared.Machine.{Machine}
use Rattle.machine.specs.declared.Rule.{Rule}
use Rattle.machine.specs.declared.Rule.TheVariants.{Running, Passed, NoHold}
use Rattle.machine.specs.Verdict.{rule_by, Watch, rule_of, left_of, stronger, strongest, largest_over}
use Rattle.machine.specs.Machine.{entry_into, state_watch, timer_watch, timer_watches, watches, rule, left, state_after, entered, regions_after}
use Rattle.machine.specs.Lent.{TimersFit}
use Rattle.machine.proofs.Rules.{no_hold, left_is}

-- Some watch of a list, and every watch.
abbrev pub Some : (Watch → Type 0) → List Watch → Type 0
Some P [] = ⊥
Some P (w ∷ ws) = P w ⊎ Some P ws

abbrev pub Each : (Watch → Type 0) → List Watch → Type 0
Each P [] = Unit {0}
Each P (w ∷ ws) = P w × Each P ws

-- ---- The strongest of several rules

either_runs : (x y : Rule) → stronger x y ≡ Running ↔ ((x ≡ Running) ⊎ (y ≡ Running))
either_runs Running y = (λ e. inl refl, λ o. refl)
either_runs Passed Running = (λ e. inr refl, λ o. refl)
either_runs Passed Passed = (λ e. apart cc, ⊎_elim (λ e. e) (λ e. e))
either_runs Passed NoHold = (λ e. apart cc, ⊎_elim (λ e. e) (λ e. apart cc))
either_runs NoHold y = (inr, ⊎_elim (λ e. apart cc) (λ e. e))

both_idle : (x y : Rule) → stronger x y ≡ NoHold ↔ ((x ≡ NoHold) × (y ≡ NoHold))
both_idle Running y = (λ e. apart cc, λ o. o.0)
both_idle Passed Running = (λ e. apart cc, λ o. o.1)
both_idle Passed Passed = (λ e. apart cc, λ o. o.1)
both_idle Passed NoHold = (λ e. apart cc, λ o. o.0)
both_idle NoHold y = (λ e. (refl, e), λ o. o.1)

one_passed : (x y : Rule) → stronger x y ≡ Passed → (x ≡ Passed) ⊎ (y ≡ Passed)
one_passed Running y e = apart cc
one_passed Passed y e = inl refl
one_passed NoHold y e = inr e

module _ (by : Watch → Rule) where
  abbrev SomeIs : Rule → List Watch → Type 0
  SomeIs x = Some (λ w. by w ≡ x)

  abbrev EachIs : Rule → List Watch → Type 0
  EachIs x = Each (λ w. by w ≡ x)

  runs : (ws : List Watch) → strongest by ws ≡ Running ↔ SomeIs Running ws
  unfolding strongest
  runs [] = (λ e. apart cc, λ o. absurd o)
  runs (w ∷ ws) =
      let two = either_runs (by w) (strongest by ws) in
      let rest = runs ws in
      (λ e. ⊎_elim inl (λ x. inr (rest.0 x)) (two.0 e), λ o. two.1 (⊎_elim inl (λ x. inr (rest.1 x)) o))

  idle : (ws : List Watch) → strongest by ws ≡ NoHold ↔ EachIs NoHold ws
  unfolding strongest
  idle [] = (λ e. tt, λ o. refl)
  idle (w ∷ ws) =
      let two = both_idle (by w) (strongest by ws) in
      let rest = idle ws in
      (λ e. let o = two.0 e in (o.0, rest.0 o.1), λ o. two.1 (o.0, rest.1 o.1))

  idle_or_passed : (ws : List Watch) → EachIs NoHold ws → SomeIs Passed ws → ⊥
  idle_or_passed [] each some = some
  idle_or_passed (w ∷ ws) (e, each) (inl p) = apart cc
  idle_or_passed (w ∷ ws) (e, each) (inr some) = idle_or_passed ws each some

  some_passed : (ws : List Watch) → strongest by ws ≡ Passed → SomeIs Passed ws
  unfolding strongest
  some_passed [] e = apart cc
  some_passed (w ∷ ws) e = ⊎_elim inl (λ x. inr (some_passed ws x)) (one_passed (by w) (strongest by ws) e)

  passed : (ws : List Watch) → strongest by ws ≡ Passed ↔ ((SomeIs Running ws → ⊥) × SomeIs Passed ws)
  passed ws = (λ e. (λ o. let r = (runs ws).1 o in apart cc, some_passed ws e), λ o. go (strongest by ws) refl o.0 o.1)
    where
      go : (x : Rule) → strongest by ws ≡ x → (SomeIs Running ws → ⊥) → SomeIs Passed ws → x ≡ Passed
      go Running e none some = absurd (none ((runs ws).0 e))
      go Passed e none some = refl
      go NoHold e none some = absurd (idle_or_passed ws ((idle ws).0 e) some)

-- ---- The rule of a test

module _ (t : Table) (m : Machine) (time : ℕ) where
  abbrev told : Watch → Rule
  told = rule_of m.polled time

  pub rule_runs : rule t m time ≡ Running ↔ Some (λ w. told w ≡ Running) (watches t m)
  unfolding rule
  rule_runs = runs told (watches t m)

  pub rule_passed : rule t m time ≡ Passed ↔ ((Some (λ w. told w ≡ Running) (watches t m) → ⊥) × Some (λ w. told w ≡ Passed) (watches t m))
  unfolding rule
  rule_passed = passed told (watches t m)

  pub rule_idle : rule t m time ≡ NoHold ↔ Each (λ w. told w ≡ NoHold) (watches t m)
  unfolding rule
  rule_idle = idle told (watches t m)

-- ---- Timers by their number

pub four : (P : ℕ → Type 0) → P 0 → P 1 → P 2 → P 3 → (k : ℕ) → k < 4 → P k
four P first second third fourth zero l = first
four P first second third fourth (suc zero) l = second
four P first second third fourth (suc (suc zero)) l = third
four P first second third fourth (suc (suc (suc zero))) l = fourth
four P first second third fourth (suc (suc (suc (suc k)))) l = absurd (omega arith)

module _ (t : Table) (m : Machine) (P : Watch → Type 0) where
  pub each_timer : ((k : ℕ) → k < 4 → P (timer_watch t m k)) → Each P (timer_watches t m)
  each_timer h = (h 0 (omega arith), (h 1 (omega arith), (h 2 (omega arith), (h 3 (omega arith), tt))))

  pub timer_of_each : Each P (timer_watches t m) → (k : ℕ) → k < 4 → P (timer_watch t m k)
  timer_of_each (first, (second, (third, (fourth, none)))) = four (λ k. P (timer_watch t m k)) first second third fourth

  pub some_timer : (k : ℕ) → k < 4 → P (timer_watch t m k) → Some P (timer_watches t m)
  some_timer = four (λ k. P (timer_watch t m k) → Some P (timer_watches t m)) inl (λ h. inr (inl h)) (λ h. inr (inr (inl h))) (λ h. inr (inr (inr (inl h))))

  pub timer_of_some : Some P (timer_watches t m) → (k : ℕ) × (k < 4) × P (timer_watch t m k)
  timer_of_some (inl h) = (0, omega arith, h)
  timer_of_some (inr (inl h)) = (1, omega arith, h)
  timer_of_some (inr (inr (inl h))) = (2, omega arith, h)
  timer_of_some (inr (inr (inr (inl h)))) = (3, omega arith, h)
  timer_of_some (inr (inr (inr (inr h)))) = absurd h

pub region_after : (t : Table) (m : Machine) (time k : ℕ) → k < 4 →
    entry_into (regions_after t m time) k ≡ entered (region_of t k) m.state (state_after t m) time (entry_into m.regions k)
unfolding regions_after
region_after t m time =
    four (λ k. entry_into (regions_after t m time) k ≡ entered (region_of t k) m.state (state_after t m) time (entry_into m.regions k)) refl refl refl refl

-- ---- What holds nothing

module _ (polled time : ℕ) where
  pub watch_idle : (w : Watch) → w.hold ≡ 0 → (rule_of polled time w ≡ NoHold) × (left_of polled time w ≡ 0)
  watch_idle w h = (sym (no_hold w.hold w.delayed polled w.since time h), left_is w.hold w.delayed polled w.since time ∙ rw h refl)

  all_idle : (ws : List Watch) → Each (λ w. w.hold ≡ 0) ws → (strongest (rule_of polled time) ws ≡ NoHold) × (largest_over (left_of polled time) ws ≡ 0)
  unfolding strongest largest_over
  all_idle [] h = (refl, refl)
  all_idle (w ∷ ws) (h, each) =
      let first = watch_idle w h in
      let rest = all_idle ws each in
      (rw first.0 rest.0, omega (arith, first.1, rest.1))

pub stronger_idle : (x : Rule) → stronger x NoHold ≡ x
stronger_idle Running = refl
stronger_idle Passed = refl
stronger_idle NoHold = refl

module _ (t : Table) (m : Machine) (time : ℕ) where
  -- A table without timers, or a timer that a table has not got: its region is empty.
  outside : (k : ℕ) → region_of t k ≡ 0 → (timer_watch t m k).hold ≡ 0
  outside k none = rw (none, none_in_empty m.state) refl

  module _ (none : (k : ℕ) → region_of t k ≡ 0) where
    timers_idle : Each (λ w. w.hold ≡ 0) (timer_watches t m)
    timers_idle = each_timer t m (λ w. w.hold ≡ 0) (λ k l. outside k (none k))

    pub rule_by_state : rule t m time ≡ rule_by (hold_of t m.state) (delayed_of t m.state) m.polled m.entry time
    unfolding rule strongest
    rule_by_state = ap (stronger (rule_of m.polled time (state_watch t m))) (all_idle m.polled time (timer_watches t m) timers_idle).0 ∙ stronger_idle _

    pub left_by_state : left t m time ≡ left_of m.polled time (state_watch t m)
    unfolding left largest_over
    left_by_state = let rest = (all_idle m.polled time (timer_watches t m) timers_idle).1 in omega arith

    pub regions_stay : regions_after t m time ≡ m.regions
    unfolding regions_after entered
    regions_stay = simp (none, none_in_empty)

  module _ (none : (q : ℕ) → hold_of t q ≡ 0) where
    pub rule_by_timers : rule t m time ≡ strongest (rule_of m.polled time) (timer_watches t m)
    unfolding rule strongest
    rule_by_timers = rw (watch_idle m.polled time (state_watch t m) (none m.state)).0 refl

    pub left_by_timers : left t m time ≡ largest_over (left_of m.polled time) (timer_watches t m)
    unfolding left largest_over
    left_by_timers = let first = (watch_idle m.polled time (state_watch t m) (none m.state)).1 in omega arith

-- ---- A well-formed table has holds or timers

module _ {old : Bool} {t : Table} (good : WellFormedBy old t) where
  pub no_timer : (k : ℕ) → t.timers ≤ k → (length_of t k ≡ 0) × (region_of t k ≡ 0)
  no_timer k l = (good.timing_uses.rest (2 * k) (omega arith), good.timing_uses.rest (2 * k + 1) (omega arith))

  pub no_regions : t.timers ≡ 0 → (k : ℕ) → region_of t k ≡ 0
  no_regions none k = (no_timer k (omega arith)).1

  pub no_holds : (t.timers ≡ 0 → ⊥) → (q : ℕ) → hold_of t q ≡ 0
  no_holds some q = let l : holders t ≤ q = rw (ne_eqb t.timers 0 some) (omega arith) in good.hold_uses.rest q l

  timer_or_none : (k : ℕ) → ((1 ≤ length_of t k) × (length_of t k ≤ longest_hold)) ⊎ ((length_of t k ≡ 0) × (region_of t k ≡ 0))
  timer_or_none k = go (k <? t.timers) refl
    where
      go : (b : Bool) → (k <? t.timers) ≡ b → ((1 ≤ length_of t k) × (length_of t k ≤ longest_hold)) ⊎ ((length_of t k ≡ 0) × (region_of t k ≡ 0))
      go true e = inl (good.length k (ltb-true k t.timers e))
      go false e = inr (no_timer k (ltb-false k t.timers e))

  pub timers_fit : TimersFit t.timing
  timers_fit = record {
    short = λ k. ⊎_elim (λ l. l.1) (λ none. omega (arith, none.0)) (timer_or_none k);
    running = λ k q m. ⊎_elim (λ l. l.0) (λ none. never (sym (none_in_empty q) ∙ (rw none.1 at m))) (timer_or_none k);
  }
