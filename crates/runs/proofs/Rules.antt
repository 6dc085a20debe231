-- The three rules of a test, and the automaton's three edges for it: by the state's hold, and by timers.
use mathlib.Core.Path.{◌≡◌, refl, sym, ◌∙◌}
use mathlib.Core.Logic.Iff
use mathlib.Core.Logic.{◌⊎◌, inl, inr, ⊎_elim, ◌↔◌}
use mathlib.Core.Bool.{Bool, true, false, not}
use Prim.Native.Nat.{ℕ, ◌-◌, ◌<◌, ◌≤◌}
use native.Mathlib.Omega.{arith}
use borrow.Author.Tests.{lt-ltb, le-leb, eq-eqb, ltb-true, leb-true, eqb-true}
use Rattle.std.specs.Prelude.{if◌then◌else◌}
use Rattle.std.proofs.lemmas.Bool.{cases_lt}
use Rattle.wire.specs.Choice.{◌<?◌, ◌≤?◌, ◌=?◌, ◌and◌, ◌or◌}
use Rattle.wire.proofs.Apart.{apart}
use Rattle.wire.proofs.Choice.{never, both, and_both, or_first, or_second, either}
use Rattle.sets.proofs.Bits.{none_in_empty}
use Rattle.table.specs.declared.Table.{Table}
use Rattle.table.specs.Table.{hold_of, delayed_of, delays, length_of, in_region, timer_delays, member, WellFormed}
use Rattle.machine.specs.declared.Machine.{Machine}
use Rattle.machine.specs.declared.Rule.{Rule}
use Rattle.machine.specs.declared.Rule.TheVariants.{Running, Passed, NoHold}
use Rattle.machine.specs.Verdict.{rule_by, ExactlyOne, Watch, rule_of}
use Rattle.machine.specs.Machine.{entry_into, state_watch, timer_watch, rule}
use Rattle.machine.proofs.Rules.{exactly_one, no_hold}
use Rattle.machine.proofs.Watches.{rule_runs, rule_passed, rule_idle, each_timer, timer_of_each, some_timer, timer_of_some, rule_by_state, no_timer, no_regions, no_holds}
use Rattle.runs.specs.Automaton.{hold_clocks, Delaying, timer_clocks, RunningIsTa3, PassedIsTa4, NoHoldIsTa5, RulesAreEdges, HoldRules, TimerRules}
use Rattle.runs.specs.Reaction.{NoRegions}

-- ---- One hold

below : (a b : ℕ) → (a <? b) ≡ true ↔ a < b
below a b = (ltb-true a b, lt-ltb a b)

within : (a b : ℕ) → (a ≤? b) ≡ true ↔ a ≤ b
within a b = (leb-true a b, le-leb a b)

none : (n : ℕ) → (n =? 0) ≡ true ↔ n ≡ 0
none n = (eqb-true n 0, eq-eqb n 0)

untrue : (b : Bool) → not b ≡ true ↔ b ≡ false
untrue true = (λ e. never e, λ e. never (sym e))
untrue false = (λ e. refl, λ e. refl)

all_three : {A C : Type 0} (a b c : Bool) → a ≡ true ↔ A → c ≡ true ↔ C → (a and b and c) ≡ true ↔ (C × A × (b ≡ true))
all_three a b c first third = (
  λ h. let x = both a (b and c) h in let y = both b c x.1 in (third.0 y.1, first.0 x.0, y.0),
  λ o. and_both a (b and c) (first.1 o.1) (and_both b c o.2 (third.1 o.0)),
)

one_of_two : {A B : Type 0} (a b : Bool) → a ≡ true ↔ A → b ≡ true ↔ B → (a or b) ≡ true ↔ (A ⊎ B)
one_of_two a b first second = (
  λ h. ⊎_elim (λ e. inl (first.0 e)) (λ e. inr (second.0 e)) (either a b h),
  λ o. ⊎_elim (λ x. or_first a b (first.1 x)) (λ y. or_second a b (second.1 y)) o,
)

module _ (hold delayed polled entry time : ℕ) where
  one : ExactlyOne hold delayed polled entry time
  one = exactly_one hold delayed polled entry time

  abbrev told : Rule
  told = rule_by hold delayed polled entry time

  abbrev since : ℕ
  since = time - entry

  pub runs : told ≡ Running ↔ ((since ≤ hold) × (0 < hold) × (member delayed polled ≡ true))
  runs = Iff.trans (Iff.symm one.0) (all_three (0 <? hold) (member delayed polled) (since ≤? hold) (below 0 hold) (within since hold))

  passed : told ≡ Passed ↔ ((hold < since) × (0 < hold) × (member delayed polled ≡ true))
  passed = Iff.trans (Iff.symm one.1) (all_three (0 <? hold) (member delayed polled) (hold <? since) (below 0 hold) (below hold since))

  idle : told ≡ NoHold ↔ ((hold ≡ 0) ⊎ (member delayed polled ≡ false))
  idle = Iff.trans (Iff.symm one.2) (one_of_two (hold =? 0) (not (member delayed polled)) (none hold) (untrue (member delayed polled)))

-- ---- The state's hold, in a table without timers

module _ (t : Table) (untimed : NoRegions t) (m : Machine) (now : ℕ) where
  running_is_ta_3 : RunningIsTa3 (hold_clocks t) t m now (now - m.entry)
  running_is_ta_3 = rw (rule_by_state t m now untimed) (runs (hold_of t m.state) (delayed_of t m.state) m.polled m.entry now)

  passed_is_ta_4 : PassedIsTa4 (hold_clocks t) t m now (now - m.entry)
  passed_is_ta_4 = rw (rule_by_state t m now untimed) (passed (hold_of t m.state) (delayed_of t m.state) m.polled m.entry now)

  no_hold_is_ta_5 : NoHoldIsTa5 (hold_clocks t) t m now (now - m.entry)
  no_hold_is_ta_5 = rw (rule_by_state t m now untimed) (idle (hold_of t m.state) (delayed_of t m.state) m.polled m.entry now)

  pub by_hold : RulesAreEdges (hold_clocks t) t m now (now - m.entry)
  by_hold = (running_is_ta_3, passed_is_ta_4, no_hold_is_ta_5)

pub hold_rules : HoldRules
hold_rules t good untimed = by_hold t (no_regions good untimed)

-- ---- Timers, in a table without holds

module _ {t : Table} (good : WellFormed t) where
  is_timer : (k q : ℕ) → in_region t k q ≡ true → k < t.timers
  is_timer k q has = ⊎_elim (λ l. l) (λ past. never (sym (none_in_empty q) ∙ (rw (no_timer good k past).1 at has))) (cases_lt k t.timers)

  module _ (m : Machine) (now : ℕ) where
    abbrev Delayed : ℕ → Type 0
    Delayed k = Delaying t k m.polled m.state

    abbrev Tells : Rule → Watch → Type 0
    Tells x w = rule_of m.polled now w ≡ x

    abbrev clock : ℕ → ℕ
    clock k = now - entry_into m.regions k

    -- Outside its region a timer has no hold.
    delaying : (k : ℕ) → 0 < (timer_watch t m k).hold → timer_delays t k m.state m.polled ≡ true → Delayed k
    delaying k some delays = go (in_region t k m.state) refl some
      where
        go : (b : Bool) → in_region t k m.state ≡ b → 0 < (if b then length_of t k else 0) → Delayed k
        go true e l = (is_timer k m.state e, e, delays)
        go false e l = absurd (omega arith)

    hold_is : (k : ℕ) → Delayed k → (timer_watch t m k).hold ≡ length_of t k
    hold_is k d = rw d.1 refl

    pub runs_if : (k : ℕ) → Tells Running (timer_watch t m k) ↔ (Delayed k × (clock k ≤ length_of t k))
    runs_if k = (
      λ e. let o = (runs _ _ _ _ _).0 e in let d = delaying k o.1 o.2 in (d, rw (hold_is k d) at o.0),
      λ o. (runs _ _ _ _ _).1 (rw (hold_is k o.0) (o.1, (good.length k o.0.0).0, o.0.2)),
    )

    passed_delays : (k : ℕ) → Tells Passed (timer_watch t m k) → Delayed k
    passed_delays k e = let o = (passed _ _ _ _ _).0 e in delaying k o.1 o.2

    idle_if : (k : ℕ) → Tells NoHold (timer_watch t m k) ↔ (Delayed k → ⊥)
    idle_if k = (
      λ e d. ⊎_elim (λ zero. omega (arith, hold_is k d, (good.length k d.0).0)) (λ free. never (sym free ∙ d.2)) ((idle _ _ _ _ _).0 e),
      λ free. go free (rule_of m.polled now (timer_watch t m k)) refl,
    )
      where
        go : (Delayed k → ⊥) → (x : Rule) → Tells x (timer_watch t m k) → x ≡ NoHold
        go free Running e = absurd (free ((runs_if k).0 e).0)
        go free Passed e = absurd (free (passed_delays k e))
        go free NoHold e = refl

    -- The clocks show the time since the entries.
    module _ (timed : t.timers ≡ 0 → ⊥) (y : ℕ → ℕ) (shows : (k : ℕ) → k < t.timers → y k ≡ clock k) where
      state_idle : Tells NoHold (state_watch t m)
      state_idle = sym (no_hold _ _ _ _ _ (no_holds good timed m.state))

      small : {k : ℕ} → Delayed k → k < 4
      small d = omega (arith, d.0, good.timers)

      running_is_ta_3_by : RunningIsTa3 (timer_clocks t) t m now y
      running_is_ta_3_by = (
        λ e. ⊎_elim
            (λ s. apart (cc state_idle))
            (λ s. let o = timer_of_some t m (Tells Running) s in let r = (runs_if o.0).0 o.2 in (o.0, r.0, rw (shows o.0 r.0.0) r.1))
            ((rule_runs t m now).0 e),
        λ o. (rule_runs t m now).1 (inr (some_timer t m (Tells Running) o.0 (small o.1) ((runs_if o.0).1 (o.1, rw (shows o.0 o.1.0) at o.2)))),
      )

      no_hold_is_ta_5_by : NoHoldIsTa5 (timer_clocks t) t m now y
      no_hold_is_ta_5_by = (
        λ e k d. (idle_if k).0 (timer_of_each t m (Tells NoHold) ((rule_idle t m now).0 e).1 k (small d)) d,
        λ free. (rule_idle t m now).1 (state_idle, each_timer t m (Tells NoHold) (λ k low. (idle_if k).1 (free k))),
      )

      passed_is_ta_4_by : PassedIsTa4 (timer_clocks t) t m now y
      passed_is_ta_4_by = (
        λ e. (
          ⊎_elim (λ s. apart (cc state_idle)) (λ s. let o = timer_of_some t m (Tells Passed) s in (o.0, passed_delays o.0 o.2)) ((rule_passed t m now).0 e).1,
          λ k d. ⊎_elim (λ l. l) (λ l. let r = running_is_ta_3_by.1 (k, d, l) in apart cc) (cases_lt (length_of t k) (y k)),
        ),
        λ o. go (rule t m now) refl o.0 o.1,
      )
        where
          go : (x : Rule) → rule t m now ≡ x → (k : ℕ) × Delayed k → ((k : ℕ) → Delayed k → length_of t k < y k) → x ≡ Passed
          go Running e some each = let o = running_is_ta_3_by.0 e in absurd (omega (arith, each o.0 o.1, o.2))
          go Passed e some each = refl
          go NoHold e some each = absurd (no_hold_is_ta_5_by.0 e some.0 some.1)

      pub by_timers : RulesAreEdges (timer_clocks t) t m now y
      by_timers = (running_is_ta_3_by, passed_is_ta_4_by, no_hold_is_ta_5_by)

pub timer_rules : TimerRules
timer_rules t good timed m now = by_timers good m now timed (λ k. now - entry_into m.regions k) (λ k l. refl)
