-- What the ticks left mean, as specs/Left states it.
use mathlib.Core.Path.{◌≡◌, refl, sym, ap, ◌∙◌}
use mathlib.Core.Logic.{◌↔◌}
use mathlib.Core.List.{List, [], ◌∷◌}
use mathlib.Core.Bool.{Bool, true, false}
use Prim.Native.Nat.{ℕ, ◌+◌, ◌-◌, ◌<◌, ◌≤◌, max}
use native.Mathlib.Omega.{arith}
use Rattle.std.specs.Prelude.{if◌then◌else◌}
use Rattle.wire.specs.Choice.{◌<?◌, ◌and◌}
use Rattle.table.specs.declared.Table.{Table}
use Rattle.table.specs.Table.{member}
use Rattle.machine.specs.declared.Machine.{Machine}
use Rattle.machine.specs.declared.Rule.{Rule}
use Rattle.machine.specs.declared.Rule.TheVariants.{Running, Passed, NoHold}
use Rattle.machine.specs.Verdict.{verdict_by, left_by, Watch, rule_of, left_of, stronger, strongest, largest_over}
use Rattle.machine.specs.Machine.{start, watches, rule, verdict, left, after}
use Rattle.records.specs.Record.{is_test}
use Rattle.machine.specs.Left.{HeldIsLeft, UntilFree, LeftUntilFree, LeftOfRunIsMost}
use Rattle.machine.proofs.Before.{EnteredBy, first_entered, entered_by}
use Rattle.machine.proofs.Most.{is_most}
use Rattle.machine.proofs.Rules.{left_is}
use Rattle.machine.proofs.Steps.{verdict_small}
use Rattle.machine.proofs.Watches.{Each, each_timer}

-- ---- Held exactly when some are left

passed_frees : (y : Rule) → verdict_by (stronger Passed y) ≡ verdict_by y
passed_frees Running = refl
passed_frees Passed = refl
passed_frees NoHold = refl

held_by : (polled time : ℕ) (ws : List Watch) →
    (verdict_by (strongest (rule_of polled time) ws) ≡ 0) ↔ (0 < largest_over (left_of polled time) ws)
unfolding strongest largest_over
held_by polled time [] = (λ e. absurd (omega arith), λ l. absurd (omega arith))
held_by polled time (w ∷ ws) = go (rule_of polled time w) (strongest (rule_of polled time) ws) (largest_over (left_of polled time) ws) (held_by polled time ws)
  where
    go : (x y : Rule) (n : ℕ) → (verdict_by y ≡ 0) ↔ (0 < n) → (verdict_by (stronger x y) ≡ 0) ↔ (0 < max (left_by w.hold w.since time x) n)
    go Running y n rest = (λ e. omega arith, λ l. refl)
    go Passed y n rest = rw (passed_frees y) (λ e. omega (arith, rest.0 e), λ l. rest.1 (omega arith))
    go NoHold y n rest = (λ e. omega (arith, rest.0 e), λ l. rest.1 (omega arith))

pub held_is_left : HeldIsLeft
unfolding verdict left rule
held_is_left t m time = held_by m.polled time (watches t m)

module _ (t : Table) (m : Machine) (time ticks : ℕ) (is : ticks ≡ left t m time) where
  pub none_left : ticks ≡ 0 → 1 ≡ verdict t m time
  none_left none =
      let not_held : verdict t m time ≡ 0 → ⊥ = λ h. let l = (held_is_left t m time).0 h in omega arith in
      omega (arith, verdict_small t m time)

  pub some_left : (ticks ≡ 0 → ⊥) → 0 ≡ verdict t m time
  some_left some = sym ((held_is_left t m time).1 (omega arith))

-- ---- As time goes on they fall with it

watch_falls : (polled time d : ℕ) (w : Watch) → w.since ≤ time → left_of polled (time + d) w ≡ left_of polled time w - d
watch_falls polled time d w order =
    left_is w.hold w.delayed polled w.since (time + d)
    ∙ go ((0 <? w.hold) and member w.delayed polled)
    ∙ ap (λ n. n - d) (sym (left_is w.hold w.delayed polled w.since time))
  where
    go : (b : Bool) → (if b then w.hold + 1 - (time + d - w.since) else 0) ≡ (if b then w.hold + 1 - (time - w.since) else 0) - d
    go true = omega arith
    go false = omega arith

largest_falls : (polled time d : ℕ) (ws : List Watch) → Each (λ w. w.since ≤ time) ws →
    largest_over (left_of polled (time + d)) ws ≡ largest_over (left_of polled time) ws - d
unfolding largest_over
largest_falls polled time d [] h = omega arith
largest_falls polled time d (w ∷ ws) (h, each) = omega (arith, watch_falls polled time d w h, largest_falls polled time d ws each)

module _ (t : Table) (m : Machine) (time : ℕ) (by : EnteredBy m time) where
  left_falls : (d : ℕ) → left t m (time + d) ≡ left t m time - d
  unfolding left
  left_falls d = largest_falls m.polled time d (watches t m) (by.state, each_timer t m (λ w. w.since ≤ time) by.regions)

  until_free : UntilFree t m time
  until_free = (
    sym (none_left t m (time + left t m time) 0 (let e = left_falls (left t m time) in omega arith) refl),
    λ d l. (held_is_left t m (time + d)).1 (let e = left_falls d in omega arith),
  )

pub left_until_free : LeftUntilFree
left_until_free t initial input rs last run before time at =
    until_free t before time (entered_by t is_test (left t) (start initial input) rs last (first_entered initial input) run before time at)

pub left_is_most : LeftOfRunIsMost
left_is_most t m rs = is_most (after t) is_test (left t) m rs
