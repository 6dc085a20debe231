-- The three rules of a test: which one is told, and that it is the only one that holds.
use mathlib.Core.Path.{◌≡◌, refl}
use mathlib.Core.Logic.{◌↔◌}
use mathlib.Core.Bool.{Bool, true, false, not}
use Prim.Native.Nat.{ℕ, ◌+◌, ◌-◌, ◌<◌, ◌≤◌}
use native.Mathlib.Omega.{arith}
use borrow.Author.Tests.{lt-ltb, le-ltb, le-leb, lt-leb, eq-eqb, ne_eqb, ltb-true, ltb-false, leb-true, leb-false}
use Rattle.std.specs.Prelude.{if◌then◌else◌}
use Rattle.wire.specs.Choice.{◌<?◌, ◌≤?◌, ◌=?◌, ◌and◌, ◌or◌}
use Rattle.wire.proofs.Apart.{apart}
use Rattle.wire.proofs.Choice.{never, both}
use Rattle.table.specs.Table.{member}
use Rattle.machine.specs.declared.Rule.{Rule}
use Rattle.machine.specs.declared.Rule.TheVariants.{Running, Passed, NoHold}
use Rattle.machine.specs.Verdict.{rule_by, left_by, ExactlyOne}

module _ (hold delayed polled entry time : ℕ) where
  -- ---- Which one is told

  pub no_hold : hold ≡ 0 → NoHold ≡ rule_by hold delayed polled entry time
  unfolding rule_by
  no_hold h = rw h refl

  module _ (some : 0 < hold) where
    pub not_delayed : member delayed polled ≡ false → NoHold ≡ rule_by hold delayed polled entry time
    unfolding rule_by
    not_delayed h = rw (lt-ltb 0 hold some, h) refl

    module _ (is_delayed : member delayed polled ≡ true) where
      pub still_running : time - entry ≤ hold → Running ≡ rule_by hold delayed polled entry time
      unfolding rule_by
      still_running l = rw (lt-ltb 0 hold some, is_delayed, le-leb (time - entry) hold l) refl

      pub has_passed : hold < time - entry → Passed ≡ rule_by hold delayed polled entry time
      unfolding rule_by
      has_passed l =
          rw (lt-ltb 0 hold some, is_delayed, lt-leb (time - entry) hold l, lt-ltb hold (time - entry) l) refl

-- ---- Exactly one

abbrev Tells : Bool → Rule → Rule → Type 0
Tells holds told rule = holds ≡ true ↔ told ≡ rule

yes : (x : Rule) → Tells true x x
yes x = (λ h. refl, λ h. refl)

no : (x y : Rule) → (x ≡ y → ⊥) → Tells false x y
no x y differ = (λ h. never h, λ e. absurd (differ e))

-- The tests, and the rule that they tell: there is a hold, there is none; delayed; at most the hold, above it.
abbrev told_by : (a d c p : Bool) → Rule
told_by a d c p = if a and d and c then Running else if a and d and p then Passed else NoHold

abbrev One : (a z d c p : Bool) → Type 0
One a z d c p = Tells (a and d and c) (told_by a d c p) Running × Tells (a and d and p) (told_by a d c p) Passed × Tells (z or not d) (told_by a d c p) NoHold

one : (a d c : Bool) → One a (not a) d c (not c)
one false d c = (no NoHold Running (λ e. apart cc), no NoHold Passed (λ e. apart cc), yes NoHold)
one true false c = (no NoHold Running (λ e. apart cc), no NoHold Passed (λ e. apart cc), yes NoHold)
one true true true = (yes Running, no Running Passed (λ e. apart cc), no Running NoHold (λ e. apart cc))
one true true false = (no Passed Running (λ e. apart cc), yes Passed, no Passed NoHold (λ e. apart cc))

none_or_some : (hold : ℕ) → (hold =? 0) ≡ not (0 <? hold)
none_or_some hold = go (0 <? hold) refl
  where
    go : (b : Bool) → (0 <? hold) ≡ b → (hold =? 0) ≡ not b
    go true e = ne_eqb hold 0 (λ h. let l = ltb-true 0 hold e in omega arith)
    go false e = let l = ltb-false 0 hold e in eq-eqb hold 0 (omega arith)

above_or_within : (n hold : ℕ) → (hold <? n) ≡ not (n ≤? hold)
above_or_within n hold = go (n ≤? hold) refl
  where
    go : (b : Bool) → (n ≤? hold) ≡ b → (hold <? n) ≡ not b
    go true e = le-ltb hold n (leb-true n hold e)
    go false e = lt-ltb hold n (leb-false n hold e)

pub exactly_one : (hold delayed polled entry time : ℕ) → ExactlyOne hold delayed polled entry time
unfolding rule_by
exactly_one hold delayed polled entry time =
    rw (none_or_some hold, above_or_within (time - entry) hold) (one (0 <? hold) (member delayed polled) (time - entry ≤? hold))

pub running_within : (hold delayed polled entry time : ℕ) → rule_by hold delayed polled entry time ≡ Running → time - entry ≤ hold
running_within hold delayed polled entry time e =
    let yes = both (0 <? hold) _ ((exactly_one hold delayed polled entry time).0.1 e) in
    leb-true _ _ (both (member delayed polled) _ yes.1).1

-- What is left of a hold, without a rule: where there is a hold and the input is delayed, the rest until it is passed.
pub left_is : (hold delayed polled entry time : ℕ) →
    left_by hold entry time (rule_by hold delayed polled entry time) ≡ (if (0 <? hold) and member delayed polled then hold + 1 - (time - entry) else 0)
unfolding rule_by
left_is hold delayed polled entry time =
    rw (above_or_within (time - entry) hold) (go (0 <? hold) (member delayed polled) (time - entry ≤? hold) refl)
  where
    go : (a d c : Bool) → (time - entry ≤? hold) ≡ c →
        left_by hold entry time (told_by a d c (not c)) ≡ (if a and d then hold + 1 - (time - entry) else 0)
    go false d c e = refl
    go true false c e = refl
    go true true true e = omega (arith, leb-true (time - entry) hold e)
    go true true false e = omega (arith, leb-false (time - entry) hold e)
