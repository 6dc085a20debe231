-- The clocks of a test, read off the machine: the report's, and those of timers.
use mathlib.Core.Path.{◌≡◌, refl, ap, fun_ext}
use mathlib.Core.Bool.{Bool, true, false, not}
use Prim.Native.Nat.{ℕ, zero, suc, ◌+◌, ◌-◌, ◌<◌, ◌≤◌}
use native.Mathlib.Nat.{sub_self}
use native.Mathlib.Omega.{arith}
use borrow.Author.Tests.{lt-ltb, ltb-true, ltb-false}
use Rattle.std.specs.Prelude.{if◌then◌else◌}
use Rattle.wire.specs.Choice.{◌<?◌, ◌and◌}
use Rattle.sets.proofs.Bits.{none_in_empty}
use Rattle.table.specs.declared.Table.{Table}
use Rattle.table.specs.Table.{region_of, in_region, WellFormed}
use Rattle.machine.specs.declared.Regions.{Regions}
use Rattle.machine.specs.declared.Machine.{Machine}
use Rattle.machine.specs.Machine.{start, entry_into, state_after, entered, regions_after}
use Rattle.machine.proofs.Watches.{region_after, no_timer, no_regions}
use Rattle.runs.specs.Automaton.{Clocks, hold_clocks, timer_clocks, clocks_by, clocks_of, RulesAreEdges}
use Rattle.runs.specs.Reaction.{NoRegions}
use Rattle.runs.proofs.Rules.{by_hold, by_timers}

-- What they show at `now`, by the entry into the state and the entries into the regions.
pub record Reading (C : Clocks) (t : Table) : Type 0 where
  pub shown : (entry : ℕ) → Regions → (now : ℕ) → C.Y
  pub first : shown 0 (start 0 0).regions 0 ≡ C.zero
  pub passes : (entry : ℕ) (regions : Regions) (now d : ℕ) → entry ≤ now → ((k : ℕ) → k < 4 → entry_into regions k ≤ now) →
      C.pass d (shown entry regions now) ≡ shown entry regions (now + d)
  pub moves : (m : Machine) (now : ℕ) → shown now (regions_after t m now) now ≡ C.move m.state (state_after t m) (shown m.entry m.regions now)
  pub rules : (m : Machine) (now : ℕ) → RulesAreEdges C t m now (shown m.entry m.regions now)

hold_reading : (t : Table) → NoRegions t → Reading (hold_clocks t) t
hold_reading t untimed = record {
  shown = λ entry regions now. now - entry;
  first = refl;
  passes = λ entry regions now d l all. omega arith;
  moves = λ m now. sub_self now;
  rules = by_hold t untimed;
}

-- The machine has entries for four timers. The automaton's clocks go on past them: there no region is ever entered.
abbrev entry_of : Regions → ℕ → ℕ
entry_of regions k = if k <? 4 then entry_into regions k else 0

entry_of_lem : (regions : Regions) (k : ℕ) → k < 4 → entry_of regions k ≡ entry_into regions k
entry_of_lem regions k l = rw (lt-ltb k 4 l) refl

entry_past : (regions : Regions) (now k : ℕ) → ((k : ℕ) → k < 4 → entry_into regions k ≤ now) → entry_of regions k ≤ now
entry_past regions now k all = go (k <? 4) refl
  where
    go : (b : Bool) → (k <? 4) ≡ b → (if b then entry_into regions k else 0) ≤ now
    go true e = all k (ltb-true k 4 e)
    go false e = omega arith

module _ {t : Table} (good : WellFormed t) where
  entry_after : (m : Machine) (now k : ℕ) → entry_of (regions_after t m now) k ≡ entered (region_of t k) m.state (state_after t m) now (entry_of m.regions k)
  unfolding entered
  entry_after m now k = go (k <? 4) refl
    where
      go : (b : Bool) → (k <? 4) ≡ b →
          (if b then entry_into (regions_after t m now) k else 0) ≡
          entered (region_of t k) m.state (state_after t m) now (if b then entry_into m.regions k else 0)
      go true e = region_after t m now k (ltb-true k 4 e)
      go false e = rw ((no_timer good k (omega (arith, ltb-false k 4 e, good.timers))).1, none_in_empty (state_after t m)) refl

  timer_reading : (t.timers ≡ 0 → ⊥) → Reading (timer_clocks t) t
  unfolding entered
  timer_reading timed = record {
    shown = λ entry regions now k. now - entry_of regions k;
    first = fun_ext (λ k. omega arith);
    passes = λ entry regions now d l all. fun_ext (λ k. omega (arith, entry_past regions now k all));
    moves = λ m now. fun_ext (λ k. rw (entry_after m now k) (since_entered m now k));
    rules = λ m now. by_timers good m now timed _ (λ k l. ap (λ e. now - e) (entry_of_lem m.regions k (omega (arith, good.timers))));
  }
    where
      since_entered : (m : Machine) (now k : ℕ) →
          now - entered (region_of t k) m.state (state_after t m) now (entry_of m.regions k) ≡
          (if in_region t k (state_after t m) and not (in_region t k m.state) then 0 else now - entry_of m.regions k)
      since_entered m now k = go (in_region t k (state_after t m) and not (in_region t k m.state))
        where
          go : (b : Bool) → now - (if b then now else entry_of m.regions k) ≡ (if b then 0 else now - entry_of m.regions k)
          go true = sub_self now
          go false = refl

pub reading : {t : Table} → WellFormed t → Reading (clocks_of t) t
reading {t} good = go t.timers refl
  where
    go : (n : ℕ) → t.timers ≡ n → Reading (clocks_by n t) t
    go zero e = hold_reading t (no_regions good e)
    go (suc n) e = timer_reading good (λ none. omega arith)
