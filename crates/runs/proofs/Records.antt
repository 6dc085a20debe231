-- What a record says of the machine that takes it, and of the machine after it.
use mathlib.Core.Path.{◌≡◌, refl, sym}
use mathlib.Core.Logic.{◌⊎◌, inl, inr, ⊎_elim}
use mathlib.Core.List.{List, ◌∷◌}
use mathlib.Core.Bool.{Bool, true, false, not}
use Prim.Native.Nat.{ℕ, zero, suc, ◌<◌, ◌≤◌}
use native.Mathlib.Omega.{arith}
use borrow.Author.Tests.{eq-eqb, ne_eqb, eqb-true, eqb-false}
use Rattle.std.proofs.lemmas.Bool.{cases_lt}
use Rattle.std.specs.Prelude.{if◌then◌else◌}
use Rattle.wire.specs.Choice.{◌=?◌, ◌and◌}
use Rattle.wire.proofs.Choice.{never}
use Rattle.table.specs.declared.Table.{Table}
use Rattle.table.specs.Table.{next_of}
use Rattle.machine.specs.declared.Machine.{Machine}
use Rattle.records.specs.declared.Record.{Record}
use Rattle.machine.specs.Machine.{start, allowed, entry_into, state_after, last_change, regions_after, after, entered}
use Rattle.machine.specs.Run.{Runs}
use Rattle.machine.proofs.Laws.{repeat_leaves, change_counts, from_phase_3, stays}
use Rattle.machine.proofs.Steps.{Taken, step_taken}
use Rattle.machine.proofs.Watches.{four}

-- As the crates above take it.
pub split : (n k : ℕ) → (n ≤ k) ⊎ (k < n)
split n k = ⊎_elim inr inl (cases_lt k n)

pub not_both : (b : Bool) → (b and not b) ≡ false
not_both true = refl
not_both false = refl

-- The phases in which a poll, a test and a tick may come.
pub record Phases (p : ℕ) : Type 0 where
  pub poll : allowed p 1 ≡ true → p ≡ 0
  pub test : allowed p 2 ≡ true → p ≡ 1
  pub tick : allowed p 3 ≡ true → (p ≡ 2) ⊎ (p ≡ 3)

pub phases : (p : ℕ) → Phases p
phases zero = record { poll = λ e. refl; test = λ e. never e; tick = λ e. never e }
phases (suc zero) = record { poll = λ e. never e; test = λ e. refl; tick = λ e. never e }
phases (suc (suc zero)) = record { poll = λ e. never e; test = λ e. never e; tick = λ e. inl refl }
phases (suc (suc (suc zero))) = record { poll = λ e. never e; test = λ e. never e; tick = λ e. inr refl }
phases (suc (suc (suc (suc p)))) = record { poll = λ e. never e; test = λ e. never e; tick = λ e. never e }

-- ---- The change

-- It repeats the present input, and the last change stays; or it names another.
pub repeats_or_changes : (m : Machine) (time input : ℕ) →
    ((input ≡ m.input) × (last_change m time input ≡ m.change)) ⊎ ((input ≡ m.input → ⊥) × (last_change m time input ≡ time))
repeats_or_changes m time input = go (input =? m.input) refl
  where
    go : (b : Bool) → (input =? m.input) ≡ b →
        ((input ≡ m.input) × (last_change m time input ≡ m.change)) ⊎ ((input ≡ m.input → ⊥) × (last_change m time input ≡ time))
    go true e = let same = eqb-true input m.input e in inl (same, sym (repeat_leaves m time input same))
    go false e = let another = eqb-false input m.input e in inr (another, sym (change_counts m time input another))

pub change_before : (m : Machine) (time input : ℕ) → m.change ≤ time → last_change m time input ≤ time
change_before m time input l = ⊎_elim (λ x. rw x.1 l) (λ x. omega (arith, x.1)) (repeats_or_changes m time input)

-- ---- Any record

module _ (t : Table) (m : Machine) where
  pub first_taken : (r : Record) (rs : List Record) (last : Machine) → Runs t m (r ∷ rs) last → Taken t m r
  first_taken r rs last run = (step_taken t m r (after t m r) run.0).0

-- ---- The tick

pub first_entry : (k : ℕ) → k < 4 → entry_into (start 0 0).regions k ≡ 0
first_entry = four (λ k. entry_into (start 0 0).regions k ≡ 0) refl refl refl refl

module _ (t : Table) (m : Machine) where
  pub state_kept : m.phase ≡ 2 → state_after t m ≡ m.state
  state_kept two = sym (stays t m (λ three. omega arith))

  pub state_next : m.phase ≡ 3 → state_after t m ≡ next_of t m.state m.polled
  state_next three = sym (from_phase_3 t m three (next_of t m.state m.polled) refl)

  pub entry_moved : (state_after t m ≡ m.state → ⊥) → (time : ℕ) → (if state_after t m =? m.state then m.entry else time) ≡ time
  entry_moved differs time = rw (ne_eqb (state_after t m) m.state differs)

  -- A tick that leaves the state as it is enters nothing.
  module _ (same : state_after t m ≡ m.state) (time : ℕ) where
    pub entry_kept : (if state_after t m =? m.state then m.entry else time) ≡ m.entry
    entry_kept = rw (eq-eqb (state_after t m) m.state same)

    pub regions_kept : regions_after t m time ≡ m.regions
    unfolding regions_after entered
    regions_kept = simp (same, not_both)
