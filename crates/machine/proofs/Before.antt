-- When a machine takes a record, its state and every region were entered by then.
use mathlib.Core.Path.{◌≡◌, refl}
use mathlib.Core.Logic.{⊎_elim}
use mathlib.Core.List.{List, [], ◌∷◌}
use mathlib.Core.Bool.{Bool, true, false, not}
use Prim.Native.Nat.{ℕ, ◌<◌, ◌≤◌}
use native.Mathlib.Omega.{arith}
use Rattle.std.specs.Prelude.{if◌then◌else◌}
use Rattle.wire.specs.Choice.{◌=?◌, ◌and◌}
use Rattle.table.specs.declared.Table.{Table}
use Rattle.table.specs.Table.{in_region}
use Rattle.records.specs.declared.Record.{Record}
use Rattle.records.specs.declared.Record.TheVariants.{Change, Poll, Test, Tick, End}
use Rattle.records.specs.Record.{time_of}
use Rattle.machine.specs.declared.Machine.{Machine}
use Rattle.machine.specs.Machine.{start, entry_into, state_after, entered, regions_after, after}
use Rattle.machine.specs.Most.{Has}
use Rattle.machine.specs.Run.{Runs}
use Rattle.machine.proofs.Steps.{step_taken}
use Rattle.machine.proofs.Watches.{four, region_after}

either_before : (b : Bool) {x y time : ℕ} → x ≤ time → y ≤ time → (if b then x else y) ≤ time
either_before true l k = l
either_before false l k = k

module _ (t : Table) (m : Machine) where
  pub time_after : (r : Record) → (after t m r).time ≡ time_of r
  time_after (Change time input) = refl
  time_after (Poll time input) = refl
  time_after (Test time verdict) = refl
  time_after (Tick time state) = refl
  time_after (End time) = refl

  pub entry_before : (time : ℕ) → m.entry ≤ time → (if state_after t m =? m.state then m.entry else time) ≤ time
  entry_before time l = either_before (state_after t m =? m.state) l (omega arith)

  pub region_before : (time k : ℕ) → k < 4 → entry_into m.regions k ≤ time → entry_into (regions_after t m time) k ≤ time
  unfolding entered
  region_before time k small l = rw (region_after t m time k small) (either_before (in_region t k (state_after t m) and not (in_region t k m.state)) (omega arith) l)

pub record EnteredBy (m : Machine) (time : ℕ) : Type 0 where
  pub state : m.entry ≤ time
  pub regions : (k : ℕ) → k < 4 → entry_into m.regions k ≤ time

pub first_entered : (initial input : ℕ) → EnteredBy (start initial input) 0
first_entered initial input = record {
  state = omega arith;
  regions = four (λ k. entry_into (start initial input).regions k ≤ 0) (omega arith) (omega arith) (omega arith) (omega arith);
}

pub later : (m : Machine) (time then' : ℕ) → time ≤ then' → EnteredBy m time → EnteredBy m then'
later m time then' l by = record { state = omega (arith, by.state); regions = λ k small. omega (arith, by.regions k small) }

pub entered_after : (t : Table) (m : Machine) (r : Record) → EnteredBy m (time_of r) → EnteredBy (after t m r) (time_of r)
entered_after t m (Change time input) by = record { state = by.state; regions = by.regions }
entered_after t m (Poll time input) by = record { state = by.state; regions = by.regions }
entered_after t m (Test time verdict) by = record { state = by.state; regions = by.regions }
entered_after t m (Tick time state) by = record {
  state = entry_before t m time by.state;
  regions = λ k small. region_before t m time k small (by.regions k small);
}
entered_after t m (End time) by = record { state = by.state; regions = by.regions }

-- So it is at each record of a run that has a number, whatever it is.
pub entered_by : (t : Table) (has : Record → Bool) (number : Machine → ℕ → ℕ) (m : Machine) (rs : List Record) (last : Machine) →
    EnteredBy m m.time → Runs t m rs last → (before : Machine) (time : ℕ) → Has (after t) has number m rs before time → EnteredBy before time
entered_by t has number m [] last by run before time at = absurd at
entered_by t has number m (r ∷ rs) last by (taken, run) before time at =
    let now = later m m.time (time_of r) (step_taken t m r (after t m r) taken).0.in_order by in
    ⊎_elim (λ x. rw (← x.2, ← x.1) now)
    (λ x. entered_by t has number (after t m r) rs last (rw (time_after t m r) (entered_after t m r now)) run before time x) at
