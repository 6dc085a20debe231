-- What the longest cycle means, as specs/Longest states it.
use mathlib.Core.Path.{◌≡◌, refl, sym}
use mathlib.Core.List.{List, [], ◌∷◌}
use Prim.Native.Nat.{ℕ, ◌≤◌, max}
use native.Mathlib.Omega.{arith}
use Rattle.table.specs.declared.Table.{Table}
use Rattle.records.specs.declared.Record.{Record}
use Rattle.records.specs.declared.Record.TheVariants.{Change, Poll, Test, Tick, End}
use Rattle.records.specs.Record.{is_tick}
use Rattle.machine.specs.declared.Machine.{Machine}
use Rattle.machine.specs.Machine.{start, after}
use Rattle.machine.specs.Most.{number_of_record, most}
use Rattle.machine.specs.Run.{Runs, start_from, cycle_length}
use Rattle.machine.specs.Longest.{LongestOfRunIsCycle}
use Rattle.machine.proofs.Steps.{Taken, step_taken}
use Rattle.machine.proofs.Most.{is_most}

-- What a record completes, by the records alone and by the machine.
abbrev completes : ℕ → Record → ℕ
completes begun r = number_of_record start_from is_tick cycle_length begun r

abbrev longest_from : ℕ → List Record → ℕ
longest_from begun rs = most start_from is_tick cycle_length begun rs

module _ (t : Table) (m : Machine) where
  starts : (r : Record) → (after t m r).start ≡ start_from m.start r
  starts (Change time input) = refl
  starts (Poll time input) = refl
  starts (Test time verdict) = refl
  starts (Tick time state) = refl
  starts (End time) = refl

  longer : (r : Record) → (after t m r).longest ≡ max m.longest (completes m.start r)
  longer (Change time input) = omega arith
  longer (Poll time input) = omega arith
  longer (Test time verdict) = omega arith
  longer (Tick time state) = refl
  longer (End time) = omega arith

  in_cycle : (r : Record) → Taken t m r → completes m.start r ≤ t.bound
  in_cycle (Change time input) taken = omega arith
  in_cycle (Poll time input) taken = omega arith
  in_cycle (Test time verdict) taken = omega arith
  in_cycle (Tick time state) taken = omega (arith, taken.in_cycle)
  in_cycle (End time) taken = omega arith

module _ (t : Table) where
  longest_is : (m last : Machine) (rs : List Record) → Runs t m rs last → last.longest ≡ max m.longest (longest_from m.start rs)
  unfolding most
  longest_is m last [] same = rw (sym same) (omega arith)
  longest_is m last (r ∷ rs) (taken, more) =
      let rest = rw (starts t m r) at (longest_is (after t m r) last rs more) in
      omega (arith, rest, longer t m r)

  all_in_cycle : (m last : Machine) (rs : List Record) → Runs t m rs last → longest_from m.start rs ≤ t.bound
  unfolding most
  all_in_cycle m last [] same = omega arith
  all_in_cycle m last (r ∷ rs) (taken, more) =
      let rest = rw (starts t m r) at (all_in_cycle (after t m r) last rs more) in
      omega (arith, rest, in_cycle t m r (step_taken t m r (after t m r) taken).0)

pub longest_is_cycle : LongestOfRunIsCycle
longest_is_cycle t initial input rs last runs =
    let is : last.longest ≡ longest_from 0 rs = omega (arith, longest_is t (start initial input) last rs runs) in
    rw is (record { in_bound = all_in_cycle t (start initial input) last rs runs; most = is_most start_from is_tick cycle_length 0 rs })
