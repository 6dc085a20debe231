-- The slots of a run that pass a test, from stretch to stretch: up to the next record every slot shows the machine before it.
use Rattle.std.proofs.Common.{◌≡◌, ℕ, zero, suc, ◌+◌, ◌-◌, ◌<◌, ◌≤◌, Bool, true, false, List, [], ◌∷◌, refl, ap, ◌∙◌, add-zero, add-suc, arith}
use Rattle.std.specs.Prelude.{if◌then◌else◌}
use Rattle.table.specs.declared.Table.{Table}
use Rattle.records.specs.declared.Record.{Record}
use Rattle.records.specs.declared.Record.TheVariants.{Change, Poll, Test, Tick, End}
use Rattle.records.specs.Record.{time_of}
use Rattle.machine.specs.declared.Machine.{Machine}
use Rattle.machine.specs.Machine.{start, after}
use Rattle.machine.specs.Run.{Runs, state_from}
use Rattle.machine.proofs.Before.{time_after}
use Rattle.machine.proofs.Counts.{state_from_lem}
use Rattle.runs.specs.Slots.{slot}
use Rattle.runs.proofs.Records.{first_taken}
use Rattle.runs.proofs.Slots.{slot_before, slot-after}
use Rattle.tally.specs.Tally.{slots_before}
use Rattle.tally.specs.Counting.{input_from}

pub input_from_lem : (t : Table) (m : Machine) (r : Record) → (after t m r).input ≡ input_from m.input r
input_from_lem t m (Change time input) = refl
input_from_lem t m (Poll time input) = refl
input_from_lem t m (Test time verdict) = refl
input_from_lem t m (Tick time state) = refl
input_from_lem t m (End time) = refl

-- ---- Slots that are alike

module _ (passes : ℕ → Bool) where
  pub slots_one_more : (k : ℕ) → slots_before (suc k) passes ≡ slots_before k passes + (if passes k then 1 else 0)
  unfolding slots_before
  slots_one_more k = refl

  stretch : (b : Bool) (from d : ℕ) → ((k : ℕ) → from ≤ k → k < from + d → passes k ≡ b) →
      slots_before (from + d) passes ≡ slots_before from passes + (if b then d else 0)
  stretch true from zero same = rw (add-zero from) (omega arith)
  stretch false from zero same = rw (add-zero from) (omega arith)
  stretch true from (suc d) same =
      let rest = stretch true from d (λ k l u. same k l (omega arith)) in
      rw (add-suc from d, slots_one_more, same (from + d) (omega arith) (omega arith)) (omega (arith, rest))
  stretch false from (suc d) same =
      let rest = stretch false from d (λ k l u. same k l (omega arith)) in
      rw (add-suc from d, slots_one_more, same (from + d) (omega arith) (omega arith)) (omega (arith, rest))

-- ---- The same by the records alone

-- The time from `before` on that is spent with a state and an input that pass the test.
unfoldable pub spent : (test : ℕ → ℕ → Bool) (q a before : ℕ) → List Record → ℕ
spent test q a before [] = 0
spent test q a before (r ∷ rs) = (if test q a then time_of r - before else 0) + spent test (state_from q r) (input_from a r) (time_of r) rs

module _ (t : Table) (test : ℕ → ℕ → Bool) (slots : ℕ → Machine) where
  slots_spent : (rs : List Record) (m last : Machine) → Runs t m rs last → ((k : ℕ) → m.time ≤ k → slots k ≡ slot t m rs k) →
      slots_before last.time (λ k. test (slots k).state (slots k).input) ≡
      slots_before m.time (λ k. test (slots k).state (slots k).input) + spent test m.state m.input m.time rs
  unfolding spent
  slots_spent [] m last run shows = rw (← run) (omega arith)
  slots_spent (r ∷ rs) m last run shows =
      let taken = first_taken t m r rs last run in
      let time = time_after t m r in
      let order : m.time ≤ time_of r = taken.in_order in
      let next = slots_spent rs (after t m r) last run.1 (λ k l. shows k (omega arith) ∙ slot-after t k rs r m (omega arith)) in
      let rest = rw (time, state_from_lem t m r (after t m r) run.0, input_from_lem t m r) at next in
      let whole : m.time + (time_of r - m.time) ≡ time_of r = omega arith in
      let alike = stretch (λ k. test (slots k).state (slots k).input) (test m.state m.input) m.time (time_of r - m.time)
      (λ k l u. ap (λ x. test x.state x.input) (shows k l ∙ slot_before t k rs r m m last run (omega arith))) in
      let now = rw whole at alike in
      omega (arith, rest, now)

-- From the start.
pub all_spent : (t : Table) (test : ℕ → ℕ → Bool) (input : ℕ) (rs : List Record) (last : Machine) → Runs t (start t.initial input) rs last →
    slots_before last.time (λ k. test (slot t (start t.initial input) rs k).state (slot t (start t.initial input) rs k).input) ≡
    spent test t.initial input 0 rs
unfolding slots_before
all_spent t test input rs last run =
    let whole = slots_spent t test (slot t (start t.initial input) rs) rs (start t.initial input) last run (λ k l. refl) in
    omega (arith, whole)
