-- A run has at most T moves: a tick comes later than the start of its cycle, since a poll of that cycle came before it.
use Rattle.std.proofs.Common.{◌≡◌, ℕ, ◌+◌, ◌<◌, ◌≤◌, Bool, true, false, List, [], ◌∷◌, refl, ap, ⊎_elim, arith, ltb-true, eq-eqb}
use Rattle.std.specs.Prelude.{if◌then◌else◌}
use Rattle.wire.specs.Choice.{◌<?◌, ◌=?◌}
use Rattle.wire.proofs.Choice.{both}
use Rattle.table.specs.declared.Table.{Table}
use Rattle.records.specs.declared.Record.{Record}
use Rattle.records.specs.declared.Record.TheVariants.{Change, Poll, Test, Tick, End}
use Rattle.machine.specs.declared.Machine.{Machine}
use Rattle.machine.specs.Machine.{start, after}
use Rattle.machine.specs.Run.{Runs, moves, moves_from}
use Rattle.machine.proofs.Counts.{state_from_lem}
use Rattle.machine.proofs.Steps.{Taken}
use Rattle.runs.proofs.Records.{phases, first_taken}

-- The cycle has begun, and past its poll some time of it is over.
record Polled (m : Machine) : Type 0 where
  begun : m.start ≤ m.time
  polled : 0 < m.phase → m.start < m.time

stays : (q : ℕ) → (if q =? q then 0 else 1) ≤ 0
stays q = rw (eq-eqb q q refl) (omega arith)

at_most_one : (b : Bool) → (if b then 0 else 1) ≤ 1
at_most_one true = omega arith
at_most_one false = omega arith

module _ (t : Table) (m : Machine) where
  onward : (r : Record) → Taken t m r → Polled m → Polled (after t m r) × (moves m.state r + m.start ≤ (after t m r).start)
  onward (Change time input) taken p =
      let order = taken.in_order in
      (record { begun = omega (arith, p.begun); polled = λ l. omega (arith, p.polled l) }, omega (arith, stays m.state))
  onward (Poll time input) taken p =
      let order = taken.in_order in
      let later : m.start < time = ltb-true _ _ (both (m.change <? time) (m.start <? time) taken.is_settled).1 in
      (record { begun = omega arith; polled = λ l. later }, omega (arith, stays m.state))
  onward (Test time verdict) taken p =
      let order = taken.in_order in
      let one : m.phase ≡ 1 = (phases m.phase).test taken.in_phase in
      let later = p.polled (omega arith) in
      (record { begun = omega arith; polled = λ l. omega arith }, omega (arith, stays m.state))
  onward (Tick time state) taken p =
      let order = taken.in_order in
      let some : 0 < m.phase = ⊎_elim (λ e. omega arith) (λ e. omega arith) ((phases m.phase).tick taken.in_phase) in
      let later = p.polled some in
      (record { begun = omega arith; polled = λ l. absurd (omega arith) }, omega (arith, at_most_one (state =? m.state)))
  onward (End time) taken p =
      let order = taken.in_order in
      (record { begun = omega (arith, p.begun); polled = λ l. omega (arith, p.polled l) }, omega (arith, stays m.state))

module _ (t : Table) where
  moves_from_lem : (rs : List Record) (m last : Machine) → Polled m → Runs t m rs last → moves_from m.state rs + m.start ≤ last.time
  unfolding moves_from
  moves_from_lem [] m last p run = omega (arith, p.begun, ap (λ (x : Machine). x.time) run)
  moves_from_lem (r ∷ rs) m last p run =
      let next = onward t m r (first_taken t m r rs last run) p in
      let rest = rw (state_from_lem t m r (after t m r) run.0) at (moves_from_lem rs (after t m r) last next.0 run.1) in
      omega (arith, rest, next.1)

  pub moves_in_time : (input : ℕ) (rs : List Record) (last : Machine) → Runs t (start t.initial input) rs last → moves_from t.initial rs ≤ last.time
  moves_in_time input rs last run =
      let first : Polled (start t.initial input) = record { begun = omega arith; polled = λ l. absurd (omega arith) } in
      omega (arith, moves_from_lem rs (start t.initial input) last first run)
