-- The last entry into a region, by the records alone, is the one that the machine keeps.
use mathlib.Core.Path.{◌≡◌, refl}
use mathlib.Core.Logic.{⊎_elim}
use mathlib.Core.List.{List, [], ◌∷◌}
use Prim.Native.Nat.{ℕ, ◌<◌}
use borrow.Author.Tests.{le-leb, lt-leb, eqb-true}
use Rattle.std.proofs.lemmas.Bool.{cases_lt}
use Rattle.table.specs.declared.Table.{Table}
use Rattle.table.specs.Table.{in_region}
use Rattle.machine.specs.declared.Machine.{Machine}
use Rattle.records.specs.declared.Record.{Record}
use Rattle.records.specs.declared.Record.TheVariants.{Change, Poll, Test, Tick, End}
use Rattle.records.specs.Record.{time_of}
use Rattle.machine.specs.Machine.{entry_into, state_after, after, entered}
use Rattle.machine.specs.Run.{Runs}
use Rattle.machine.proofs.Steps.{Taken}
use Rattle.machine.proofs.Watches.{region_after}
use Rattle.machine.proofs.Counts.{state_from_lem}
use Rattle.runs.specs.Slots.{slot, entry_from, last_entry, KeepsEntries}
use Rattle.runs.proofs.Records.{not_both, first_entry, first_taken}
use Rattle.runs.proofs.Slots.{slot_before, slot-after}

module _ (t : Table) (k : ℕ) (small : k < 4) where
  entry_after : (m : Machine) (r : Record) → Taken t m r → entry_into (after t m r).regions k ≡ entry_from t k m.state (entry_into m.regions k) r
  unfolding entered
  entry_after m (Change time input) takes = rw (not_both (in_region t k m.state))
  entry_after m (Poll time input) takes = rw (not_both (in_region t k m.state))
  entry_after m (Test time verdict) takes = rw (not_both (in_region t k m.state))
  entry_after m (Tick time state) takes = rw (eqb-true state (state_after t m) takes.agreed) (region_after t m time k small)
  entry_after m (End time) takes = rw (not_both (in_region t k m.state))

  entry_shown : (f : ℕ) (rs : List Record) (m last : Machine) → Runs t m rs last →
      entry_into (slot t m rs f).regions k ≡ last_entry t k f m.state (entry_into m.regions k) rs
  unfolding last_entry
  entry_shown f [] m last run = unfold slot in refl
  entry_shown f (r ∷ rs) m last run =
      let rest = entry_shown f rs (after t m r) last run.1 in
      let named = rw (state_from_lem t m r (after t m r) run.0, entry_after m r (first_taken t m r rs last run)) at rest in
      ⊎_elim
      (λ past. rw (slot_before t f rs r m m last run past, lt-leb (time_of r) f past))
      (λ now. rw (slot-after t f rs r m now, le-leb (time_of r) f now) named)
      (cases_lt f (time_of r))

pub keeps_entries : (t : Table) → KeepsEntries t
keeps_entries t input rs T accepted k f small = rw (first_entry k small) at (entry_shown t k small f rs _ accepted.last accepted.runs)
