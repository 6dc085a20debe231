-- The records of a run are at most a cycle apart, as specs/Gaps states it; so a form that tells such gaps holds them.
use mathlib.Core.Path.{◌≡◌}
use mathlib.Core.List.{List, [], ◌∷◌, ◌++◌}
use mathlib.Core.Bool.{Bool, true}
use Prim.Native.Nat.{ℕ, ◌+◌, ◌<◌, ◌≤◌}
use native.Mathlib.Omega.{arith}
use Rattle.table.specs.declared.Table.{Table}
use Rattle.records.specs.declared.Record.{Record}
use Rattle.records.specs.declared.Record.TheVariants.{Change, Poll, Test, Tick, End}
use Rattle.records.specs.Record.{time_of, latest}
use Rattle.records.specs.Form.{Form, clock, numbers_below}
use Rattle.records.specs.Encode.{WritableRecord, Inner}
use Rattle.records.proofs.Says.{all_kept}
use Rattle.machine.specs.declared.Machine.{Machine}
use Rattle.machine.specs.Machine.{start, after}
use Rattle.machine.specs.Run.{Runs}
use Rattle.machine.proofs.Steps.{step_taken}
use Rattle.machine.proofs.Before.{time_after}
use Rattle.machine.specs.Gaps.{Spaced, GapsWithinBound}

started : (t : Table) (m : Machine) (r : Record) → m.start ≤ time_of r → (after t m r).start ≤ time_of r
started t m (Change time input) h = h
started t m (Poll time input) h = h
started t m (Test time verdict) h = h
started t m (Tick time state) h = omega arith
started t m (End time) h = h

gaps_from : (t : Table) (m : Machine) → m.start ≤ m.time → (rs : List Record) (last : Machine) → Runs t m rs last → Spaced t.bound m.time rs
gaps_from t m by [] last h = tt
gaps_from t m by (r ∷ rs) last (steps, more) =
    let taken = (step_taken t m r (after t m r) steps).0 in
    let by' = started t m r (omega (arith, taken.in_order)) in
    let now = time_after t m r in
    (taken.in_order, omega (arith, taken.in_cycle), rw now at (gaps_from t (after t m r) (rw now by') rs last more))

pub gaps_within_bound : GapsWithinBound
gaps_within_bound t input rs last runs = gaps_from t (start t.initial input) (omega arith) rs last runs

-- ---- Records in another form

-- A form that says every value, and tells a time that is less than 65,536 later than the time before and not too late.
pub record TellsGaps (F : Form) : Type 0 where
  pub valued : F.valued ≡ true
  pub small : (before time : ℕ) → before ≤ time → time < before + clock → time ≤ latest → F.number_for before time < numbers_below F.width
  pub timed : (before time : ℕ) → before ≤ time → time < before + clock → F.time_from before (F.number_for before time) ≡ time

-- The same records can be written in it, if what was allowed still is.
module _ (F G : Form) (tells : TellsGaps G) (allows allows' : Record → Bool) (timely : (r : Record) → allows r ≡ true → time_of r ≤ latest)
    (still : (r : Record) → allows r ≡ true → allows' r ≡ true) (most : ℕ) (few : most < clock) where
  writable : (before : ℕ) (r : Record) → WritableRecord F allows before r → before ≤ time_of r → time_of r ≤ before + most → WritableRecord G allows' before r
  writable before r w low high = record {
    in_range = still r w.in_range;
    whole = all_kept G tells.valued r;
    small = tells.small before (time_of r) low (omega arith) (timely r w.in_range);
    timed = tells.timed before (time_of r) low (omega arith);
  }

  pub inner_restated : (before : ℕ) (rs : List Record) (end : ℕ) → Inner F allows before rs end → Spaced most before (rs ++ End end ∷ []) → Inner G allows' before rs end
  inner_restated before [] end w (low, high, rest) = writable before (End end) w low high
  inner_restated before (r ∷ rs) end (other, w, more) (low, high, rest) =
      (other, writable before r w low high, inner_restated (time_of r) rs end more rest)
