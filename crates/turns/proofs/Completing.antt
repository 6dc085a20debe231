-- A record with its value named by itself or by the machine, counted and taken.
use mathlib.Core.Path.{◌≡◌, refl, sym, ap, ◌∙◌}
use mathlib.Core.Bool.{Bool, true, false}
use Prim.Native.Nat.{ℕ}
use Rattle.std.specs.Prelude.{if◌then◌else◌, Result}
use Rattle.table.specs.declared.Table.{Table}
use Rattle.records.specs.declared.Record.{Record}
use Rattle.records.specs.declared.Record.TheVariants.{Change, Poll, Test, Tick, End}
use Rattle.records.specs.declared.Refusal.{Refusal}
use Rattle.records.specs.Form.{Form}
use Rattle.machine.specs.declared.Machine.{Machine}
use Rattle.machine.specs.Step.{Step}
use Rattle.machine.specs.Machine.{verdict, state_after, step}
use Rattle.machine.specs.Walk.{filled}
use Rattle.turns.specs.declared.Progress.{Progress}
use Rattle.turns.specs.Progress.{progress_with}
use Rattle.turns.specs.declared.Turned.{Turned}
use Rattle.turns.specs.Turns.{left_at, went_to, turn_to, turn_of}

-- What a record that is not said in full is filled with.
unfoldable pub completed_by : Bool → Table → Machine → Record → Record
completed_by b t m r = if b then r else filled t m r

module _ (t : Table) (m : Machine) (time : ℕ) where
  pub change_complete : (b : Bool) (input : ℕ) → completed_by b t m (Change time input) ≡ Change time input
  unfolding completed_by filled
  change_complete true input = refl
  change_complete false input = refl

  pub end_complete : (b : Bool) → completed_by b t m (End time) ≡ End time
  unfolding completed_by filled
  end_complete true = refl
  end_complete false = refl

  polls : (b : Bool) (said : ℕ) → completed_by b t m (Poll time said) ≡ Poll time (if b then said else m.input)
  unfolding completed_by filled
  polls true said = refl
  polls false said = refl

  tests : (b : Bool) (said : ℕ) → completed_by b t m (Test time said) ≡ Test time (if b then said else verdict t m time)
  unfolding completed_by filled
  tests true said = refl
  tests false said = refl

  ticks : (b : Bool) (said : ℕ) → completed_by b t m (Tick time said) ≡ Tick time (if b then said else state_after t m)
  unfolding completed_by filled
  ticks true said = refl
  ticks false said = refl

  module _ (b : Bool) (said own value : ℕ) (names : value ≡ (if b then said else own)) where
    pub poll_complete : own ≡ m.input → completed_by b t m (Poll time said) ≡ Poll time value
    poll_complete is = rw (names, is) (polls b said)

    pub test_complete : own ≡ verdict t m time → completed_by b t m (Test time said) ≡ Test time value
    test_complete is = rw (names, is) (tests b said)

    pub tick_complete : own ≡ state_after t m → completed_by b t m (Tick time said) ≡ Tick time value
    tick_complete is = rw (names, is) (ticks b said)

module _ (F : Form) (t : Table) (p : Progress) (r : Record) (kind : Record) (whole : completed_by F.valued t p.machine r ≡ kind) where
  pub turns : (counted : Progress) → counted ≡ progress_with t p kind → (left : ℕ) → left ≡ left_at t p.machine kind → (a : Step) →
      a ≡ step t p.machine kind → {x : Result Turned Refusal} → x ≡ went_to counted kind left a → x ≡ turn_of F t p r
  unfolding turn_of completed_by
  turns counted counts left is a steps e = e ∙ rw (counts, is, steps) (ap (turn_to t p) (sym whole))
