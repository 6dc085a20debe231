-- One event more, from rows that are lent: what each way out of the code answers.
use mathlib.Core.Path.{◌≡◌, refl, sym, ap, ◌∙◌, fun_ext}
use mathlib.Core.List.{List}
use Prim.Native.Nat.{ℕ}
use Rattle.std.specs.Prelude.{Result, Ok, Err}
use Rattle.table.specs.declared.Table.{Table}
use Rattle.records.specs.declared.Record.{Record}
use Rattle.records.specs.declared.Record.TheVariants.{Change, Poll, Test, Tick, End}
use Rattle.records.specs.declared.Refusal.{Refusal}
use Rattle.records.specs.Form.{stimulus}
use Rattle.records.specs.Reading.{Read, in_range, record_at}
use Rattle.machine.specs.declared.Machine.{Machine}
use Rattle.machine.specs.Step.{Step}
use Rattle.machine.specs.Machine.{step}
use Rattle.machine.specs.Walk.{in_table, filled}
use Rattle.machine.specs.Turn.{turned, turn, turn_at}
use Rattle.events.specs.declared.After.{After}
use Rattle.events.specs.After.{after_turn}
use Rattle.events.proofs.OneMore.{unread}

-- An event says no state: read where there is none, it is what it is under any table.
any_states : (states inputs : ℕ) (r : Record) → in_range stimulus 0 inputs r ≡ in_range stimulus states inputs r
any_states states inputs (Change time input) = refl
any_states states inputs (Poll time input) = refl
any_states states inputs (Test time verdict) = refl
any_states states inputs (Tick time state) = refl
any_states states inputs (End time) = refl

module _ (t : Table) (m : Machine) (s : List ℕ) (at inputs : ℕ) (same : t.inputs ≡ inputs) {found : Read}
    (is : found ≡ record_at stimulus (in_range stimulus 0 inputs) m.time s at) where
  read_is : found ≡ record_at stimulus (in_table stimulus t) m.time s at
  read_is = is ∙ ap (λ allows. record_at stimulus allows m.time s at) (fun_ext (any_states t.states inputs) ∙ ap (in_range stimulus t.states) (sym same))

  pub not_read : {y : Refusal} → found ≡ Err y → Err y ≡ after_turn (turn_at stimulus t m s at)
  not_read = unread t m s at read_is

  -- The event, and the record that the machine makes of it.
  module _ {event : Record} (read : found ≡ Ok event) (kind own : Record) (of_kind : event ≡ kind) (fills : own ≡ filled t m kind) (a : Step)
      (stepped : a ≡ step t m own) where
    turn_is : turned own a ≡ turn_at stimulus t m s at
    unfolding turn
    turn_is =
        ap (turned own) stepped
        ∙ ap (λ x. turned x (step t m x)) (fills ∙ ap (filled t m) (sym of_kind))
        ∙ ap (turn stimulus t m) (sym read ∙ read_is)

    pub went_on : {x : Result After Refusal} → x ≡ after_turn (turned own a) → x ≡ after_turn (turn_at stimulus t m s at)
    went_on h = h ∙ ap after_turn turn_is
