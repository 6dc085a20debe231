-- One event more: what each way out of the code answers.
use mathlib.Core.Path.{◌≡◌, refl, sym, ap, ◌∙◌}
use mathlib.Core.List.{List}
use mathlib.Core.Bool.{Bool, true, false}
use Prim.Native.Nat.{ℕ}
use Rattle.std.specs.Prelude.{if◌then◌else◌, Result, Ok, Err}
use Rattle.std.specs.Result.{IsErrAnd}
use Rattle.table.specs.declared.Table.{Table}
use Rattle.records.specs.declared.Record.{Record}
use Rattle.records.specs.declared.Refusal.{Refusal}
use Rattle.records.specs.Record.{is_end}
use Rattle.records.specs.Form.{stimulus}
use Rattle.records.specs.Reading.{Read, record_at}
use Rattle.machine.specs.declared.Machine.{Machine}
use Rattle.machine.specs.Walk.{in_table}
use Rattle.machine.specs.Turn.{onward, over, turned, turn, turn_at}
use Rattle.turns.specs.declared.Progress.{Progress}
use Rattle.turns.specs.declared.Turned.{Turned}
use Rattle.turns.specs.Turns.{turn_of}
use Rattle.turns.proofs.Turning.{turn_refused, turn_taken}
use Rattle.events.specs.declared.After.{After}
use Rattle.events.specs.After.{taken_after, after_turn}

abbrev none_counted : Machine → Progress
none_counted m = record { machine = m; ticks = 0; moves = 0; left = 0 }

pub either_way : (r : Record) (m : Machine) → Ok (taken_after m r) ≡ after_turn (turned r (Ok m))
unfolding after_turn
either_way r m = go (is_end r)
  where
    go : (b : Bool) → Ok (taken_after m r) ≡ after_turn (if b then over r m else onward r m)
    go true = refl
    go false = refl

module _ (t : Table) (m : Machine) (s : List ℕ) (at : ℕ) {found : Read} (is : found ≡ record_at stimulus (in_table stimulus t) m.time s at) where
  pub unread : {y : Refusal} → found ≡ Err y → Err y ≡ after_turn (turn_at stimulus t m s at)
  unfolding turn after_turn
  unread e = rw (sym is ∙ e) refl

  module _ {event : Record} (read : found ≡ Ok event) {answer : Result Turned Refusal} (owed : answer ≡ turn_of stimulus t (none_counted m) event) where
    turn_is : turn_at stimulus t m s at ≡ turn stimulus t m (Ok event)
    turn_is = ap (turn stimulus t m) (sym is ∙ read)

    -- What `?` hands up.
    pub turned_down : {y : Refusal} → answer ≡ Err y → (a : Result After Refusal) → IsErrAnd a (λ z. z ≡ y) → a ≡ after_turn (turn_at stimulus t m s at)
    unfolding after_turn
    turned_down {y} e (Ok x) h = absurd h
    turned_down {y} e (Err z) h = rw (turn_is, turn_refused stimulus t (none_counted m) event (sym owed ∙ e)) (ap Err h)

    pub taken : {x : Turned} → answer ≡ Ok x → Ok (taken_after x.progress.machine x.taken) ≡ after_turn (turn_at stimulus t m s at)
    taken {x} e =
        either_way x.taken x.progress.machine
        ∙ ap after_turn (sym (turn_taken stimulus t (none_counted m) event (sym owed ∙ e)).turn_is ∙ sym turn_is)
