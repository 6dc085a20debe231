-- What is known after one event: helpers of contracts, no rules.
use Rattle.std.specs.Prelude.{Result, Ok, Err}
use Rattle.records.specs.declared.Record.{Record}
use Rattle.records.specs.declared.Refusal.{Refusal}
use Rattle.machine.specs.declared.Machine.{Machine}
use Rattle.machine.specs.Turn.{Turn, onward, over, refused}
use Rattle.events.specs.declared.After.{After}

abbrev pub taken_after : Machine → Record → After
taken_after m r = record { machine = m; taken = r }

-- The machine and the record, whether it was the end or not.
unfoldable pub after_turn : Turn → Result After Refusal
after_turn (onward r m) = Ok (taken_after m r)
after_turn (over r m) = Ok (taken_after m r)
after_turn (refused refusal) = Err refusal
