-- Arrays filled from bytes that passed make the table.
use mathlib.Core.Path.{◌≡◌, refl}
use mathlib.Core.List.{List}
use Prim.Native.Nat.{ℕ, ◌*◌}
use Rattle.std.specs.Prelude.{if◌then◌else◌}
use Rattle.wire.specs.Choice.{◌=?◌}
use Rattle.table.specs.declared.Counts.{Counts}
use Rattle.table.specs.declared.Places.{Places}
use Rattle.table.specs.declared.Table.{Table}
use Rattle.table.specs.Entries.{filled_to, zeros}
use Rattle.table.specs.Check.{byte_entry, word_entry, counts_in, output_field, bound_in, timer_set_field, timers_in, table_with, table_in}
use Rattle.table.specs.Inner.{PlacesOf}
use Rattle.table.specs.Table.{timed_with}

pub table_made : (t : Table) (s : List ℕ) (c : Counts) (p : Places) → c ≡ counts_in s → PlacesOf c p → (holders sets_at : ℕ) →
    t.states ≡ c.states → t.inputs ≡ c.inputs → t.outputs ≡ c.outputs → t.initial ≡ c.initial → t.bound ≡ bound_in s →
    t.timers ≡ timers_in c s → holders ≡ (if t.timers =? 0 then c.states else 0) → sets_at ≡ timer_set_field c t.timers →
    t.output ≡ filled_to (byte_entry s output_field) c.states (zeros 32) →
    t.next ≡ filled_to (byte_entry s p.next) p.pairs (zeros 1024) →
    t.hold ≡ filled_to (word_entry s p.hold) holders (zeros 32) →
    t.delayed ≡ filled_to (word_entry s p.delayed) holders (zeros 32) →
    t.timing ≡ filled_to (word_entry s p.hold) (2 * t.timers) (zeros 8) →
    t.sets ≡ filled_to (word_entry s sets_at) (c.states * t.timers) (zeros 128) → t ≡ table_in s
unfolding table_with
table_made t s c p counts places holders sets_at states inputs outputs initial b ts hs at o n h d l w =
    let each : timed_with t t.hold t.delayed t.timers t.timing t.sets ≡ table_in s =
    rw (states, inputs, outputs, initial, b, o, n, h, d, l, w, hs, at, ts, places.next, places.pairs, places.hold, places.delayed, counts) refl
    in
    each
