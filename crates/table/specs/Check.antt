-- The table check: docs/RULES.md, "Tables" and "Refusals". Fields in file order, each for 1, then for 2, then for what is in it; 8 last.
-- The check of old tables is the same but for 11 and for timers, which it does not know: `old` says which of the two is meant.
use Rattle.std.specs.Prelude.{List, Bool, true, false, not, ◌&&◌, ◌||◌, ℕ, ◌+◌, ◌*◌, ◌/◌, ◌^◌, length, Option, Some, None, Err, if◌then◌else◌}
use Rattle.wire.specs.Choice.{◌<?◌, ◌≤?◌, ◌=?◌}
use Rattle.wire.specs.Field.{byte_at, number16_at, number32_at, field_at}
use Rattle.wire.specs.declared.Field.{Field}
use Rattle.table.specs.declared.Refusal.{Refusal}
use Rattle.table.specs.declared.Refusal.TheVariants.{RunsOut, WrongTagOrLength, CountOutOfRange, BoundOutOfRange}
use Rattle.table.specs.declared.Refusal.TheVariants.{EntryOutOfRange, HoldTooLong, UnknownInputDelayed, IdleSet}
use Rattle.table.specs.declared.Refusal.TheVariants.{UnknownMember, TimerOutOfRange, BytesAfter}
use Rattle.table.specs.declared.Counts.{Counts}
use Rattle.table.specs.declared.Table.{Table}
use Rattle.table.specs.Table.{largest_bound, longest_hold, most_timers}
use Rattle.table.specs.Answer.{TableAnswer, ◌or_else◌, ◌and_then◌}
use Rattle.table.specs.Entries.{entries_from, filled_to, zeros}

abbrev pub is_between : ℕ → ℕ → ℕ → Bool
is_between low high x = (low ≤? x) && (x ≤? high)

-- ---- A field, and a field of entries

-- 1, then 2: the field that starts at `at` is whole, and has this tag and length.
unfoldable pub expected_field : Option Field → (at tag size : ℕ) → TableAnswer
expected_field None at tag size = Err (RunsOut at)
expected_field (Some found) at tag size = (found.tag =? tag) && (found.size =? size) or_else WrongTagOrLength at

unfoldable pub field_answer : List ℕ → (at tag size : ℕ) → TableAnswer
field_answer s at tag size = expected_field (field_at s at) at tag size

-- First the field, then its n entries in order.
unfoldable pub row_answer : List ℕ → (at tag size : ℕ) → (entry : ℕ → TableAnswer) → (n : ℕ) → TableAnswer
row_answer s at tag size entry n = field_answer s at tag size and_then entries_from entry n 0

-- Entry k of the field that starts at `at`, where each has one byte, and where each has four.
abbrev pub byte_entry : List ℕ → (at k : ℕ) → ℕ
byte_entry s at k = byte_at s (at + 3 + k)

abbrev pub word_entry : List ℕ → (at k : ℕ) → ℕ
word_entry s at k = number32_at s (at + 3 + 4 * k)

-- A field of numbers: where it starts, its tag, how many numbers it has, what each is below, and what one is called that is not.
pub record Row : Type 0 where
  pub at : ℕ
  pub tag : ℕ
  pub entries : ℕ
  pub limit : ℕ
  pub otherwise : (place : ℕ) → Refusal

unfoldable pub below : ℕ → (ℕ → ℕ) → (ℕ → Refusal) → ℕ → TableAnswer
below limit entry otherwise k = entry k <? limit or_else otherwise k

-- Numbers of one byte, and of four.
abbrev pub bytes_answer : List ℕ → Row → TableAnswer
bytes_answer s row =
    row_answer s row.at row.tag row.entries
    (below row.limit (byte_entry s row.at) (λ k. row.otherwise (row.at + 3 + k))) row.entries

abbrev pub words_answer : List ℕ → Row → TableAnswer
words_answer s row =
    row_answer s row.at row.tag (4 * row.entries)
    (below row.limit (word_entry s row.at) (λ k. row.otherwise (row.at + 3 + 4 * k))) row.entries

-- ---- Fields 01 and 02

-- Where each starts; field 03 comes after them.
abbrev pub counts_field : ℕ
counts_field = 0

abbrev pub bound_field : ℕ
bound_field = 7

abbrev pub output_field : ℕ
output_field = 14

abbrev pub counts_in : List ℕ → Counts
counts_in s = record {
  states = byte_entry s counts_field 0;
  inputs = byte_entry s counts_field 1;
  outputs = byte_entry s counts_field 2;
  initial = byte_entry s counts_field 3;
}

abbrev pub counts_in_range : Counts → Bool
counts_in_range c =
    is_between 1 32 c.states && is_between 1 32 c.inputs && is_between 1 32 c.outputs && (c.initial <? c.states)

unfoldable pub counts_answer : List ℕ → TableAnswer
counts_answer s = field_answer s counts_field 0x01 4 and_then counts_in_range (counts_in s) or_else CountOutOfRange counts_field

abbrev pub bound_in : List ℕ → ℕ
bound_in s = word_entry s bound_field 0

unfoldable pub bound_answer : List ℕ → TableAnswer
bound_answer s = field_answer s bound_field 0x02 4 and_then is_between 1 largest_bound (bound_in s) or_else BoundOutOfRange bound_field

-- ---- Fields 03 and 04

abbrev pub next_field : Counts → ℕ
next_field c = output_field + 3 + c.states

abbrev pub output_row : Counts → Row
output_row c = record { at = output_field; tag = 0x03; entries = c.states; limit = c.outputs; otherwise = EntryOutOfRange }

abbrev pub next_row : Counts → Row
next_row c = record { at = next_field c; tag = 0x04; entries = c.states * c.inputs; limit = c.states; otherwise = EntryOutOfRange }

-- ---- Fields 05 and 06, of a table with holds

-- Where they start, and where such a table ends. With timers field 07 starts where field 05 would.
abbrev pub hold_field : Counts → ℕ
hold_field c = next_field c + 3 + c.states * c.inputs

abbrev pub delayed_field : Counts → ℕ
delayed_field c = hold_field c + 3 + 4 * c.states

abbrev pub table_end : Counts → ℕ
table_end c = delayed_field c + 3 + 4 * c.states

abbrev pub hold_row : Counts → Row
hold_row c = record { at = hold_field c; tag = 0x05; entries = c.states; limit = longest_hold + 1; otherwise = HoldTooLong }

-- A delayed set: 7, then 11, since a set on a state that has no hold does nothing.
unfoldable pub set_answer : (old : Bool) → (hold set limit place : ℕ) → TableAnswer
set_answer old hold set limit place =
    set <? limit or_else UnknownInputDelayed place
    and_then old || (0 <? hold) || (set =? 0) or_else IdleSet place

-- The set of a state, with the state's hold, where `holds` and `at` are the places of the two fields.
abbrev pub set_entry : (old : Bool) → List ℕ → (holds at limit state : ℕ) → TableAnswer
set_entry old s holds at limit state = set_answer old (word_entry s holds state) (word_entry s at state) limit (at + 3 + 4 * state)

abbrev pub sets_answer : (old : Bool) → List ℕ → (holds at states limit : ℕ) → TableAnswer
sets_answer old s holds at states limit = row_answer s at 0x06 (4 * states) (set_entry old s holds at limit) states

-- Both, and the bytes after them. A set of inputs below I is a number below 2 ^ I.
unfoldable pub holds_answer : (old : Bool) → Counts → List ℕ → TableAnswer
holds_answer old c s =
    words_answer s (hold_row c)
    and_then sets_answer old s (hold_field c) (delayed_field c) c.states (2 ^ c.inputs)
    and_then length s ≤? table_end c or_else BytesAfter (table_end c)

-- ---- Fields 07 and 08, of a table with timers

-- A timer, a length and a region, which is a set of states: 13 at the length, then 12 at the region.
unfoldable pub timer_answer : (length region limit place : ℕ) → TableAnswer
timer_answer length region limit place =
    is_between 1 longest_hold length or_else TimerOutOfRange place
    and_then region <? limit or_else UnknownMember (place + 4)

abbrev pub timer_entry : List ℕ → (at limit k : ℕ) → TableAnswer
timer_entry s at limit k = timer_answer (word_entry s at (2 * k)) (word_entry s at (2 * k + 1)) limit (at + 3 + 8 * k)

abbrev pub timers_row : List ℕ → (at n limit : ℕ) → TableAnswer
timers_row s at n limit = row_answer s at 0x07 (8 * n) (timer_entry s at limit) n

-- Field 08 after n timers: a set of inputs for each state and timer.
abbrev pub timer_set_field : Counts → (n : ℕ) → ℕ
timer_set_field c n = hold_field c + 3 + 8 * n

abbrev pub timer_set_row : Counts → (at n : ℕ) → Row
timer_set_row c at n = record { at = at; tag = 0x08; entries = c.states * n; limit = 2 ^ c.inputs; otherwise = UnknownMember }

-- Field 08, which starts at `at`, and the bytes after it.
unfoldable pub timer_sets_answer : Counts → (at n : ℕ) → List ℕ → TableAnswer
timer_sets_answer c at n s =
    let end = at + 3 + 4 * (c.states * n) in
    words_answer s (timer_set_row c at n)
    and_then length s ≤? end or_else BytesAfter end

-- Both, with as many timers as field 07 has room for.
unfoldable pub timers_answer : Counts → (n : ℕ) → List ℕ → TableAnswer
timers_answer c n s =
    is_between 1 most_timers n or_else WrongTagOrLength (hold_field c)
    and_then timers_row s (hold_field c) n (2 ^ c.states)
    and_then timer_sets_answer c (timer_set_field c n) n s

-- ---- The whole table

-- The kind of a table goes by the tag of its fifth field. The old rules know one kind.
unfoldable pub tagged : Option Field → Bool
tagged None = false
tagged (Some found) = found.tag =? 0x07

abbrev pub timed : Counts → List ℕ → Bool
timed c s = tagged (field_at s (hold_field c))

abbrev pub claimed_timers : Counts → List ℕ → ℕ
claimed_timers c s = number16_at s (hold_field c + 1) / 8

unfoldable pub timing_answer : (old : Bool) → Counts → List ℕ → TableAnswer
timing_answer old c s = if not old && timed c s then timers_answer c (claimed_timers c s) s else holds_answer old c s

unfoldable pub entries_answer : (old : Bool) → Counts → List ℕ → TableAnswer
entries_answer old c s = bytes_answer s (output_row c) and_then bytes_answer s (next_row c) and_then timing_answer old c s

unfoldable pub answer_by : (old : Bool) → List ℕ → TableAnswer
answer_by old s = counts_answer s and_then bound_answer s and_then entries_answer old (counts_in s) s

abbrev pub table_answer : List ℕ → TableAnswer
table_answer = answer_by false

-- By the old rules, before 11.
abbrev pub old_answer : List ℕ → TableAnswer
old_answer = answer_by true

-- ---- The table as one value

-- How many timers a table that passes has: 0 where it has holds.
unfoldable pub timers_in : Counts → List ℕ → ℕ
timers_in c s = if timed c s then claimed_timers c s else 0

-- The arrays of a table with n timers. Where there are none, all states have a hold of their own.
unfoldable pub table_with : Counts → List ℕ → (n : ℕ) → Table
table_with c s n = record {
  states = c.states;
  inputs = c.inputs;
  outputs = c.outputs;
  initial = c.initial;
  bound = bound_in s;
  output = filled_to (byte_entry s output_field) c.states (zeros 32);
  next = filled_to (byte_entry s (next_field c)) (c.states * c.inputs) (zeros 1024);
  hold = filled_to (word_entry s (hold_field c)) (if n =? 0 then c.states else 0) (zeros 32);
  delayed = filled_to (word_entry s (delayed_field c)) (if n =? 0 then c.states else 0) (zeros 32);
  timers = n;
  timing = filled_to (word_entry s (hold_field c)) (2 * n) (zeros 8);
  sets = filled_to (word_entry s (timer_set_field c n)) (c.states * n) (zeros 128);
}

abbrev pub table_of : Counts → List ℕ → Table
table_of c s = table_with c s (timers_in c s)

-- The table in bytes that pass.
abbrev pub table_in : List ℕ → Table
table_in s = table_of (counts_in s) s
