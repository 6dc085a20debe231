-- What holds of salvage as a whole; proofs/Salvages proves each.
use Rattle.std.specs.Prelude.{◌≡◌, List, [], ◌∷◌, true, ◌⊎◌, ℕ, ◌+◌, ◌<◌, ◌≤◌, length, take, drop, if◌then◌else◌, Ok, Err}
use Rattle.wire.specs.Choice.{◌=?◌}
use Rattle.wire.specs.Encode.{Bytes, bytes32, field}
use Rattle.wire.specs.Made.{answer_in, buffer_in}
use Rattle.table.specs.declared.Table.{Table}
use Rattle.table.specs.Check.{table_answer, table_in}
use Rattle.records.specs.declared.Refusal.{Refusal}
use Rattle.records.specs.Record.{time_of, is_tick}
use Rattle.records.specs.Refusal.{number_of, stopped}
use Rattle.records.specs.Form.{journal, longest_journal}
use Rattle.records.specs.Reading.{opening_of, size_of, Items, item, done, broken, items_of}
use Rattle.machine.specs.declared.Machine.{Machine}
use Rattle.machine.specs.Machine.{start, after, step}
use Rattle.machine.specs.Walk.{in_table}
use Rattle.journal.specs.declared.Numbers.{Numbers}
use Rattle.journal.specs.declared.Refusal.TheVariants as checked
use Rattle.journal.specs.Check.{check_of}
use Rattle.salvage.specs.declared.Refusal.TheVariants.{BufferTooShort}
use Rattle.salvage.specs.Answer.{SalvageAnswer}
use Rattle.salvage.specs.Salvage.{last_cut, salvaged, salvage_of}

-- ---- Ticks before the first refusal

-- Among the records that the machine takes from m on is a tick with this time that ends at this byte.
abbrev pub TakesTick : Table → Machine → Items → (time ends : ℕ) → Type 0
TakesTick t m (item place r rest) time ends =
    (step t m r ≡ Ok (after t m r))
    × (((is_tick r ≡ true) × (time_of r ≡ time) × (place + size_of journal r ≡ ends)) ⊎ TakesTick t (after t m r) rest time ends)
TakesTick t m done time ends = ⊥
TakesTick t m (broken refusal place) time ends = ⊥

-- In these bytes under this table.
abbrev pub SoundTick : Table → List ℕ → (time ends : ℕ) → Type 0
SoundTick t s time ends = (input : ℕ) × (opening_of journal t.inputs s ≡ Ok input)
    × TakesTick t (start t.initial input) (items_of journal (in_table journal t) s) time ends

-- ---- What is made of a journal

-- The answer on a table and a journal with a lent buffer.
abbrev pub salvage_answer : (table s buffer : List ℕ) → SalvageAnswer
salvage_answer table s buffer = answer_in (Err BufferTooShort) (salvage_of table s) (length buffer)

-- How many bytes are written: those kept and, where something was refused, the seven of an end field.
abbrev pub result_size : (kept number : ℕ) → ℕ
result_size kept number = if number =? 0 then kept else kept + 7

-- What then stands at the start of the buffer.
abbrev pub result_in : (table s buffer : List ℕ) (kept number : ℕ) → List ℕ
result_in table s buffer kept number = take (result_size kept number) (buffer_in (salvage_of table s) buffer)

-- An accepted journal comes back unchanged, and the report says its length, 0, 0 and 0.
pub record Unchanged (table s : List ℕ) (kept dropped number place : ℕ) (result : List ℕ) : Type 0 where
  pub numbers : Numbers
  pub accepted : check_of table s ≡ Ok numbers
  pub is : result ≡ s
  pub report : (kept ≡ length s) × (dropped ≡ 0) × (number ≡ 0) × (place ≡ 0)

-- Of any other the report says what the journal check refuses where. What is kept ends with a tick that ends at or before byte 65,529, or
-- with the opening field; after it comes an end field with that tick's time, or 0. No such tick is lost.
pub record Closed (table s : List ℕ) (kept number place : ℕ) (result : List ℕ) : Type 0 where
  pub refusal : Refusal
  pub refused : check_of table s ≡ Err (checked.Record (stopped refusal place))
  pub number_is : number ≡ number_of refusal
  pub time : ℕ
  pub ends : drop kept result ≡ field 0x1F (bytes32 time)
  pub last : ((kept ≡ 4) × (time ≡ 0)) ⊎ ((kept ≤ last_cut) × SoundTick (table_in table) s time kept)
  pub none_lost : (time' ends' : ℕ) → SoundTick (table_in table) s time' ends' → ends' ≤ last_cut → ends' ≤ kept

-- With room for it the result comes back unchanged, and the report says its length, 0, 0 and 0.
abbrev pub ComesBack : (table result : List ℕ) → Type 0
ComesBack table result = (buffer : List ℕ) → length result ≤ length buffer →
    (salvage_answer table result buffer ≡ salvaged (length result) 0 0 0) × (result_in table result buffer (length result) 0 ≡ result)

pub record Sound (table s : List ℕ) (kept dropped number place : ℕ) (result : List ℕ) : Type 0 where
  -- The journal check accepts the result under the same table.
  pub numbers : Numbers
  pub accepted : check_of table result ≡ Ok numbers
  -- What is kept is a beginning of the input, and the rest of it is dropped.
  pub beginning : take kept result ≡ take kept s
  pub counted : kept + dropped ≡ length s
  -- The one or the other was made.
  pub made : Unchanged table s kept dropped number place result ⊎ Closed table s kept number place result
  -- Salvaging twice changes nothing.
  pub again : ComesBack table result

-- Whenever it succeeds.
abbrev pub SalvagesSoundly : Type 0
SalvagesSoundly = (table s buffer : List ℕ) → Bytes s → (kept dropped number place : ℕ) → salvage_answer table s buffer ≡ salvaged kept dropped number place →
    Sound table s kept dropped number place (result_in table s buffer kept number)

-- ---- When it succeeds

-- The table passes, the journal is not too long, and it begins with an opening field that names an input of the table.
pub record Salvageable (table s : List ℕ) : Type 0 where
  pub passes : table_answer table ≡ Ok tt
  pub short : length s ≤ longest_journal
  pub input : ℕ
  pub known : input < (table_in table).inputs
  pub opens : take 4 s ≡ field 0x10 (input ∷ [])

-- It succeeds with this buffer.
abbrev pub Succeeds : (table s buffer : List ℕ) → Type 0
Succeeds table s buffer = (kept : ℕ) × (dropped : ℕ) × (number : ℕ) × (place : ℕ) × (salvage_answer table s buffer ≡ salvaged kept dropped number place)

-- There is one report: it comes with every buffer that has a byte for each that it says is written, and with any other comes 30.
pub record GoesByRoom (table s : List ℕ) : Type 0 where
  pub kept : ℕ
  pub dropped : ℕ
  pub number : ℕ
  pub place : ℕ
  pub with_room : (buffer : List ℕ) → result_size kept number ≤ length buffer → salvage_answer table s buffer ≡ salvaged kept dropped number place
  pub without : (buffer : List ℕ) → length buffer < result_size kept number → salvage_answer table s buffer ≡ Err BufferTooShort

-- What can be salvaged succeeds by the room alone, and nothing else does.
abbrev pub SalvagesExactly : Type 0
SalvagesExactly = (table s : List ℕ) → Bytes s →
    (Salvageable table s → GoesByRoom table s) × ((buffer : List ℕ) → Succeeds table s buffer → Salvageable table s)

-- So much room is enough for every journal that can be salvaged, and under every table that passes there is one for which less is not.
pub record LeastRoom (room : ℕ) : Type 0 where
  pub enough : (table s buffer : List ℕ) → Bytes s → Salvageable table s → room ≤ length buffer → Succeeds table s buffer
  pub no_less : (table : List ℕ) → table_answer table ≡ Ok tt →
      (s : List ℕ) × Bytes s × Salvageable table s × ((buffer : List ℕ) → length buffer < room → salvage_answer table s buffer ≡ Err BufferTooShort)

-- It is the length of the longest journal that can be accepted: 4 + 8 × 8,190 + 7.
abbrev pub SalvageRoom : Type 0
SalvageRoom = LeastRoom 65531
