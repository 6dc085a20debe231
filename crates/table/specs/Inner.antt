-- What the inner functions of the table check are told and find, which go by places and tags: a helper of contracts, no rule.
use Rattle.std.specs.Prelude.{◌≡◌, List, ℕ, ◌*◌, ◌<◌, ◌≤◌, if◌then◌else◌}
use Rattle.wire.specs.Choice.{◌=?◌}
use Rattle.table.specs.declared.Refusal.{Refusal}
use Rattle.table.specs.declared.Refusal.TheVariants.{EntryOutOfRange, HoldTooLong, UnknownMember}
use Rattle.table.specs.declared.Counts.{Counts}
use Rattle.table.specs.declared.Places.{Places}
use Rattle.table.specs.Check.{Row, word_entry, next_field, hold_field, delayed_field, table_end}

-- Where the fields start, by the counts of field 01.
pub record PlacesOf (c : Counts) (p : Places) : Type 0 where
  pub pairs : p.pairs ≡ c.states * c.inputs
  pub few : p.pairs ≤ 1024
  pub next : p.next ≡ next_field c
  pub hold : p.hold ≡ hold_field c
  pub delayed : p.delayed ≡ delayed_field c
  pub end : p.end ≡ table_end c

-- A field of bytes; and one of words, which is 05 or 08.
abbrev pub byte_row : (at tag n limit : ℕ) → Row
byte_row at tag n limit = record { at = at; tag = tag; entries = n; limit = limit; otherwise = EntryOutOfRange }

unfoldable pub bad_word : (tag place : ℕ) → Refusal
bad_word tag place = if tag =? 0x05 then HoldTooLong place else UnknownMember place

abbrev pub word_row : (at tag n limit : ℕ) → Row
word_row at tag n limit = record { at = at; tag = tag; entries = n; limit = limit; otherwise = bad_word tag }

-- The set of a state whose hold is 0, where `holds` and `at` are the places of the two fields; else the empty set.
abbrev pub idle_set : List ℕ → (holds at state : ℕ) → ℕ
idle_set s holds at state = if word_entry s holds state =? 0 then word_entry s at state else 0

-- None of the first n words is larger.
abbrev pub Ceiling : (n : ℕ) → (ℕ → ℕ) → ℕ → Type 0
Ceiling n words top = (k : ℕ) → k < n → words k ≤ top
