-- The reader of stamped journals as an entry that writes.
use mathlib.Core.Path.{◌≡◌, refl}
use mathlib.Core.List.{List}
use mathlib.Core.Bool.{Bool, true, false}
use Prim.Native.Nat.{ℕ, suc, ◌≤◌}
use native.Mathlib.Omega.{arith}
use borrow.Author.Tests.{ltb-false}
use lib.ListN.{length}
use Rattle.std.specs.Prelude.{Ok, Err, if◌then◌else◌}
use Rattle.wire.specs.Choice.{◌<?◌}
use Rattle.wire.specs.Made as made
use Rattle.wire.specs.Made.{Made}
use Rattle.records.specs.declared.Record.{Record}
use Rattle.records.specs.Form.{stamped, longest_stamped}
use Rattle.records.specs.Reading.{Opening, Items, item, done, broken, any_record, opening_of, items_of}
use Rattle.records.proofs.Places.{Within, items_within}
use Rattle.writing.specs.declared.Refusal.TheVariants.{TooLong, BufferTooShort}
use Rattle.writing.specs.declared.Refusal.{Refusal}
use Rattle.writing.specs.Answer.{WritingAnswer, writing_refusal, writing_ruled, reply_of}
use Rattle.stamped.specs.Stamped.{Listed, listed, stopped, before, list_of, made_of_records, read_opened, read_of}
use Rattle.stamped.proofs.Lengths.{Short, read_short}
use Rattle.krossvil.specs.Small.{sized}
use Rattle.krossvil.proofs.Places.{of_record}
use Rattle.krossvil.proofs.Writers.{Writer, SizeWriter, writer_of, Tells, Small, one_number, one_small}

abbrev pub Says : Made WritingAnswer → Type 0
Says m = Tells reply_of 1 m × Small reply_of m

-- ---- Where the list stops

abbrev StopsBy : ℕ → Listed → Type 0
StopsBy limit (listed rs) = Unit
StopsBy limit (stopped refusal place) = place ≤ limit

before_by : (limit : ℕ) (r : Record) (l : Listed) → StopsBy limit l → StopsBy limit (before r l)
before_by limit r (listed rs) h = tt
before_by limit r (stopped refusal place) h = h

list_by : (limit : ℕ) (items : Items) → Within limit items → StopsBy limit (list_of items)
unfolding list_of
list_by limit (item place r rest) (low, more) = before_by limit r (list_of rest) (list_by limit rest more)
list_by limit done w = tt
list_by limit (broken refusal place) w = w.1

-- ---- What is told

pub says : (s : List ℕ) → Says (read_of s)
unfolding read_of read_opened made_of_records items_of
says s = sized (longest_stamped <? length s) refl (read_short s)
  where
    of_list : (input : ℕ) (l : Listed) → StopsBy 1000000 l → Short (made_of_records input l) → Says (made_of_records input l)
    of_list input (listed rs) h few = (one_number _ refl, one_small _ (omega (arith, few)))
    of_list input (stopped refusal place) h few = (of_record refusal place h, tt)

    of_opening : length s ≤ longest_stamped → (o : Opening) → Short (read_opened s o) → Says (read_opened s o)
    of_opening short (Err refusal) few = (of_record refusal 0 (omega arith), tt)
    of_opening short (Ok input) few =
        let within = items_within stamped any_record s 1000000 (suc (length s)) 4 0 (omega arith) in
        of_list input (list_of (items_of stamped any_record s)) (list_by 1000000 (items_of stamped any_record s) within) few

    sized : (b : Bool) → (longest_stamped <? length s) ≡ b → Short (if b then made.refused (Err TooLong) else read_opened s (opening_of stamped 256 s)) →
        Says (if b then made.refused (Err TooLong) else read_opened s (opening_of stamped 256 s))
    sized true h few = (record { ruled = writing_ruled TooLong; place = omega arith }, tt)
    sized false h few = of_opening (ltb-false longest_stamped (length s) h) (opening_of stamped 256 s) few

-- The reply, by its size or its refusal.
pub by_size : (a : WritingAnswer) → sized writing_refusal a ≡ reply_of a
by_size (Ok size) = refl
by_size (Err refusal) = refl

abbrev pub stamped_sizes : (s : List ℕ) → SizeWriter
stamped_sizes s = record {
  R = Refusal;
  refused = writing_refusal;
  reply_of = reply_of;
  same = by_size;
  short = Err BufferTooShort;
  thirty = refl;
  makes = read_of s;
  tells = (says s).0;
  small = (says s).1;
}

abbrev pub stamped_writer : (s : List ℕ) → Writer
stamped_writer s = writer_of (stamped_sizes s)
