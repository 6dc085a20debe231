-- The front of a journal: up to a byte there stand the opening field and records that the machine took. Closed there with an end field it is
-- a journal that the machine runs.
use mathlib.Core.Path.{◌≡◌, refl, sym, ap, ◌∙◌}
use mathlib.Core.List.{List, [], ◌∷◌, ◌++◌}
use mathlib.Core.Bool.{Bool, false}
use Prim.Native.Nat.{ℕ, ◌+◌, ◌<◌, ◌≤◌}
use native.Mathlib.Omega.{arith}
use borrow.Author.Tests.{le-leb}
use lib.ListN.{length, take, drop, length-append}
use lib.Seq.{length-take-le, take_at, take-add}
use Rattle.std.specs.Prelude.{Ok}
use Rattle.wire.specs.Encode.{Bytes, bytes32, field}
use Rattle.table.specs.declared.Table.{Table}
use Rattle.records.specs.declared.Record.{Record}
use Rattle.records.specs.declared.Record.TheVariants.{End}
use Rattle.records.specs.Record.{time_of, is_end, latest}
use Rattle.records.specs.Form.{journal, longest_journal}
use Rattle.records.specs.Encode.{bytes_of, bytes_from, written_in, encode, WritableRecord, Inner}
use Rattle.records.proofs.Reading.{OpeningAt}
use Rattle.records.proofs.Shapes.{eight}
use Rattle.records.proofs.Written.{journal_recovers, opening_read, record_read, written_more}
use Rattle.records.proofs.Lengths.{bytes_length}
use Rattle.records.proofs.Says.{keeps_all}
use Rattle.machine.specs.declared.Machine.{Machine}
use Rattle.machine.specs.Machine.{start, after, step}
use Rattle.machine.specs.Run.{Runs}
use Rattle.machine.specs.Walk.{in_table}
use Rattle.machine.proofs.Walk.{runs_more}
use Rattle.salvage.proofs.Reaching.{OneTaken}
use Rattle.machine.specs.RunsOver.{RunsOver}

-- ---- Records that may be written, whatever stands before them; none is the end

abbrev Fine : (Record → Bool) → Record → Type 0
Fine allows r = (before : ℕ) → WritableRecord journal allows before r

abbrev Plain : (Record → Bool) → List Record → Type 0
Plain allows [] = Unit
Plain allows (r ∷ rs) = (is_end r ≡ false) × Fine allows r × Plain allows rs

-- In a journal the time before does not matter.
any_before : (allows : Record → Bool) (before : ℕ) (r : Record) → WritableRecord journal allows before r → Fine allows r
any_before allows before r w before' = record { in_range = w.in_range; whole = w.whole; small = w.small; timed = w.timed }

end_fine : (t : Table) (time : ℕ) → time ≤ latest → Fine (in_table journal t) (End time)
end_fine t time low before = record { in_range = le-leb time latest low; whole = refl; small = omega arith; timed = refl }

module _ (allows : Record → Bool) where
  plain_more : (rs : List Record) (r : Record) → Plain allows rs → is_end r ≡ false → Fine allows r → Plain allows (rs ++ r ∷ [])
  plain_more [] r plain no_end fine = (no_end, fine, tt)
  plain_more (x ∷ rs) r (first, well, plain) no_end fine = (first, well, plain_more rs r plain no_end fine)

  plain_inner : (rs : List Record) (end : ℕ) → Plain allows rs → Fine allows (End end) → (before : ℕ) → Inner journal allows before rs end
  plain_inner [] end plain fine before = fine before
  plain_inner (r ∷ rs) end (no_end, well, plain) fine before = (no_end, well before, plain_inner rs end plain fine (time_of r))

-- ---- The front

module _ (t : Table) (s : List ℕ) (input : ℕ) where
  pub record Front (at : ℕ) (m : Machine) : Type 0 where
    pub records : List Record
    pub runs : Runs t (start t.initial input) records m
    pub plain : Plain (in_table journal t) records
    pub bytes_are : take at s ≡ written_in journal input records

  module _ (bytes : Bytes s) where
    pub front_begins : OpeningAt 0x10 t.inputs s input → Front 4 (start t.initial input)
    unfolding bytes_from field
    front_begins o = record {
      records = [];
      runs = refl;
      plain = tt;
      bytes_are = ap (take 4) (opening_read 0x10 t.inputs s bytes input o);
    }

    pub front_more : (at : ℕ) (m : Machine) (r : Record) → OneTaken t s at m r → Front at m → Front (at + 8) (after t m r)
    unfolding bytes_of
    front_more at m r one front =
        let back = record_read journal journal_recovers (in_table journal t) s bytes one.before at r one.found in
        let size : length (bytes_of journal one.before r) ≡ 8 = bytes_length journal one.before r ∙ eight r one.not_end in
        let next : take 8 (drop at s) ≡ bytes_of journal one.before r = ap (take 8) back.bytes_are ∙ take_at (bytes_of journal one.before r) _ 8 size in
        record {
          records = front.records ++ r ∷ [];
          runs = runs_more t (start t.initial input) m (after t m r) front.records r front.runs one.steps;
          plain = plain_more (in_table journal t) front.records r front.plain one.not_end (any_before (in_table journal t) one.before r back.fine);
          bytes_are = take-add at 8 s ∙ rw (front.bytes_are, next) (sym (written_more input front.records r));
        }

  abbrev closed_at : ℕ → ℕ → List ℕ
  closed_at at time = take at s ++ field 0x1F (bytes32 time)

  module _ (at : ℕ) (m : Machine) (front : Front at m) (within : at ≤ length s) (time : ℕ) where
    pub closed_length : length (closed_at at time) ≡ at + 7
    unfolding field
    closed_length = rw (length-append, length-take-le at s within) refl

    closed_is : closed_at at time ≡ encode journal input front.records time
    unfolding encode bytes_of
    closed_is = rw front.bytes_are (sym (written_more input front.records (End time)))

    pub front_closed : input < t.inputs → at + 7 ≤ longest_journal → time ≤ latest → step t m (End time) ≡ Ok (after t m (End time)) →
        RunsOver journal t (closed_at at time) input (front.records ++ End time ∷ []) (after t m (End time))
    front_closed opens short low ends = record {
      short = rw closed_length short;
      said = front.records;
      end = time;
      written = record {
        opens = opens;
        inner = plain_inner (in_table journal t) front.records time front.plain (end_fine t time low) 0;
        is = closed_is;
      };
      says = keeps_all journal refl (front.records ++ End time ∷ []);
      runs = runs_more t (start t.initial input) m (after t m (End time)) front.records (End time) front.runs ends;
    }
