-- The theorems about stamped journals, as specs/Stamps states them.
use mathlib.Core.Path.{◌≡◌, refl, sym, ap, ◌∙◌}
use mathlib.Core.List.{List, [], ◌∷◌, ◌++◌}
use mathlib.Core.Bool.{Bool}
use Prim.Native.Nat.{ℕ, ◌+◌, ◌≤◌}
use native.Mathlib.Omega.{arith}
use lib.ListN.{length}
use Rattle.std.specs.Prelude.{Ok, Err}
use Rattle.wire.specs.Made.{made}
use Rattle.wire.proofs.Apart.{apart}
use Rattle.wire.proofs.Made.{owed_made}
use Rattle.table.specs.declared.Table.{Table}
use Rattle.table.specs.Table.{WellFormed}
use Rattle.table.specs.Check.{table_in}
use Rattle.table.proofs.WellFormed.{well_formed}
use Rattle.records.specs.declared.Record.{Record}
use Rattle.records.specs.declared.Record.TheVariants.{End}
use Rattle.records.specs.Record.{time_of}
use Rattle.records.specs.Form.{Form, journal, stamped, longest_stamped}
use Rattle.records.specs.Reading.{any_record, size_of}
use Rattle.records.specs.Encode.{encode, placed, Inner, WrittenAs}
use Rattle.records.proofs.Written.{journal_recovers, reads_written, stamp_tells}
use Rattle.records.proofs.Says.{in_time}
use Rattle.records.proofs.Lengths.{NoEnd, inner_no_end, encode-length}
use Rattle.records.proofs.Reading.{opening_at}
use Rattle.machine.specs.Walk.{in_table}
use Rattle.machine.proofs.Gaps.{TellsGaps, gaps_within_bound, inner_restated}
use Rattle.journal.specs.declared.Numbers.{Numbers}
use Rattle.journal.proofs.Accepted.{passed}
use Rattle.writing.specs.declared.Refusal.TheVariants.{BufferTooShort}
use Rattle.stamped.specs.Stamped.{listed, before, list_of, made_of_records, read_of}
use Rattle.stamped.proofs.Over.{opened_with}
use Rattle.stamped.proofs.Lengths.{read_short}
use Rattle.laws.specs.Journals.{AcceptedRun}
use Rattle.laws.specs.Stamps.{stamped_form, StampedComesBack, ReadsNoLonger}
use Rattle.laws.proofs.Journals.{accepts_exactly}

stamps_tell : TellsGaps stamped
stamps_tell = record { valued = refl; small = λ before time low high late. omega arith; timed = stamp_tells }

list_placed : (F : Form) (at : ℕ) (rs : List Record) (end : ℕ) → list_of (placed F at rs end) ≡ listed (rs ++ End end ∷ [])
unfolding list_of placed
list_placed F at [] end = refl
list_placed F at (r ∷ rs) end = ap (before r) (list_placed F (at + size_of F r) rs end)

-- Ok records are in range of any reader that asks less.
loosened : (F : Form) (allows : Record → Bool) (before : ℕ) (rs : List Record) (end : ℕ) → Inner F allows before rs end → Inner F any_record before rs end
loosened F allows before [] end w = record { in_range = refl; whole = w.whole; small = w.small; timed = w.timed }
loosened F allows before (r ∷ rs) end (other, w, more) =
    (other, record { in_range = refl; whole = w.whole; small = w.small; timed = w.timed }, loosened F allows (time_of r) rs end more)

module _ (t : Table) (good : WellFormed t) (j : List ℕ) (n : Numbers) (run : AcceptedRun journal t j n) where
  abbrev stamps : List ℕ
  stamps = encode stamped run.input run.records n.end

  inner : Inner stamped any_record 0 run.records n.end
  inner =
      inner_restated journal stamped stamps_tell (in_table journal t) any_record (in_time journal t.states t.inputs) (λ r h. refl) t.bound (omega (arith, good.bound.1)) 0 run.records n.end
      run.written.inner (gaps_within_bound t run.input (run.records ++ End n.end ∷ []) run.last run.runs)

  no_end : NoEnd run.records
  no_end = inner_no_end stamped any_record 0 run.records n.end inner

  pub short : length stamps ≤ longest_stamped
  short =
      omega (
        arith,
        encode-length stamped refl run.input run.records n.end no_end,
        encode-length journal refl run.input run.records n.end no_end,
        ap length run.written.is,
        run.short,
      )

  -- Read as a journal that is stamped,
  long_written : WrittenAs journal any_record t.inputs j run.input run.records n.end
  long_written = record {
    opens = run.written.opens;
    inner = loosened journal (in_table journal t) 0 run.records n.end run.written.inner;
    is = run.written.is;
  }

  stamped_is : stamped_form j ≡ stamps
  unfolding encode
  stamped_is =
      let read = reads_written journal any_record t.inputs j run.input run.records n.end long_written in
      let input = (opening_at 0x10 4 5 t.inputs j run.input read.0).is in
      rw (← input, read.1, list_placed journal 4 run.records n.end) refl

  -- and as stamps that are read.
  stamps_written : WrittenAs stamped any_record 256 stamps run.input run.records n.end
  stamps_written = record { opens = omega (arith, run.written.opens, good.inputs.1); inner = inner; is = refl }

  comes_back : read_of stamps ≡ made (Ok (length j)) j
  unfolding made_of_records encode
  comes_back =
      let read = reads_written stamped any_record 256 stamps run.input run.records n.end stamps_written in
      let long : encode journal run.input run.records n.end ≡ j = sym run.written.is in
      sym (opened_with stamps short _ refl run.input read.0)
      ∙ rw (read.1, list_placed stamped 4 run.records n.end) (ap (λ l. made (Ok (length l)) l) long)

pub stamped_comes_back : StampedComesBack
stamped_comes_back table j buffer bytes n e room =
    let t = table_in table in
    let p = passed journal table j (Ok n) (λ a f. apart cc) e in
    let good = well_formed table p.0 in
    let run = (accepts_exactly journal refl journal_recovers t j bytes n).0 p.1 in
    let is = ap read_of (stamped_is t good j n run) ∙ comes_back t good j n run in
    let owed = owed_made (Err BufferTooShort) _ _ j buffer is room _ refl in
    (rw (stamped_is t good j n run) (short t good j n run), sym owed.0, sym owed.1)

pub reads_no_longer : ReadsNoLonger
reads_no_longer s bytes answer e = rw e at (read_short s)
