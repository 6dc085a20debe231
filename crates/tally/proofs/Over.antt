-- The records of an accepted journal are of its table; so what is counted in them is the tally of its bytes.
use Rattle.std.proofs.Common.{◌≡◌, ℕ, List, [], ◌∷◌, ◌++◌, sym, refl, ◌∙◌}
use Rattle.wire.specs.Encode.{Bytes}
use Rattle.table.specs.declared.Table.{Table}
use Rattle.table.specs.Table.{WellFormed}
use Rattle.records.specs.declared.Record.{Record}
use Rattle.records.specs.declared.Record.TheVariants.{End}
use Rattle.records.specs.Record.{time_of}
use Rattle.records.specs.Form.{journal}
use Rattle.records.specs.Encode.{Inner}
use Rattle.records.proofs.Says.{keeps_all}
use Rattle.records.proofs.Written.{journal_recovers}
use Rattle.machine.specs.declared.Machine.{Machine}
use Rattle.machine.specs.Walk.{in_table, ran, run_over}
use Rattle.machine.specs.RunsOver.{RunsOver}
use Rattle.machine.proofs.RunsOver.{goes_through_exactly}
use Rattle.tally.specs.Tally.{tally_in}
use Rattle.tally.specs.Counting.{counted}
use Rattle.tally.specs.Totals.{InTable, AcceptedRecords}
use Rattle.tally.proofs.Counted.{counted_is_tally}

pub inner_in_table : (t : Table) (before : ℕ) (said : List Record) (end : ℕ) → Inner journal (in_table journal t) before said end →
    InTable t (said ++ End end ∷ [])
inner_in_table t before [] end last = (last.in_range, tt)
inner_in_table t before (r ∷ said) end (other, here, more) = (here.in_range, inner_in_table t (time_of r) said end more)

module _ (t : Table) (good : WellFormed t) (s : List ℕ) where
  -- A run over bytes is one of accepted records.
  pub accepted_records : (input : ℕ) (rs : List Record) (last : Machine) → RunsOver journal t s input rs last → AcceptedRecords t input rs last.time
  accepted_records input rs last run =
      let is : rs ≡ run.said ++ End run.end ∷ [] = sym (keeps_all journal refl rs) ∙ run.says in
      record {
        well_formed = good;
        opens = run.written.opens;
        in_the_table = rw is (inner_in_table t 0 run.said run.end run.written.inner);
        accepted = record { last = last; runs = run.runs; ends = refl };
      }

  module _ (bytes : Bytes s) (input : ℕ) (rs : List Record) (last : Machine) (is : run_over journal t s ≡ ran input rs last) where
    over : RunsOver journal t s input rs last
    over = (goes_through_exactly journal journal_recovers t s bytes input rs last).0 is

    pub records_over : AcceptedRecords t input rs last.time
    records_over = accepted_records input rs last over

    pub counted_over : counted t input rs ≡ tally_in t (run_over journal t s)
    unfolding tally_in
    counted_over = rw is (counted_is_tally t good input records_over.opens rs last over.runs records_over.in_the_table)
