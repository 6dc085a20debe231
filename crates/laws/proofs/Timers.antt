-- A table with holds turned into timers, as specs/Timers states it.
use mathlib.Core.Path.{◌≡◌, refl, sym, ap, ◌∙◌}
use Rattle.table.specs.declared.Table.{Table}
use Rattle.table.specs.Table.{WellFormed}
use Rattle.table.specs.Check.{table_in}
use Rattle.table.proofs.WellFormed.{well_formed}
use Rattle.table.proofs.Under.{under_passes}
use Rattle.records.specs.Form as form
use Rattle.machine.specs.AsTimers.{as_timers, FewHolds, SameOverBytes, both_ran, both_too_long, both_refused}
use Rattle.machine.specs.Walk.{RunOverBytes}
use Rattle.machine.proofs.AsTimers.{as_timers_judge_alike}
use Rattle.journal.specs.Check.{check_in, answer_of_run, check_under}
use Rattle.runtime.specs.Run.{made_of_run, made_under, run_of}
use Rattle.laws.specs.Timers.{timers_for, TimersForHolds}
use Rattle.laws.proofs.Tables.{holds_that_table}

module _ (t : Table) (good : WellFormed t) (few : FewHolds t) where
  answers_alike : {r' r : RunOverBytes} → SameOverBytes t r' r → answer_of_run (as_timers t) r' ≡ answer_of_run t r
  unfolding answer_of_run as_timers
  answers_alike (both_ran {input} {taken} {last'} {last} alike) = rw (alike.same, (as_timers_judge_alike t good few).left_same input taken) refl
  answers_alike both_too_long = refl
  answers_alike both_refused = refl

  runs_alike : {r' r : RunOverBytes} → SameOverBytes t r' r → made_of_run r' ≡ made_of_run r
  unfolding made_of_run
  runs_alike (both_ran alike) = refl
  runs_alike both_too_long = refl
  runs_alike both_refused = refl

pub timers_for_holds : TimersForHolds
unfolding check_in run_of
timers_for_holds table passes few =
    let t = table_in table in
    let good = well_formed table passes in
    let alike = as_timers_judge_alike t good few in
    let read = holds_that_table (timers_for table) (as_timers t) alike.well_formed refl in (
      read.0,
      λ s. under_passes _ _ (timers_for table) read.0 ∙ ap (λ x. check_under form.journal x s) read.1
          ∙ answers_alike t good few (alike.run_same form.journal s) ∙ sym (under_passes _ _ table passes),
      λ s. under_passes _ _ (timers_for table) read.0 ∙ ap (λ x. made_under x s) read.1
          ∙ runs_alike t good few (alike.run_same form.stimulus s) ∙ sym (under_passes _ _ table passes),
    )
