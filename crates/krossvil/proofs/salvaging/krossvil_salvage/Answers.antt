-- What the check turns down for good is passed up. Of the buffer only the room beside the answer is lent.
use mathlib.Core.Path.{refl, sym, ◌∙◌}
use Prim.Native.Nat.{ℕ, ◌/◌, ◌%◌}
use Rattle.journal.specs.Check.{check_of}
use Rattle.salvage.specs.Answer.{salvage_ruled}
use Rattle.salvage.specs.Backwards.{SaidOf}
use Rattle.krossvil.proofs.Writers.{place_small, value_small, refusal_owed, success_owed}
use Rattle.krossvil.proofs.Salvages.{salvage_writer, salvage_small, salvage_said, salvage_passed}
use Rattle.krossvil.proofs.salvaging.krossvil_salvage.Goals as goal
use Rattle.krossvil.proofs.salvaging.krossvil_salvage.Goals.{Else-passes_up}

-- Where salvage goes by what the check said.
module _ (c : Else-passes_up) where
  abbrev code : ℕ
  code = c.krossvil_check_journal-checked.result

  said : SaidOf (check_of c.args.table.now c.args.journal.now) (code / 4294967296) (code % 4294967296)
  said =
      salvage_said c.args.table.now c.args.journal.now code _ _ c.krossvil_check_journal-checked.ensures.code refl refl
      (sym c.passes_up.ensures ∙ c.if-passes_up.false)

pub returns-then-passes_up : goal.returns-then-passes_up
returns-then-passes_up c =
    let args = c.args in
    let all_of = salvage_passed args.table.now args.journal.now _ _ _ c.krossvil_check_journal-checked.ensures.code refl refl
    (sym c.passes_up.ensures ∙ c.if-passes_up.true) args.salvaged.now args.answer.now in record { code = all_of.0; bytes = all_of.1.0; written = all_of.1.1 }

pub salvage_checked-requires : goal.salvage_checked-requires
salvage_checked-requires c = said (goal.at.salvage_checked-requires c).Else-passes_up

pub code-requires : goal.code-requires
code-requires c = place_small (salvage_writer c.args.table.now c.args.journal.now) _ c.salvage_checked.ensures.is c.in-Err.is

pub returns-in-Err : goal.returns-in-Err
returns-in-Err c =
    let args = c.args in
    let all_of = refusal_owed (salvage_writer args.table.now args.journal.now) args.salvaged.now args.answer.now c.room_beside-room.ensures.is
    (c.salvage_checked.ensures.is, c.salvage_checked.ensures.holds) c.in-Err.is (salvage_ruled _) c.code.ensures in record { code = all_of.0; bytes = all_of.1.0; written = all_of.1.1 }

pub overflow_cast-numbers : goal.overflow_cast-numbers
overflow_cast-numbers c = record { fits = value_small (salvage_writer _ _) _ c.salvage_checked.ensures.is c.in-Ok.is (salvage_small c.args.table.now c.args.journal.now) 0 }

pub overflow_cast-numbers-in-Ok : goal.overflow_cast-numbers-in-Ok
overflow_cast-numbers-in-Ok c = record { fits = value_small (salvage_writer _ _) _ c.salvage_checked.ensures.is c.in-Ok.is (salvage_small c.args.table.now c.args.journal.now) 1 }

pub overflow_cast-numbers-in-Ok-2 : goal.overflow_cast-numbers-in-Ok-2
overflow_cast-numbers-in-Ok-2 c = record { fits = value_small (salvage_writer _ _) _ c.salvage_checked.ensures.is c.in-Ok.is (salvage_small c.args.table.now c.args.journal.now) 3 }

pub returns-in-Ok : goal.returns-in-Ok
returns-in-Ok c =
    let args = c.args in
    let all_of = success_owed (salvage_writer args.table.now args.journal.now) args.salvaged.now args.answer.now c.room_beside-room.ensures.is
    (c.salvage_checked.ensures.is, c.salvage_checked.ensures.holds) c.in-Ok.is (c.tell.ensures.code, c.tell.ensures.bytes) in record { code = all_of.0; bytes = all_of.1.0; written = all_of.1.1 }
