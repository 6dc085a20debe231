-- What the judge turns down is told, then 30; only then anything is written.
use mathlib.Core.Path.{sym, ◌∙◌}
use native.Mathlib.Omega.{arith}
use Rattle.moves.specs.Answer.{judged_reply}
use Rattle.krossvil.proofs.Outcomes.{place_fits}
use Rattle.krossvil.proofs.Several.{judge_fits, judged_owed, short_owed, long_owed, length_small}
use Rattle.krossvil.proofs.reacting.krossvil_reaction_moves.Goals as goal

pub code-requires : goal.code-requires
code-requires c = place_fits judged_reply _ c.judge-judged.ensures c.in-Err.is (judge_fits _ _ _ _ _ _)

pub returns-in-Err : goal.returns-in-Err
returns-in-Err c =
    let a = c.args in
    let all_of = judged_owed a.table.now a.states a.inputs a.moves a.sums.now a.path.now a.answer.now c.judge-judged.ensures c.in-Err.is _ c.code.ensures in
    record { code = all_of.0; bytes = all_of.1.0; sums = all_of.1.1.0; path = all_of.1.1.1 }

pub returns-then-answer-lt-MOVES_ANSWER : goal.returns-then-answer-lt-MOVES_ANSWER
returns-then-answer-lt-MOVES_ANSWER c =
    let a = c.args in
    let all_of = short_owed a.table.now a.states a.inputs a.moves a.sums.now a.path.now a.answer.now
    (sym c.judge-judged.ensures ∙ c.in_default.is) c.if-answer-lt-MOVES_ANSWER.true _ c.code-then-answer-lt-MOVES_ANSWER.ensures in
    record { code = all_of.0; bytes = all_of.1.0; sums = all_of.1.1.0; path = all_of.1.1.1 }

pub overflow_cast-r : goal.overflow_cast-r
overflow_cast-r c =
    let a = c.args in
    omega (arith, length_small a.table.now a.states a.inputs a.moves a.sums.now a.path.now a.answer.now (sym c.judge-judged.ensures ∙ c.in_default.is) c.react_judged-r.ensures.is)

pub returns : goal.returns
returns c =
    let a = c.args in
    let done = c.react_judged-r in
    let all_of = long_owed a.table.now a.states a.inputs a.moves a.sums.now a.path.now a.answer.now
    (sym c.judge-judged.ensures ∙ c.in_default.is) c.if-answer-lt-MOVES_ANSWER.false done.result done.ensures.is done.ensures.sums done.ensures.path
    _ _ (c.tell.ensures.code, c.tell.ensures.bytes) in record { code = all_of.0; bytes = all_of.1.0; sums = all_of.1.1.0; path = all_of.1.1.1 }
