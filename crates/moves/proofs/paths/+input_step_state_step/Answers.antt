use Prim.Native.Nat.{◌-◌, ◌<◌}
use native.Mathlib.Omega.{arith}
use lib.ListN.{length-set}
use Rattle.moves.proofs.Along.{table_of, known_inputs, real, few_states, few_inputs, goes_to, none_left, none_ahead, goes_on, path_length, put_last, put_first, one_row_less}
use Rattle.table.specs.Table.{next_of}
use Rattle.moves.specs.Walks.{way_of}
use Rattle.moves.proofs.paths.+input_step_state_step.Goals as goal

pub input_step-overflow_cast-path : goal.input_step-overflow_cast-path
input_step-overflow_cast-path t c = let pre = c.requires in let q = c.args.question.now in omega (arith, known_inputs q _ pre.1, few_inputs q)

pub input_step-state_step-requires : goal.input_step-state_step-requires
input_step-state_step-requires t c =
    let pre = c.requires in
    let to = rw (← c.next-to.ensures) at (goes_to c.args.question.now _ _ pre.0 pre.1) in
    let rows = one_row_less c.args.left c.args.question.now.held.layout.states pre.2 in
    (omega (arith, c.decreases, pre.2), (to, omega (arith, pre.3), omega (arith, pre.4), simp length-set (omega (arith, pre.2, pre.5))))

pub state_step-overflow_cast-path : goal.state_step-overflow_cast-path
state_step-overflow_cast-path t c = let pre = c.requires in omega (arith, pre.0, few_states c.args.question.now)

pub state_step-returns-then-left-eq0 : goal.state_step-returns-then-left-eq0
state_step-returns-then-left-eq0 t c =
    let all_of = put_last _ _ _ (omega (arith, c.requires.3)) (none_left c.args.question.now _ _ _ c.if-left-eq0.true) in record { is = all_of.0; holds = all_of.1 }

pub state_step-returns-then-worst-eq0 : goal.state_step-returns-then-worst-eq0
state_step-returns-then-worst-eq0 t c =
    let some : 0 < c.args.left = omega (arith, c.if-left-eq0.false) in
    let all_of = put_last _ _ _ (omega (arith, c.requires.3)) (none_ahead c.args.question.now _ _ _ some c.worst_step-worst.ensures c.if-worst-eq0.true) in record { is = all_of.0; holds = all_of.1 }

pub state_step-returns : goal.state_step-returns
state_step-returns t c =
    let a = c.args in
    let some : 0 < a.left = omega (arith, c.if-left-eq0.false) in
    let worst = c.worst_step-worst in
    let done = c.input_step.ensures in
    let short = path_length (next_of (table_of a.question.now)) (way_of a.question.now) a.sums.now (a.left - 1) (next_of (table_of a.question.now) a.state worst.result.member) in
    let all_of = put_first a.path.now a.at a.state (goes_on c.args.question.now _ _ _ some worst.ensures c.if-worst-eq0.false)
    (omega (arith, short, c.requires.3)) done.is done.holds in record { is = all_of.0; holds = all_of.1 }

pub input_step-next-to-requires : goal.input_step-next-to-requires
input_step-next-to-requires t c = let q = c.args.question.now in (real q _ c.requires.0, q.inputs_known _ c.requires.1)
