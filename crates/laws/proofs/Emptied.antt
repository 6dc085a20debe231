-- A table whose idle sets are emptied judges everything as the table does.
use mathlib.Core.Path.{◌≡◌, refl, sym, ap, ◌∙◌, fun_ext}
use mathlib.Core.List.{List, [], ◌∷◌}
use mathlib.Core.Bool.{Bool, true, false}
use Prim.Native.Nat.{ℕ, zero, suc, ◌+◌, ◌-◌, ◌*◌, ◌≤◌, max}
use native.Mathlib.Omega.{arith}
use borrow.Author.Tests.{ltb-true, ltb-false, ne_eqb}
use lib.ListN.{length}
use Rattle.std.specs.Prelude.{if◌then◌else◌, Ok, Err}
use Rattle.wire.specs.Choice.{◌<?◌, ◌=?◌, ◌and◌}
use Rattle.sets.specs.Sets.{member, some, largest}
use Rattle.table.specs.declared.Table.{Table}
use Rattle.table.specs.Table.{hold_of, delayed_of, region_of, Uses}
use Rattle.table.specs.Entries.{values}
use Rattle.table.proofs.Values.{get_or-filled, filled_uses}
use Rattle.records.specs.declared.Record.{Record}
use Rattle.records.specs.declared.Record.TheVariants.{Change, Poll, Test, Tick, End}
use Rattle.records.specs.Reading.{Opening}
use Rattle.records.specs.Form.{Form}
use Rattle.records.specs.Record.{time_of, is_test}
use Rattle.records.specs.Reading.{Items, item, done, broken, opening_of, items_of}
use Rattle.machine.specs.declared.Machine.{Machine}
use Rattle.machine.specs.Verdict.{rule_by, verdict_by, left_by}
use Rattle.machine.specs.Step.{Gate}
use Rattle.machine.specs.Machine.{start, kind_of, rule, verdict, left, state_after, regions_after, agrees, after, gate, through, step}
use Rattle.machine.proofs.Watches.{rule_by_state, left_by_state}
use Rattle.machine.specs.Most as machine
use Rattle.machine.specs.Run.{most_left}
use Rattle.machine.specs.Walk.{RunOverBytes, ran, too_long, refused, in_table, filled, completed, onwards, walk, ran_from, records_run, run_opened, run_over}
use Rattle.journal.specs.Check.{answer_of_run, check_under}
use Rattle.reaction.specs.Reaction.{next_set, off_target, weight_of, from_hold, weight, reaction_time, first_leaving, reaction_of}
use Rattle.tight.specs.Tight.{need_of, tight_time}
use Rattle.tight.specs.Several.{tight_weight, tight_time_over, times_over}
use Rattle.moves.specs.Moves.{next_times, most_ahead, round, sums_of, rows, path_from, largest_sum, worst_start, worst_path, judge, reaction_over, sums_over, path_over}
use Rattle.convert.specs.Convert.{new_set, emptied}

-- ---- One state

new_none : (hold : ℕ) → new_set hold 0 ≡ 0
new_none hold = go (hold =? 0)
  where
    go : (b : Bool) → ◌≡◌ {A = ℕ} (if b then 0 else 0) 0
    go true = refl
    go false = refl

has_hold : (hold set : ℕ) → new_set (suc hold) set ≡ set
has_hold hold set = rw (ne_eqb (suc hold) 0 (λ e. omega arith)) refl

-- Without a hold the set makes no difference to the rule.
rule_new : (hold set polled entry time : ℕ) → rule_by hold (new_set hold set) polled entry time ≡ rule_by hold set polled entry time
unfolding rule_by
rule_new zero set polled entry time = refl
rule_new (suc hold) set polled entry time = ap (λ d. rule_by (suc hold) d polled entry time) (has_hold hold set)

module _ (t : Table) (few : t.states ≤ 32) (uses : Uses t.states 32 t.delayed) (none : (k : ℕ) → region_of t k ≡ 0) where
  abbrev t' : Table
  t' = emptied t

  pub set_is : (q : ℕ) → delayed_of t' q ≡ new_set (hold_of t q) (delayed_of t q)
  unfolding emptied
  set_is q = go (q <? t.states) refl
    where
      go : (b : Bool) → (q <? t.states) ≡ b → delayed_of t' q ≡ new_set (hold_of t q) (delayed_of t q)
      go true e = get_or-filled (λ p. new_set (hold_of t p) (delayed_of t p)) t.states 32 few q (ltb-true q t.states e)
      go false e =
          let past = ltb-false q t.states e in
          (filled_uses (λ p. new_set (hold_of t p) (delayed_of t p)) t.states 32 few).rest q past
          ∙ sym (ap (new_set (hold_of t q)) (uses.rest q past) ∙ new_none (hold_of t q))

  -- ---- The machine

  rule_same : (m : Machine) (time : ℕ) → rule t' m time ≡ rule t m time
  unfolding emptied
  rule_same m time =
      rule_by_state t' m time none
      ∙ ap (λ d. rule_by (hold_of t m.state) d m.polled m.entry time) (set_is m.state)
      ∙ rule_new (hold_of t m.state) (delayed_of t m.state) m.polled m.entry time
      ∙ sym (rule_by_state t m time none)

  verdict_same : (m : Machine) (time : ℕ) → verdict t' m time ≡ verdict t m time
  unfolding verdict
  verdict_same m time = ap verdict_by (rule_same m time)

  left_same : (m : Machine) (time : ℕ) → left t' m time ≡ left t m time
  unfolding emptied
  left_same m time =
      left_by_state t' m time none
      ∙ ap (λ d. left_by (hold_of t m.state) m.entry time (rule_by (hold_of t m.state) d m.polled m.entry time)) (set_is m.state)
      ∙ ap (left_by (hold_of t m.state) m.entry time) (rule_new (hold_of t m.state) (delayed_of t m.state) m.polled m.entry time)
      ∙ sym (left_by_state t m time none)

  state_same : (m : Machine) → state_after t' m ≡ state_after t m
  unfolding state_after emptied
  state_same m = refl

  regions_same : (m : Machine) (time : ℕ) → regions_after t' m time ≡ regions_after t m time
  unfolding regions_after state_after emptied
  regions_same m time = refl

  after_same : (m : Machine) (r : Record) → after t' m r ≡ after t m r
  after_same m (Change time input) = refl
  after_same m (Poll time input) = refl
  after_same m (Test time v) = rw (verdict_same m time) refl
  after_same m (Tick time q) = rw (state_same m, regions_same m time) refl
  after_same m (End time) = refl

  agrees_same : (m : Machine) (r : Record) → agrees t' m r ≡ agrees t m r
  agrees_same m (Change time input) = refl
  agrees_same m (Poll time input) = refl
  agrees_same m (Test time v) = rw (verdict_same m time) refl
  agrees_same m (Tick time q) = rw (state_same m) refl
  agrees_same m (End time) = refl

  through_same : (g : Gate) (m : Machine) (r : Record) → through g t' m r ≡ through g t m r
  through_same (Err refusal) m r = refl
  through_same (Ok tt) m r = rw (agrees_same m r, after_same m r) refl

  step_same : (m : Machine) (r : Record) → step t' m r ≡ step t m r
  unfolding step emptied
  step_same m r = through_same (gate t.bound m (kind_of r) (time_of r)) m r

  filled_same : (m : Machine) (r : Record) → filled t' m r ≡ filled t m r
  unfolding filled
  filled_same m (Change time input) = refl
  filled_same m (Poll time input) = refl
  filled_same m (Test time v) = rw (verdict_same m time) refl
  filled_same m (Tick time q) = rw (state_same m) refl
  filled_same m (End time) = refl

  module _ (F : Form) where
    completed_same : (m : Machine) (r : Record) → completed F t' m r ≡ completed F t m r
    completed_same m r = ap (λ x. if F.valued then r else x) (filled_same m r)

    walk_same : (items : Items) (m : Machine) → walk F t' m items ≡ walk F t m items
    unfolding walk
    walk_same (item place r rest) m =
        let one = completed_same m r in
        let stepped : step t' m (completed F t' m r) ≡ step t m (completed F t m r) = ap (step t' m) one ∙ step_same m (completed F t m r) in
        rw (stepped, one) (ap (onwards (step t m (completed F t m r)) place (completed F t m r)) (fun_ext (walk_same rest)))
    walk_same done m = refl
    walk_same (broken refusal place) m = refl

    records_same : (s : List ℕ) (input : ℕ) → records_run F t' s input ≡ records_run F t s input
    unfolding records_run emptied
    records_same s input = ap (ran_from input) (walk_same (items_of F (in_table F t) s) (start t.initial input))

    pub run_same : (s : List ℕ) → run_over F t' s ≡ run_over F t s
    unfolding run_over run_opened emptied
    run_same s = ap (λ r. if F.most <? length s then too_long else r) (go (opening_of F t.inputs s))
      where
        go : (o : Opening) → run_opened F t' s o ≡ run_opened F t s o
        go (Err refusal) = refl
        go (Ok input) = records_same s input

  most_same : (rs : List Record) (m : Machine) → most_left t' m rs ≡ most_left t m rs
  unfolding machine.most
  most_same [] m = refl
  most_same (r ∷ rs) m =
      ap (λ n. max (if is_test r then n else 0) (most_left t' (after t' m r) rs)) (left_same m _)
      ∙ ap (max _) (ap (λ m'. most_left t' m' rs) (after_same m r) ∙ most_same rs (after t m r))

  pub answers_same : (F : Form) (s : List ℕ) → check_under F t' s ≡ check_under F t s
  unfolding answer_of_run emptied
  answers_same F s = ap (answer_of_run t') (run_same F s) ∙ go (run_over F t s)
    where
      go : (r : RunOverBytes) → answer_of_run t' r ≡ answer_of_run t r
      go (ran input taken last) = rw (most_same taken (start t.initial input)) refl
      go too_long = refl
      go (refused refusal place) = refl

  -- ---- The calculators

  -- Whether a weight comes from a hold is not changed by a set without one; so no weight is, and no need.
  from_hold_same : (A p : ℕ) → from_hold t' A p ≡ from_hold t A p
  unfolding emptied
  from_hold_same A p = ap by (set_is p) ∙ go (hold_of t p)
    where
      by : ℕ → Bool
      by set = (0 <? hold_of t p) and some t.inputs (λ a. member A a and member set a)

      go : (hold : ℕ) → ((0 <? hold) and some t.inputs (λ a. member A a and member (new_set hold (delayed_of t p)) a)) ≡
          ((0 <? hold) and some t.inputs (λ a. member A a and member (delayed_of t p) a))
      go zero = refl
      go (suc hold) = rw (has_hold hold (delayed_of t p)) refl

  weights_same : (A : ℕ) → weight t' A ≡ weight t A
  unfolding weight_of emptied
  weights_same A = fun_ext (λ p. ap (λ held. if held then hold_of t p + 2 * t.bound else t.bound) (from_hold_same A p))

  needs_same : (A : ℕ) → need_of t' A ≡ need_of t A
  unfolding need_of emptied
  needs_same A = fun_ext (λ p. ap (λ held. if held then hold_of t p + 3 * t.bound - 2 else 2 * t.bound - 1) (from_hold_same A p))

  tight_weights_same : (A : ℕ) → tight_weight t' A ≡ tight_weight t A
  unfolding tight_weight emptied
  tight_weights_same A = fun_ext (λ p. ap (λ held. if held then hold_of t p + 2 * t.bound - 1 else t.bound) (from_hold_same A p))

  -- One move.
  time_same : (P A : ℕ) → reaction_time t' P A ≡ reaction_time t P A
  unfolding reaction_time next_set emptied
  time_same P A = ap (λ w. t.bound + largest t.states (off_target P (next_set t P A)) w) (weights_same A)

  pub reactions_same : (P A : ℕ) → reaction_of t' P A ≡ reaction_of t P A
  unfolding reaction_of first_leaving next_set emptied
  reactions_same P A = rw (time_same P A) refl

  pub tight_same : (P A : ℕ) → tight_time t' P A ≡ tight_time t P A
  unfolding tight_time next_set emptied
  tight_same P A =
      let target = next_set t P A in
      ap (λ need. if some t.states (off_target P target) then largest t.states (off_target P target) need else t.bound) (needs_same A)

  -- Several moves.
  target_same : (P A n : ℕ) → next_times t' P A n ≡ next_times t P A n
  unfolding next_times next_set emptied
  target_same P A zero = refl
  target_same P A (suc n) = ap (λ M. next_set t M A) (target_same P A n)

  pub judge_same : (P A n sums path : ℕ) → judge t' P A n sums path ≡ judge t P A n sums path
  unfolding judge first_leaving emptied
  judge_same P A n sums path = refl

  module _ (P A N : ℕ) {w' w : ℕ → ℕ} (same : w' ≡ w) where
    round_same : (row : List ℕ) → round t' P A N w' row ≡ round t P A N w row
    unfolding round emptied
    round_same row = ap (λ w. values (λ q. if off_target P N q then w q + most_ahead t P A N row q else 0) t.states) same

    sums_same : (k : ℕ) → sums_of t' P A N w' k ≡ sums_of t P A N w k
    unfolding sums_of emptied
    sums_same zero = refl
    sums_same (suc k) = ap (round t' P A N w') (sums_same k) ∙ round_same (sums_of t P A N w k)

    rows_same : (n : ℕ) → rows t' P A N w' n ≡ rows t P A N w n
    unfolding rows
    rows_same zero = refl
    rows_same (suc n) = rw (rows_same n, sums_same (suc n)) refl

    from_same : (follow q : ℕ) → path_from t' P A N w' follow q ≡ path_from t P A N w follow q
    unfolding path_from emptied
    from_same zero q = refl
    from_same (suc k) q = rw (sums_same (suc k), from_same k _) refl

    largest_same : (n : ℕ) → largest_sum t' P A N w' n ≡ largest_sum t P A N w n
    unfolding largest_sum emptied
    largest_same n = rw (sums_same n) refl

    path_same : (n : ℕ) → worst_path t' P A N w' n ≡ worst_path t P A N w n
    unfolding worst_path worst_start emptied
    path_same n = rw (largest_same n, sums_same n, from_same (n - 1) _) refl

  module _ (P A n : ℕ) where
    pub over_same : reaction_over t' P A n ≡ reaction_over t P A n
    unfolding reaction_over emptied
    over_same = rw (target_same P A n, largest_same P A (next_times t P A n) (weights_same A) n, path_same P A (next_times t P A n) (weights_same A) n) refl

    pub rows_over_same : (sums : List ℕ) → sums_over t' P A n sums ≡ sums_over t P A n sums
    unfolding sums_over emptied
    rows_over_same sums = rw (target_same P A n, rows_same P A (next_times t P A n) (weights_same A) n) refl

    pub path_over_same : (path : List ℕ) → path_over t' P A n path ≡ path_over t P A n path
    unfolding path_over
    path_over_same path = rw (target_same P A n, path_same P A (next_times t P A n) (weights_same A) n) refl

    pub tight_over_same : times_over t' P A n ≡ times_over t P A n
    unfolding times_over tight_time_over emptied
    tight_over_same = rw (over_same, target_same P A n, largest_same P A (next_times t P A n) (tight_weights_same A) n) refl
