-- The runtime never gives 28: what it turns down is the reader's, or a record that the machine itself completed.
use mathlib.Core.Path.{◌≡◌, refl, ap}
use mathlib.Core.List.{List}
use mathlib.Core.Bool.{Bool, true, false, not}
use Prim.Native.Nat.{ℕ, suc, ◌+◌, ◌*◌, ◌≤◌}
use native.Mathlib.Omega.{arith}
use borrow.Author.Tests.{eq-eqb}
use lib.ListN.{length}
use Rattle.std.specs.Prelude.{if◌then◌else◌, Ok, Err}
use Rattle.wire.specs.Choice.{◌<?◌}
use Rattle.wire.proofs.Apart.{apart}
use Rattle.wire.proofs.Made.{answer_made, answer_either}
use Rattle.table.specs.declared.Table.{Table}
use Rattle.table.specs.Check.{table_in}
use Rattle.table.proofs.Under.{under_either}
use Rattle.records.specs.declared.Record.{Record}
use Rattle.records.specs.declared.Record.TheVariants.{Change, Poll, Test, Tick, End}
use Rattle.records.specs.declared.Refusal.TheVariants.{TimeFalls, PastBound, WrongPhase, Unsettled, Differs}
use Rattle.records.specs.Reading.{Opening}
use Rattle.records.specs.declared.Stop.{Stop}
use Rattle.records.specs.Record.{time_of}
use Rattle.records.specs.Refusal as reader
use Rattle.records.specs.Refusal.{number_of}
use Rattle.records.specs.Form.{stimulus}
use Rattle.records.specs.Reading.{Items, item, done, broken, opening_of, items_of}
use Rattle.records.proofs.Places.{OpensWell, opens_well, Within, items_within}
use Rattle.machine.specs.declared.Machine.{Machine}
use Rattle.machine.specs.Step.{Step}
use Rattle.machine.specs.Machine.{kind_of, allowed, settled, verdict, state_after, agrees, after, gate, through, step, start}
use Rattle.machine.specs.Walk.{in_table, filled, Walk, ended, stopped, took, onwards, walk, RunOverBytes, ran, too_long, refused, ran_from, records_run, run_opened, run_over}
use Rattle.writing.specs.declared.Refusal.TheVariants as why
use Rattle.runtime.specs.declared.Refusal.TheVariants.{Journal}
use Rattle.runtime.specs.Answer.{RuntimeAnswer}
use Rattle.runtime.specs.Run.{made_of_run, run_of}
use Rattle.laws.specs.Runtimes.{NeverDiffers}

-- ---- The machine, on a record that agrees with it

abbrev Agrees : Step → Type 0
Agrees (Ok m) = Unit
Agrees (Err refusal) = number_of refusal ≤ 27

agreed : (t : Table) (m : Machine) (r : Record) → agrees t m r ≡ true → Agrees (step t m r)
unfolding step gate
agreed t m r e = go (time_of r <? m.time) (m.start + t.bound <? time_of r) (allowed m.phase (kind_of r))
  where
    last : (d : Bool) → Agrees (if not d then Err Unsettled else if not (agrees t m r) then Err Differs else Ok (after t m r))
    last true = rw e tt
    last false = omega arith

    go : (a b c : Bool) → Agrees (through (if a then Err TimeFalls else if b then Err PastBound else if not c then Err WrongPhase else Ok tt) t m r)
    go true b c = omega arith
    go false true c = omega arith
    go false false false = omega arith
    go false false true = last (settled m r)

pub filled_agrees : (t : Table) (m : Machine) (r : Record) → agrees t m (filled t m r) ≡ true
unfolding filled
filled_agrees t m (Change time input) = refl
filled_agrees t m (Poll time blank) = eq-eqb m.input m.input refl
filled_agrees t m (Test time blank) = eq-eqb (verdict t m time) (verdict t m time) refl
filled_agrees t m (Tick time blank) = eq-eqb (state_after t m) (state_after t m) refl
filled_agrees t m (End time) = refl

-- ---- The walk over a stimulus

abbrev Fine : Walk → Type 0
Fine (ended taken last) = Unit
Fine (stopped refusal place) = number_of refusal ≤ 27

took_fine : (r : Record) (w : Walk) → Fine w → Fine (took r w)
took_fine r (ended taken last) h = tt
took_fine r (stopped refusal place) h = h

walk_fine : (limit : ℕ) (t : Table) (m : Machine) (items : Items) → Within limit items → Fine (walk stimulus t m items)
unfolding walk
walk_fine limit t m (item place e rest) (low, more) =
    taken (step t m (filled t m e)) (agreed t m (filled t m e) (filled_agrees t m e)) (λ m'. walk_fine limit t m' rest more)
  where
    taken : (a : Step) → Agrees a → ((m' : Machine) → Fine (walk stimulus t m' rest)) → Fine (onwards a place (filled t m e) (λ m'. walk stimulus t m' rest))
    taken (Ok m') h later = took_fine (filled t m e) (walk stimulus t m' rest) (later m')
    taken (Err refusal) h later = h
walk_fine limit t m done w = tt
walk_fine limit t m (broken refusal place) w = omega (arith, w.0)

abbrev FineRun : RunOverBytes → Type 0
FineRun (ran input taken last) = Unit
FineRun too_long = Unit
FineRun (refused refusal place) = number_of refusal ≤ 27

run_fine : (t : Table) (s : List ℕ) → FineRun (run_over stimulus t s)
unfolding run_over run_opened records_run items_of
run_fine t s = go (stimulus.most <? length s)
  where
    walked : (input : ℕ) (w : Walk) → Fine w → FineRun (ran_from input w)
    walked input (ended taken last) h = tt
    walked input (stopped refusal place) h = h

    begun : (o : Opening) → OpensWell o → FineRun (run_opened stimulus t s o)
    begun (Err refusal) h = omega arith
    begun (Ok input) h =
        let limit = 4 + 8 * suc (length s) in
        let within = items_within stimulus (in_table stimulus t) s limit (suc (length s)) 4 0 (omega arith) in
        let items = items_of stimulus (in_table stimulus t) s in
        walked input (walk stimulus t (start t.initial input) items) (walk_fine limit t (start t.initial input) items within)

    go : (b : Bool) → FineRun (if b then too_long else run_opened stimulus t s (opening_of stimulus t.inputs s))
    go true = tt
    go false = begun (opening_of stimulus t.inputs s) (opens_well 0x20 4 4 t.inputs s)

-- ---- The answer

abbrev Never : ℕ → RuntimeAnswer → Type 0
Never place a = a ≡ Err (Journal (why.Record (reader.stopped Differs place))) → ⊥

made_never : (place : ℕ) (r : RunOverBytes) → FineRun r → Never place (answer_made (made_of_run r))
unfolding made_of_run
made_never place (ran input taken last) h e = apart cc
made_never place too_long h e = apart cc
made_never place (refused refusal p) h e = let same : reader.stopped refusal p ≡ reader.stopped Differs place = cc in let low : 28 ≤ 27 = rw (ap (λ (x : Stop). x.refusal) same) at h in omega arith

pub never_differs : NeverDiffers
unfolding run_of
never_differs table s room place =
    answer_either (Never place) _ (λ e. apart cc) (run_of table s)
    (under_either _ _ table (λ m. Never place (answer_made m))
    (λ passed. made_never place (run_over stimulus (table_in table) s) (run_fine (table_in table) s)) (λ refusal is e. apart cc)) room
