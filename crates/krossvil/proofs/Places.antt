-- Numbers and places of the other refusals fit too. Of n records the last starts within 8 × n bytes.
use mathlib.Core.Path.{◌≡◌, refl}
use mathlib.Core.List.{List}
use mathlib.Core.Bool.{Bool, true, false, not}
use Prim.Native.Nat.{ℕ, suc, ◌*◌, ◌^◌, ◌≤◌}
use native.Mathlib.Nat.{mul-le-mul}
use native.Mathlib.Omega.{arith}
use borrow.Author.Tests.{ltb-false, ltb-true}
use lib.ListN.{length}
use Rattle.std.specs.Prelude.{Ok, Err, if◌then◌else◌}
use Rattle.wire.specs.Choice.{◌<?◌, ◌=?◌}
use Rattle.wire.specs.Reply.{refuses}
use Rattle.table.specs.declared.Table.{Table}
use Rattle.table.specs.Table.{WellFormed}
use Rattle.table.specs.Check.{table_in}
use Rattle.table.proofs.Under.{under_either}
use Rattle.table.proofs.WellFormed.{well_formed}
use Rattle.records.specs.declared.Record.{Record}
use Rattle.records.specs.declared.Refusal.{Refusal}
use Rattle.records.specs.declared.Refusal.TheVariants.{RunsOut, UnknownField, Misplaced, OutOfRange, TimeFalls, PastBound, WrongPhase, Unsettled, Differs}
use Rattle.records.specs.Refusal.{number_of, records_ruled}
use Rattle.records.specs.Refusal as stops
use Rattle.records.specs.Form.{Form, journal, short, longest_journal}
use Rattle.records.specs.Reading.{Opening, Items, item, done, broken, opening_of, items_of}
use Rattle.records.proofs.Places.{Within, items_within}
use Rattle.machine.specs.declared.Machine.{Machine}
use Rattle.machine.specs.Machine.{start, step}
use Rattle.machine.specs.Step.{Step}
use Rattle.machine.specs.Walk.{in_table, completed, Walk, ended, stopped, took, onwards, walk, RunOverBytes, ran, too_long, refused, ran_from, records_run, run_opened, run_over}
use Rattle.journal.specs.Answer as journal'
use Rattle.journal.specs.Check.{answer_of_run, check_under, check_in, check_of, check_short_of}
use Rattle.journal.specs.declared.Refusal.TheVariants as checked
use Rattle.reaction.specs.declared.Refusal.TheVariants as why
use Rattle.reaction.specs.Answer as reaction
use Rattle.reaction.specs.Reaction.{first_leaving, reaction_time, next_set, for_holds, reaction_of, react_of}
use Rattle.krossvil.specs.Small.{Fits}
use Rattle.krossvil.proofs.Refusals.{Refuses, fits_of}
use Rattle.krossvil.proofs.TablePlaces.{table_refuses}

-- ---- A record's refusal

pub refusal_high : (x : Refusal) → 20 ≤ number_of x
refusal_high RunsOut = omega arith
refusal_high UnknownField = omega arith
refusal_high Misplaced = omega arith
refusal_high OutOfRange = omega arith
refusal_high TimeFalls = omega arith
refusal_high PastBound = omega arith
refusal_high WrongPhase = omega arith
refusal_high Unsettled = omega arith
refusal_high Differs = omega arith

pub of_record : (x : Refusal) (place : ℕ) → place ≤ 1000000 → Refuses (refuses (number_of x) place)
of_record x place p = record { ruled = records_ruled (stops.stopped x place); place = omega arith }

-- ---- The walk stops at the place of an item, or where the items break off

abbrev StopsBy : ℕ → Walk → Type 0
StopsBy limit (ended taken last) = Unit
StopsBy limit (stopped refusal place) = place ≤ limit

took_by : (limit : ℕ) (r : Record) (w : Walk) → StopsBy limit w → StopsBy limit (took r w)
took_by limit r (ended taken last) h = tt
took_by limit r (stopped refusal place) h = h

walk_by : (limit : ℕ) (F : Form) (t : Table) (m : Machine) (items : Items) → Within limit items → StopsBy limit (walk F t m items)
unfolding walk
walk_by limit F t m (item place r rest) (low, more) = taken (step t m (completed F t m r)) (λ m'. walk_by limit F t m' rest more)
  where
    taken : (a : Step) → ((m' : Machine) → StopsBy limit (walk F t m' rest)) → StopsBy limit (onwards a place (completed F t m r) (λ m'. walk F t m' rest))
    taken (Ok m') later = took_by limit (completed F t m r) (walk F t m' rest) (later m')
    taken (Err refusal) later = low
walk_by limit F t m done w = tt
walk_by limit F t m (broken refusal place) w = w.1

abbrev pub RunBy : RunOverBytes → Type 0
RunBy (ran input taken last) = Unit
RunBy too_long = Unit
RunBy (refused refusal place) = place ≤ 1000000

pub run_by : (F : Form) → F.most ≤ longest_journal → (t : Table) (s : List ℕ) → RunBy (run_over F t s)
unfolding run_over run_opened records_run items_of
run_by F few t s = go (F.most <? length s) refl
  where
    walked : (input : ℕ) (w : Walk) → StopsBy 1000000 w → RunBy (ran_from input w)
    walked input (ended taken last) h = tt
    walked input (stopped refusal place) h = h

    begun : length s ≤ F.most → (o : Opening) → RunBy (run_opened F t s o)
    begun short (Err refusal) = omega arith
    begun short (Ok input) =
        let items = items_of F (in_table F t) s in
        let within = items_within F (in_table F t) s 1000000 (suc (length s)) 4 0 (omega arith) in
        walked input (walk F t (start t.initial input) items) (walk_by 1000000 F t (start t.initial input) items within)

    go : (b : Bool) → (F.most <? length s) ≡ b → RunBy (if b then too_long else run_opened F t s (opening_of F t.inputs s))
    go true e = tt
    go false e = begun (ltb-false F.most (length s) e) (opening_of F t.inputs s)

-- ---- The entries

pub checked_fits : (F : Form) → F.most ≤ longest_journal → (table s : List ℕ) → Fits (journal'.reply_of (check_in F table s))
unfolding check_in answer_of_run
checked_fits F few table s =
    under_either (λ why. Err (checked.Table why)) (λ t. check_under F t s) table (λ a. Fits (journal'.reply_of a)) (λ e. under (table_in table))
    (λ why e. fits_of _ (table_refuses false table why e))
  where
    answered : (t : Table) (r : RunOverBytes) → RunBy r → Fits (journal'.reply_of (answer_of_run t r))
    answered t (ran input taken last) h = record { number = omega arith; place = omega arith }
    answered t too_long h = record { number = omega arith; place = omega arith }
    answered t (refused refusal place) h = fits_of _ (of_record refusal place h)

    under : (t : Table) → Fits (journal'.reply_of (check_under F t s))
    under t = answered t (run_over F t s) (run_by F few t s)

pub journal_fits : (table s : List ℕ) → Fits (journal'.reply_of (check_of table s))
journal_fits table s = checked_fits journal (omega arith) table s

pub short_fits : (table s : List ℕ) → Fits (journal'.reply_of (check_short_of table s))
short_fits table s = checked_fits short (omega arith) table s

pub reaction_fits : (table : List ℕ) (P A : ℕ) → Fits (reaction.reply_of (react_of table P A))
unfolding react_of for_holds reaction_of
reaction_fits table P A =
    under_either (λ refusal. Err (why.Table refusal)) (for_holds (Err why.HasTimers) (λ t. reaction_of t P A)) table (λ a. Fits (reaction.reply_of a))
    (λ e. by_kind ((table_in table).timers =? 0) (table_in table) (under (table_in table) (well_formed table e))) (λ refusal e. fits_of _ (table_refuses false table refusal e))
  where
    by_kind : (b : Bool) (t : Table) → Fits (reaction.reply_of (reaction_of t P A)) → Fits (reaction.reply_of (if b then reaction_of t P A else Err why.HasTimers))
    by_kind true t fits = fits
    by_kind false t fits = record { number = omega arith; place = omega arith }

    under : (t : Table) → WellFormed t → Fits (reaction.reply_of (reaction_of t P A))
    under t good = go (not (P <? 2 ^ t.states)) (not (A <? 2 ^ t.inputs)) (first_leaving t P A <? t.states * t.inputs) refl
      where
        go : (b c d : Bool) → (first_leaving t P A <? t.states * t.inputs) ≡ d →
            Fits (reaction.reply_of (if b then Err why.UnknownState else if c then Err why.UnknownInput
            else if d then Err (why.LeavesStates (first_leaving t P A)) else reaction.Reacts (reaction_time t P A) (next_set t P A)))
        go true c d e = record { number = omega arith; place = omega arith }
        go false true d e = record { number = omega arith; place = omega arith }
        go false false true e =
            let many : t.states * t.inputs ≤ 1024 = mul-le-mul good.states.1 good.inputs.1 in
            let low = ltb-true (first_leaving t P A) (t.states * t.inputs) e in
            record { number = omega arith; place = omega arith }
        go false false false e = record { number = omega arith; place = omega arith }
