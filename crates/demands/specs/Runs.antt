-- Demand 3 in the slots of records: docs/RULES.md, "Not too soon, not too late". It holds of every run of a table's timed automaton, of any
-- length; specs/Demands says it of accepted journals, whose records are such runs. proofs/Runs proves each.
use Rattle.std.specs.Prelude.{◌≡◌, List, true, ℕ, ◌+◌, ◌<◌, ◌≤◌}
use Rattle.sets.specs.Sets.{member}
use Rattle.table.specs.declared.Table.{Table}
use Rattle.table.specs.Table.{hold_of, delays, length_of, in_region, timer_delays, WellFormed}
use Rattle.records.specs.declared.Record.{Record}
use Rattle.reaction.specs.Answer.{Reacts}
use Rattle.reaction.specs.Reaction.{reaction_of}
use Rattle.moves.specs.Moves.{next_times, reaction_over}
use Rattle.tight.specs.Tight.{tight_time}
use Rattle.tight.specs.Several.{tight_time_over}
use Rattle.runs.specs.Automaton.{RunOf}
use Rattle.runs.specs.Slots.{input_at, state_at, EnteredAt, region_entry}

-- ---- What is said of records that end at T

-- q is entered at e, e ≤ k ≤ e + hold, k < T, and each slot from e to k - 1 has an input delayed in q. Then slot k has state q.
abbrev pub KeepsHolds : Table → (input : ℕ) → List Record → (T : ℕ) → Type 0
KeepsHolds t input records T =
    (q e k : ℕ) → EnteredAt t input records q e → e ≤ k → k ≤ e + hold_of t q → k < T →
    ((j : ℕ) → e ≤ j → j < k → delays t q (input_at t input records j) ≡ true) →
    state_at t input records k ≡ q

-- The same for timer k: q of its region is entered at f, the region's last entry up to f is at e, f ≤ n ≤ e + length, n < T, and each
-- slot from f to n - 1 has an input that the timer delays in q. Then slot n has state q.
abbrev pub KeepsTimer : Table → (k input : ℕ) → List Record → (T : ℕ) → Type 0
KeepsTimer t k input records T =
    (q f e n : ℕ) → in_region t k q ≡ true → EnteredAt t input records q f → region_entry t k f records ≡ e → f ≤ n → n ≤ e + length_of t k → n < T →
    ((j : ℕ) → f ≤ j → j < n → timer_delays t k q (input_at t input records j) ≡ true) →
    state_at t input records n ≡ q

-- Each slot from s to s + c - 1 has its state in P and its input in A.
abbrev pub StaysIn : Table → (input : ℕ) → List Record → (P A s c : ℕ) → Type 0
StaysIn t input records P A s c =
    (k : ℕ) → s ≤ k → k < s + c → (member P (state_at t input records k) ≡ true) × (member A (input_at t input records k) ≡ true)

-- s + c < T, and that is so. Then slot s + c has its state in the target.
abbrev pub InTime : Table → (input : ℕ) → List Record → (T P A c target : ℕ) → Type 0
InTime t input records T P A c target =
    (s : ℕ) → s + c < T → StaysIn t input records P A s c → member target (state_at t input records (s + c)) ≡ true

-- ---- Every run

-- So it is of every run of the table's timed automaton, of any length, with its first input, its records and its end.
abbrev pub EveryRun : Table → ((input : ℕ) → List Record → (T : ℕ) → Type 0) → Type 0
EveryRun t Says = (input : ℕ) (records : List Record) (T : ℕ) → RunOf t input records T → Says input records T

-- Not too soon, by the hold ..
abbrev pub RunsNotTooSoon : Type 0
RunsNotTooSoon = (t : Table) → WellFormed t → EveryRun t (KeepsHolds t)

-- .. and by each timer.
abbrev pub RunsNotTooSoonBy : Type 0
RunsNotTooSoonBy = (t : Table) → WellFormed t → (k : ℕ) → k < t.timers → EveryRun t (KeepsTimer t k)

-- Sets for which the calculators give times: the table has holds, the sets are within it and next(P, A) lies in P, so that for one move
-- they have the time c and the target.
pub record Calculated (t : Table) (P A c target : ℕ) : Type 0 where
  pub well_formed : WellFormed t
  pub no_timers : t.timers ≡ 0
  pub answer : reaction_of t P A ≡ Reacts c target

-- Not too late, with the time and the target for one move ..
abbrev pub RunsNotTooLate : Type 0
RunsNotTooLate = (t : Table) (P A c target : ℕ) → Calculated t P A c target →
    EveryRun t (λ input records T. InTime t input records T P A c target)

-- .. with those for any number of moves ..
abbrev pub RunsNotTooLateByMoves : Type 0
RunsNotTooLateByMoves = (t : Table) (P A c target : ℕ) → Calculated t P A c target → (n : ℕ) →
    EveryRun t (λ input records T. InTime t input records T P A (reaction_over t P A n).time (reaction_over t P A n).target)

-- .. with the tight time in the place of c ..
abbrev pub RunsNotTooLateTight : Type 0
RunsNotTooLateTight = (t : Table) (P A c target : ℕ) → Calculated t P A c target →
    EveryRun t (λ input records T. InTime t input records T P A (tight_time t P A) target)

-- .. and with the tight time for any number of moves.
abbrev pub RunsNotTooLateTightByMoves : Type 0
RunsNotTooLateTightByMoves = (t : Table) (P A c target : ℕ) → Calculated t P A c target → (n : ℕ) →
    EveryRun t (λ input records T. InTime t input records T P A (tight_time_over t P A n) (next_times t P A n))
