-- The theorems about journals, as specs/Journals states them.
use mathlib.Core.Path.{◌≡◌, refl, sym, ap, ◌∙◌}
use mathlib.Core.List.{List, [], ◌∷◌, ◌++◌}
use mathlib.Core.Bool.{true}
use Prim.Native.Nat.{ℕ}
use native.Mathlib.Omega.{arith}
use borrow.Author.Tests.{eq-eqb}
use Rattle.std.specs.Prelude.{Ok}
use Rattle.wire.specs.Encode.{Bytes}
use Rattle.wire.proofs.Apart.{apart}
use Rattle.table.specs.declared.Table.{Table}
use Rattle.table.specs.Table.{output_of, WellFormed}
use Rattle.table.specs.Encode.{table_bytes}
use Rattle.table.specs.Check.{table_answer}
use Rattle.table.proofs.Under.{under_passes, under_passed}
use Rattle.records.specs.declared.Record.{Record}
use Rattle.records.specs.declared.Record.TheVariants.{End}
use Rattle.records.specs.Form.{Form, journal, short}
use Rattle.records.specs.Encode.{Recovers}
use Rattle.records.proofs.Written.{journal_recovers, short_recovers}
use Rattle.records.proofs.Says.{keeps_all}
use Rattle.machine.specs.declared.Machine.{Machine}
use Rattle.machine.specs.Machine.{start, after}
use Rattle.machine.specs.Run.{Runs, ticks_of, state_from, moves_from, most_left}
use Rattle.machine.specs.Most.{most}
use Rattle.machine.specs.Walk.{RunOverBytes, ran, too_long, refused, run_over}
use Rattle.machine.proofs.Counts.{ticks_more}
use Rattle.journal.specs.declared.Numbers.{Numbers}
use Rattle.journal.specs.Check.{check_in, numbers_of, answer_of_run, check_under, check_of}
use Rattle.machine.specs.RunsOver.{RunsOver}
use Rattle.laws.specs.Journals.{AcceptedRun, AcceptsExactly, ChecksExactly}
use Rattle.laws.proofs.Tables.{passes_exactly, holds_that_table}
use Rattle.machine.proofs.RunsOver.{over_runs, runs_over}

-- ---- Acceptance

pub ends_at : (t : Table) (end : ℕ) (m last : Machine) (rs : List Record) → Runs t m (rs ++ End end ∷ []) last → end ≡ last.time
ends_at t end m last [] (taken, same) = ap (λ x. x.time) same
ends_at t end m last (r ∷ rs) (taken, more) = ends_at t end (after t m r) last rs more

-- The end is no tick, no move and no test.
ticks_end : (rs : List Record) (end : ℕ) → ticks_of (rs ++ End end ∷ []) ≡ ticks_of rs
ticks_end rs end = ticks_more rs (End end) ∙ omega arith

moves_end : (q : ℕ) (rs : List Record) (end : ℕ) → moves_from q (rs ++ End end ∷ []) ≡ moves_from q rs
unfolding moves_from
moves_end q [] end = rw (eq-eqb q q refl) refl
moves_end q (r ∷ rs) end = rw (moves_end (state_from q r) rs end) refl

pub left_end : (t : Table) (m : Machine) (rs : List Record) (end : ℕ) → most_left t m (rs ++ End end ∷ []) ≡ most_left t m rs
unfolding most
left_end t m [] end = refl
left_end t m (r ∷ rs) end = rw (left_end t (after t m r) rs end) refl

module _ (F : Form) (valued : F.valued ≡ true) (t : Table) (s : List ℕ) (n : Numbers) where
  abbrev AsRun : Type 0
  AsRun = AcceptedRun F t s n

  pub run_accepted : AsRun → check_under F t s ≡ Ok n
  unfolding answer_of_run
  run_accepted a =
      let end = n.end in
      let taken = a.records ++ End end ∷ [] in
      let over : RunsOver F t s a.input taken a.last = record { short = a.short; said = a.records; end = end; written = a.written; says = keeps_all F valued taken; runs = a.runs } in
      let time = ends_at t end (start t.initial a.input) a.last a.records a.runs in
      rw (
        runs_over F t s a.input taken a.last over,
        ticks_end,
        moves_end,
        left_end,
        a.output_is,
        a.state_is,
        a.ticks_are,
        a.moves_are,
        a.left_is,
        a.longest_is,
        ← time,
      )

  through : (input : ℕ) (taken : List Record) (last : Machine) → RunsOver F t s input taken last →
      numbers_of t input taken last ≡ n → AsRun
  through input taken last h is =
      let all : taken ≡ h.said ++ End h.end ∷ [] = sym (keeps_all F valued taken) ∙ h.says in
      let runs = rw all at h.runs in
      let same : h.end ≡ n.end = ends_at t h.end (start t.initial input) last h.said runs ∙ ap (λ x. x.end) is in
      record {
        short = h.short;
        input = input;
        records = h.said;
        written = rw same at h.written;
        last = last;
        runs = rw same at runs;
        ticks_are = sym (ap (λ x. x.ticks) is) ∙ ap ticks_of all ∙ ticks_end h.said h.end;
        moves_are = sym (ap (λ x. x.moves) is) ∙ ap (moves_from t.initial) all ∙ moves_end t.initial h.said h.end;
        state_is = sym (ap (λ x. x.state) is);
        output_is = sym (ap (λ x. x.output) is) ∙ ap (λ x. output_of t x.state) is;
        left_is = sym (ap (λ x. x.left) is) ∙ ap (most_left t (start t.initial input)) all ∙ left_end t (start t.initial input) h.said h.end;
        longest_is = sym (ap (λ x. x.longest) is);
      }

  accepted_run : Recovers F → Bytes s → check_under F t s ≡ Ok n → AsRun
  unfolding answer_of_run
  accepted_run tells bytes e = go (run_over F t s) refl e
    where
      go : (r : RunOverBytes) → run_over F t s ≡ r → answer_of_run t r ≡ Ok n → AsRun
      go (ran input taken last) is f = through input taken last (over_runs F t s input taken last tells bytes is) cc
      go too_long is f = apart cc
      go (refused refusal place) is f = apart cc

pub accepts_exactly : (F : Form) → AcceptsExactly F
accepts_exactly F valued tells t s bytes n = (accepted_run F valued t s n tells bytes, run_accepted F valued t s n)

-- ---- The entries

module _ (F : Form) (table s : List ℕ) where
  under_in : (t : Table) → WellFormed t → table ≡ table_bytes t → check_under F t s ≡ check_in F table s
  unfolding check_in
  under_in t ok is =
      let h = holds_that_table table t ok is in
      sym (under_passes _ _ table h.0 ∙ ap (λ x. check_under F x s) h.1)

  table_passes : (n : Numbers) → check_in F table s ≡ Ok n → table_answer table ≡ Ok tt
  unfolding check_in
  table_passes n e = under_passed _ _ table _ (λ a f. apart cc) e

checks_in : (F : Form) → F.valued ≡ true → Recovers F → ChecksExactly F
checks_in F valued tells table s bytes_of_table bytes n = (
  (λ e.
      let p = (passes_exactly table bytes_of_table).0 (table_passes F table s n e) in
      let answer = under_in F table s p.0 p.1 p.2 ∙ e in
      (p.0, p.1, p.2, accepted_run F valued p.0 s n tells bytes answer)),
  (λ p. sym (under_in F table s p.0 p.1 p.2) ∙ run_accepted F valued p.0 s n p.3),
)

pub under : (table s : List ℕ) (t : Table) → WellFormed t → table ≡ table_bytes t → check_under journal t s ≡ check_of table s
under = under_in journal

pub checks_exactly : ChecksExactly journal
checks_exactly = checks_in journal refl journal_recovers

pub checks_short_exactly : ChecksExactly short
checks_short_exactly = checks_in short refl short_recovers
