-- A host's numbers are those of the report with the same journals, as specs/HostReports states it.
use mathlib.Core.Path.{◌≡◌, refl, sym, ap, ◌∙◌}
use mathlib.Core.List.{List, [], ◌∷◌, ◌++◌, append-nil}
use mathlib.Core.Bool.{Bool, true, false}
use Prim.Native.Nat.{ℕ, zero, suc, ◌+◌, ◌*◌, ◌%◌, ◌^◌, ◌<◌, ◌≤◌}
use native.Mathlib.Nat.{mod-eq_of_lt, mul-le-mul}
use native.Mathlib.Omega.{arith}
use borrow.Author.Tests.{le-ltb, leb-false, ne_eqb}
use lib.ListN.{length, get_or, take, length-append, length-replicate, replicate-append-replicate}
use lib.Seq.{length-take-le, get_or-take, ext_get_or}
use Rattle.std.proofs.lemmas.List.{take-replicate}
use Rattle.std.specs.Prelude.{if◌then◌else◌, Ok, Err}
use Rattle.wire.specs.Choice.{◌≤?◌}
use Rattle.wire.specs.Reply.{Reply, gives, refuses}
use Rattle.table.specs.declared.Table.{Table}
use Rattle.table.specs.Check.{table_answer, table_in}
use Rattle.table.specs.Entries.{values, zeros}
use Rattle.table.proofs.Under.{under_passes}
use Rattle.table.proofs.Values.{length-values, get_or-values}
use Rattle.table.proofs.WellFormed.{well_formed}
use Rattle.records.specs.declared.Record.{Record}
use Rattle.records.specs.Form.{journal}
use Rattle.records.proofs.Places.{refusal_numbered}
use Rattle.machine.specs.Walk.{RunOverBytes, ran, too_long, refused, run_over}
use Rattle.journal.specs.Answer as check
use Rattle.journal.specs.Check.{answer_of_run, check_under, check_in}
use Rattle.tally.specs.declared.Tally.{Tally}
use Rattle.tally.specs.Sums.{summed}
use Rattle.tally.specs.Tally.{tally_of, tally_in}
use Rattle.tally.specs.Counting.{Sized}
use Rattle.tally.proofs.Sums.{none_more}
use Rattle.tally.proofs.More.{summed-length}
use Rattle.report.specs.declared.Refusal.TheVariants.{Full}
use Rattle.report.specs.declared.Report.{Report}
use Rattle.report.specs.Answer.{reply_of}
use Rattle.report.specs.Report as added
use Rattle.report.specs.Report.{most_journals, begin_of, table_kept, with_tally, as_it_was, added_by, add_under, add_of}
use Rattle.report.specs.Rows.{places_of, row_of}
use Rattle.krossvil.specs.Host.{buffer_after, room_for, after_check, report_told}
use Rattle.laws.specs.Reports.{added_all, NoneFull}
use Rattle.laws.proofs.Reports.{begun_with, kept_table, any_order, tells_all}
use Rattle.demands.specs.HostReports.{begun_in_c, added_in_c, told_in_c, numbers_kept, replies_of, SameReport, NeverFull, SumsInC, AnyOrderInC}

-- ---- Sums of rows

summed_both : (a b c d : List ℕ) → length a ≡ length c → summed (a ++ b) (c ++ d) ≡ summed a c ++ summed b d
unfolding summed
summed_both [] b [] d e = refl
summed_both [] b (n ∷ c) d e = absurd (let z : ⊥ = omega arith in z)
summed_both (x ∷ a) b [] d e = absurd (let z : ⊥ = omega arith in z)
summed_both (x ∷ a) b (n ∷ c) d e = ap (λ l. (x + n) % 2 ^ 64 ∷ l) (summed_both a b c d (omega arith))

-- What stands behind them is as it was.
summed_front : (a b c : List ℕ) → length a ≡ length c → summed (a ++ b) c ≡ summed a c ++ b
summed_front a b c e = ap (summed (a ++ b)) (sym (append-nil c)) ∙ summed_both a b c [] e ∙ ap (λ l. summed a c ++ l) (none_more b)

summed-take : (n : ℕ) (a b : List ℕ) → summed (take n a) (take n b) ≡ take n (summed a b)
unfolding summed
summed-take zero a b = refl
summed-take (suc n) [] b = refl
summed-take (suc n) (x ∷ a) [] = refl
summed-take (suc n) (x ∷ a) (y ∷ b) = ap (λ l. (x + y) % 2 ^ 64 ∷ l) (summed-take n a b)

-- Numbers that stand for a function.
take-values : (f : ℕ → ℕ) (n : ℕ) (l : List ℕ) → n ≤ length l → ((k : ℕ) → k < n → get_or l k 0 ≡ f k) → take n l ≡ values f n
take-values f n l room each =
    let size = length-take-le n l room in
    ext_get_or 0 (take n l) (values f n) (size ∙ sym (length-values f n))
    (λ k h. let low : k < n = rw size at h in get_or-take n l k 0 low ∙ each k low ∙ sym (get_or-values f n k low))

-- ---- The arrays of a report

-- As those of a journal.
abbrev arrays : Report → Tally
arrays x = record { dwell = x.dwell; pairs = x.pairs; entries = x.entries }

tally_sized : (t : Table) (input : ℕ) (rs : List Record) (T : ℕ) → Sized (tally_of t input rs T)
unfolding tally_of
tally_sized t input rs T = record { dwell = length-values _ 32; pairs = length-values _ 1024; entries = length-values _ 32 }

with_sized : (x : Report) (y : Tally) → Sized (arrays x) → Sized (arrays (with_tally x y))
unfolding with_tally
with_sized x y sized = record {
  dwell = summed-length x.dwell y.dwell ∙ sized.dwell;
  pairs = summed-length x.pairs y.pairs ∙ sized.pairs;
  entries = summed-length x.entries y.entries ∙ sized.entries;
}

-- 35 is what is replied where the report is full.
none_full : (ss : List (List ℕ)) (x : Report) → NeverFull (replies_of x ss) → NoneFull x ss
unfolding replies_of NoneFull
none_full [] x never = tt
none_full (s ∷ ss) x never = ((λ e. never.0 (ap reply_of e)), none_full ss (add_of x s).report never.1)

module _ (table : List ℕ) (passes : table_answer table ≡ Ok tt) where
  abbrev t : Table
  t = table_in table

  few_states : t.states ≤ 32
  few_states = (well_formed table passes).states.1

  few_pairs : t.states * t.inputs ≤ 1024
  few_pairs = mul-le-mul few_states (well_formed table passes).inputs.1

  record Long (y : Tally) : Type 0 where
    dwell : length (take t.states y.dwell) ≡ t.states
    pairs : length (take (t.states * t.inputs) y.pairs) ≡ t.states * t.inputs
    entries : length (take t.states y.entries) ≡ t.states

  long : (y : Tally) → Sized y → Long y
  long y sized = record {
    dwell = length-take-le t.states y.dwell (omega (arith, sized.dwell, few_states));
    pairs = length-take-le (t.states * t.inputs) y.pairs (omega (arith, sized.pairs, few_pairs));
    entries = length-take-le t.states y.entries (omega (arith, sized.entries, few_states));
  }

  -- The report keeps the table, its arrays, and at most so many journals.
  record Kept (x : Report) : Type 0 where
    own : table_kept x ≡ table
    sized : Sized (arrays x)
    few : x.journals ≤ most_journals

  -- ---- One journal

  module _ (x : Report) (kept : Kept x) (behind : List ℕ) where
    abbrev row : List ℕ
    row = numbers_kept t x ++ behind

    row_long : places_of t ≤ length row
    row_long =
        let l = long (arrays x) kept.sized in
        rw (length-append, length-append, length-append, l.dwell, l.pairs, l.entries) (omega arith)

    room_is : room_for (places_of t) row ≡ (if most_journals ≤? x.journals then refuses 35 0 else gives [])
    unfolding room_for
    room_is = rw (ne_eqb (length row) 0 (λ e. omega (arith, row_long)), le-ltb (length row) (places_of t) row_long) refl

    row_more : (y : Tally) → Sized y → x.journals < most_journals → summed row (row_of t y) ≡ numbers_kept t (with_tally x y) ++ behind
    unfolding row_of with_tally summed
    row_more y sized more =
        let l = long (arrays x) kept.sized in
        let m = long y sized in
        let D = take t.states x.dwell in
        let P = take (t.states * t.inputs) x.pairs in
        let N = take t.states x.entries in
        let D' = take t.states y.dwell in
        let P' = take (t.states * t.inputs) y.pairs in
        let N' = take t.states y.entries in
        let one : (x.journals + 1) % 2 ^ 64 ≡ x.journals + 1 = mod-eq_of_lt (omega arith) in
        let all : length (D ++ (P ++ N)) ≡ length (D' ++ (P' ++ N')) =
        rw (length-append D (P ++ N), length-append P N, length-append D' (P' ++ N'), length-append P' N') (omega (arith, l.dwell, l.pairs, l.entries, m.dwell, m.pairs, m.entries)) in
        rw (
          one,
          summed_front (D ++ (P ++ N)) behind (D' ++ (P' ++ N')) all,
          summed_both D (P ++ N) D' (P' ++ N') (l.dwell ∙ sym m.dwell),
          summed_both P N P' N' (l.pairs ∙ sym m.pairs),
          summed-take t.states x.dwell y.dwell,
          summed-take (t.states * t.inputs) x.pairs y.pairs,
          summed-take t.states x.entries y.entries,
        ) refl

    kept_more : (y : Tally) → x.journals < most_journals → Kept (with_tally x y)
    unfolding with_tally
    kept_more y more = record { own = kept.own; sized = with_sized x y kept.sized; few = omega arith }

    -- What is told, the numbers after it, and what the report keeps.
    abbrev Added : Reply → RunOverBytes → added.Added → Type 0
    Added told r a =
        (told ≡ reply_of a.answer) × (buffer_after told (summed row (row_of t (tally_in t r))) row ≡ numbers_kept t a.report ++ behind) × Kept a.report

    by_run : (r : RunOverBytes) → Added (after_check (check.reply_of (answer_of_run t r)) (room_for (places_of t) row)) r (added_by t x r)
    unfolding answer_of_run added_by buffer_after tally_in
    by_run (ran input taken last) = rw room_is (go (most_journals ≤? x.journals) refl)
      where
        y : Tally
        y = tally_of t input taken last.time

        go : (b : Bool) → (most_journals ≤? x.journals) ≡ b →
            Added (if b then refuses 35 0 else gives []) (ran input taken last) (if b then as_it_was x (Err Full) else record { answer = Ok tt; report = with_tally x y })
        go true is = (refl, refl, kept)
        go false is =
            let more = leb-false most_journals x.journals is in
            (refl, row_more y (tally_sized t input taken last.time) more, kept_more y more)
    by_run too_long = (refl, refl, kept)
    by_run (refused refusal place) = (refl, rw (refusal_numbered refusal) refl, kept)

    add_is : (s : List ℕ) → add_of x s ≡ added_by t x (run_over journal t s)
    unfolding add_of add_under
    add_is s = rw kept.own (under_passes _ _ table passes)

    one_added : (s : List ℕ) → Added (report_told table s row) (run_over journal t s) (add_of x s)
    unfolding report_told check_in
    one_added s = rw (add_is s, under_passes _ (λ u. check_under journal u s) table passes) (by_run (run_over journal t s))

  -- ---- All of them

  record Same (x : Report) (behind : List ℕ) (ss : List (List ℕ)) : Type 0 where
    told : told_in_c table (numbers_kept t x ++ behind) ss ≡ replies_of x ss
    is : added_in_c table (numbers_kept t x ++ behind) ss ≡ numbers_kept t (added_all x ss) ++ behind
    kept : Kept (added_all x ss)

  same : (ss : List (List ℕ)) (x : Report) → Kept x → (behind : List ℕ) → Same x behind ss
  unfolding told_in_c replies_of added_in_c added_all
  same [] x kept behind = record { told = refl; is = refl; kept = kept }
  same (s ∷ ss) x kept behind =
      let one = one_added x kept behind s in
      let rest = same ss (add_of x s).report one.2 behind in
      record { told = rw (one.1, one.0, rest.told) refl; is = rw one.1 rest.is; kept = rest.kept }

  -- ---- From zeros

  abbrev begun : Report
  begun = (begin_of table).report

  begun_kept : Kept begun
  begun_kept = rw (begun_with table passes) record {
    own = kept_table table;
    sized = record { dwell = length-replicate {A = ℕ} 32 0; pairs = length-replicate {A = ℕ} 1024 0; entries = length-replicate {A = ℕ} 32 0 };
    few = omega arith;
  }

  begun_zeros : numbers_kept t begun ≡ zeros (places_of t)
  begun_zeros =
      let Q = t.states in
      let R = t.states * t.inputs in
      let sum : suc (Q + (R + Q)) ≡ places_of t = omega arith in
      rw (begun_with table passes, take-replicate {X = ℕ} Q 32 0 few_states, take-replicate {X = ℕ} R 1024 0 few_pairs, replicate-append-replicate {A = ℕ} R Q 0, replicate-append-replicate {A = ℕ} Q (R + Q) 0)
      (ap zeros sum)

  from_zeros : (ss : List (List ℕ)) (behind : List ℕ) → Same begun behind ss
  from_zeros ss behind = same ss begun begun_kept behind

  begun_row : (behind : List ℕ) → begun_in_c table behind ≡ numbers_kept t begun ++ behind
  begun_row behind = ap (λ l. l ++ behind) (sym begun_zeros)

  never_full : (ss : List (List ℕ)) (behind : List ℕ) → NeverFull (told_in_c table (begun_in_c table behind) ss) → NoneFull begun ss
  never_full ss behind never = none_full ss begun (rw (begun_row behind, (from_zeros ss behind).told) at never)

pub same_report : SameReport
same_report table passes ss behind =
    let all = from_zeros table passes ss behind in
    rw (begun_row table passes behind) (all.told, all.is)

pub any_order_in_c : AnyOrderInC
any_order_in_c table passes ss ss' p behind never =
    let same = (any_order (begun table passes) ss ss' p (never_full table passes ss behind never)).1 in
    (same_report table passes ss behind).1 ∙ ap (λ x. numbers_kept (table_in table) x ++ behind) same ∙ sym (same_report table passes ss' behind).1

pub sums_in_c : SumsInC
sums_in_c table passes ss bytes behind never =
    let t = table_in table in
    let x = added_all (begun table passes) ss in
    let sized = (from_zeros table passes ss behind).kept.sized in
    let tells = tells_all table passes ss bytes (never_full table passes ss behind never) in
    let states = few_states table passes in
    let pairs = few_pairs table passes in
    (same_report table passes ss behind).1 ∙ rw (
      tells.journals,
      take-values _ t.states x.dwell (omega (arith, sized.dwell)) (λ q h. tells.dwell q (omega arith)),
      take-values _ (t.states * t.inputs) x.pairs (omega (arith, sized.pairs)) (λ k h. tells.pairs k (omega arith)),
      take-values _ t.states x.entries (omega (arith, sized.entries)) (λ q h. tells.entries q (omega arith)),
    ) refl
