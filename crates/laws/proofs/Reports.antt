-- The theorems about the report, as specs/Reports states them.
use mathlib.Core.Path.{◌≡◌, refl, sym, ap, ◌∙◌}
use mathlib.Core.List.{List, [], ◌∷◌, ◌++◌, map}
use mathlib.Core.Bool.{Bool, true, false}
use Prim.Native.Nat.{ℕ, zero, suc, ◌+◌, ◌*◌, ◌%◌, ◌^◌, ◌<◌, ◌≤◌}
use native.Mathlib.Omega.{arith}
use native.Mathlib.Nat.{zero-add, mod-add-mod, mod-eq_of_lt, mul-le-mul, not-suc-le-zero, le_of_suc-le-suc, lt_of_lt_of_le}
use borrow.Author.Tests.{leb-false, lt-leb}
use lib.ListN.{length, length-append, length-replicate, get_or-replicate}
use lib.Seq.{take-append_seam}
use lib.Arith.{digits_lt}
use Rattle.std.specs.Prelude.{if◌then◌else◌, Ok, Err}
use Rattle.wire.specs.Choice.{◌≤?◌}
use Rattle.wire.specs.Encode.{Bytes}
use Rattle.wire.proofs.Apart.{apart}
use Rattle.table.specs.declared.Table.{Table}
use Rattle.table.specs.Table.{WellFormed}
use Rattle.table.specs.Answer.{TableAnswer}
use Rattle.table.specs.Entries.{total, zeros}
use Rattle.table.specs.Check.{table_answer, table_in}
use Rattle.table.specs.Under.{under_answer, under_table}
use Rattle.table.proofs.Values.{total_none, total-add}
use Rattle.table.proofs.WellFormed.{well_formed}
use Rattle.records.specs.Form.{journal}
use Rattle.records.specs.Record.{latest}
use Rattle.machine.specs.Walk.{RunOverBytes, ran, too_long, refused, run_over}
use Rattle.journal.specs.declared.Refusal.TheVariants as check
use Rattle.journal.specs.Check.{answer_of_run, check_in}
use Rattle.tally.specs.declared.Tally.{Tally}
use Rattle.tally.specs.Sums.{summed}
use Rattle.tally.proofs.More.{summed-length}
use Rattle.tally.proofs.Over.{records_over}
use Rattle.tally.proofs.Totals.{dwell_sums_to_end, pairs_sum_to_dwell, entries_sum_to_moves, tally_small, places_of_tally}
use Rattle.report.specs.declared.Refusal.TheVariants.{Full}
use Rattle.report.specs.declared.Report.{Report}
use Rattle.report.specs.Report.{Added, most_journals, empty_with, begin_of, table_kept, with_tally, as_it_was, not_taken, added_by, add_under, add_of}
use Rattle.laws.specs.Reports.{RefusedUnchanged, added_all, NoneFull, Permuted, empty, first, swapped, further, AnyOrder}
use Rattle.laws.specs.Reports.{KnownJournal, known_of, known_journal_in, accepted, over_all, at, Tells, AllBytes, TellsAll, numbers_in, KnownAccepted}

-- ---- One journal

-- An accepted one is added, or finds the report full; any other leaves it as it was.
abbrev Effect : Report → List KnownJournal → Added → Type 0
Effect x [] r = (r.report ≡ x) × (r.answer ≡ Ok tt → ⊥) × (r.answer ≡ Err Full → ⊥)
Effect x (j ∷ js) r =
    (js ≡ []) × (r ≡ (if most_journals ≤? x.journals then as_it_was x (Err Full) else record { answer = Ok tt; report = with_tally x j.tally }))

run_effect : (t : Table) (x : Report) (r : RunOverBytes) → Effect x (known_of t r) (added_by t x r)
unfolding known_of added_by
run_effect t x (ran input taken last) = (refl, refl)
run_effect t x too_long = (refl, (λ e. apart cc), (λ e. apart cc))
run_effect t x (refused refusal place) = (refl, (λ e. apart cc), (λ e. apart cc))

effect : (x : Report) (s : List ℕ) → Effect x (known_journal_in (table_kept x) s) (add_of x s)
unfolding add_of add_under known_journal_in under_table
effect x s = go (table_answer (table_kept x))
  where
    t : Table
    t = table_in (table_kept x)

    go : (a : TableAnswer) → Effect x (under_answer (λ why. []) (known_of t (run_over journal t s)) a)
        (under_answer (λ why. not_taken x (check.Table why)) (added_by t x (run_over journal t s)) a)
    go (Ok passed) = run_effect t x (run_over journal t s)
    go (Err why) = (refl, (λ e. apart cc), (λ e. apart cc))

-- With an accepted one, if the report is not full.
module _ (x : Report) (j : KnownJournal) where
  abbrev more : Report
  more = with_tally x j.tally

  taken_one : (r : Added) (js : List KnownJournal) → Effect x (j ∷ js) r → (r.answer ≡ Err Full → ⊥) →
      (x.journals < most_journals) × (r.report ≡ more)
  taken_one r js e other = go (most_journals ≤? x.journals) refl e.1
    where
      go : (b : Bool) → (most_journals ≤? x.journals) ≡ b → r ≡ (if b then as_it_was x (Err Full) else record { answer = Ok tt; report = more }) →
          (x.journals < most_journals) × (r.report ≡ more)
      go true is f = absurd (other (ap (λ (y : Added). y.answer) f))
      go false is f = (leb-false most_journals x.journals is, ap (λ (y : Added). y.report) f)

  not_full : (r : Added) (js : List KnownJournal) → Effect x (j ∷ js) r → x.journals < most_journals →
      (r.answer ≡ Err Full → ⊥) × (r.report ≡ more)
  not_full r js e few =
      let f : r ≡ record { answer = Ok tt; report = more } = rw (lt-leb most_journals x.journals few) at e.1 in
      ((λ g. let h = sym (ap (λ (y : Added). y.answer) f) ∙ g in apart cc), ap (λ (y : Added). y.report) f)

pub refused_unchanged : RefusedUnchanged
refused_unchanged x s other = go (known_journal_in (table_kept x) s) (effect x s)
  where
    go : (js : List KnownJournal) → Effect x js (add_of x s) → (add_of x s).report ≡ x
    go [] e = e.0
    go (j ∷ js) e = by (most_journals ≤? x.journals) e.1
      where
        by : (b : Bool) → add_of x s ≡ (if b then as_it_was x (Err Full) else record { answer = Ok tt; report = with_tally x j.tally }) → (add_of x s).report ≡ x
        by true f = ap (λ (y : Added). y.report) f
        by false f = absurd (other (ap (λ (y : Added). y.answer) f))

-- ---- A season is its accepted journals

unfoldable with_all : Report → List KnownJournal → Report
with_all x [] = x
with_all x (j ∷ js) = with_all (with_tally x j.tally) js

-- There is room for them all.
abbrev Few : Report → List KnownJournal → Type 0
Few x js = 0 < length js → x.journals + length js ≤ most_journals

few_more : (x : Report) (j : KnownJournal) (js : List KnownJournal) → x.journals < most_journals → Few (with_tally x j.tally) js → Few x (j ∷ js)
unfolding with_tally
few_more x j [] room few some = omega arith
few_more x j (k ∷ js) room few some = let all = few (omega arith) in omega arith

few_less : (x : Report) (j : KnownJournal) (js : List KnownJournal) → Few x (j ∷ js) → (x.journals < most_journals) × Few (with_tally x j.tally) js
unfolding with_tally
few_less x j js few = let all = few (omega arith) in (omega arith, λ some. omega arith)

same_table : (x : Report) (y : Tally) → table_kept (with_tally x y) ≡ table_kept x
unfolding with_tally
same_table x y = refl

record Season (x : Report) (ss : List (List ℕ)) (js : List KnownJournal) : Type 0 where
  few : Few x js
  is : added_all x ss ≡ with_all x js

season : (ss : List (List ℕ)) (x : Report) → NoneFull x ss → Season x ss (accepted (table_kept x) ss)
unfolding added_all NoneFull accepted with_all
season [] x none = record { few = λ some. absurd (omega arith); is = refl }
season (s ∷ ss) x none = go (known_journal_in (table_kept x) s) (effect x s) none.0 (season ss (add_of x s).report none.1)
  where
    go : (js : List KnownJournal) → Effect x js (add_of x s) → ((add_of x s).answer ≡ Err Full → ⊥) →
        Season (add_of x s).report ss (accepted (table_kept (add_of x s).report) ss) → Season x (s ∷ ss) (js ++ accepted (table_kept x) ss)
    go [] e other rest = let r = rw e.0 at rest in record { few = r.few; is = rw e.0 r.is }
    go (j ∷ js) e other rest =
        let one = taken_one x j (add_of x s) js e other in
        let r = rw (one.1, same_table x j.tally) at rest in
        rw e.0 record { few = few_more x j (accepted (table_kept x) ss) one.0 r.few; is = rw one.1 r.is }

none_full : (ss : List (List ℕ)) (x : Report) → Few x (accepted (table_kept x) ss) → NoneFull x ss
unfolding NoneFull accepted
none_full [] x few = tt
none_full (s ∷ ss) x few = go (known_journal_in (table_kept x) s) (effect x s) few (none_full ss (add_of x s).report)
  where
    go : (js : List KnownJournal) → Effect x js (add_of x s) → Few x (js ++ accepted (table_kept x) ss) →
        (Few (add_of x s).report (accepted (table_kept (add_of x s).report) ss) → NoneFull (add_of x s).report ss) →
        ((add_of x s).answer ≡ Err Full → ⊥) × NoneFull (add_of x s).report ss
    go [] e few rest = (e.2, rest (rw e.0 few))
    go (j ∷ js) e few rest =
        let all : Few x (j ∷ accepted (table_kept x) ss) = rw e.0 at few in
        let less = few_less x j (accepted (table_kept x) ss) all in
        let one = not_full x j (add_of x s) js e less.0 in
        (one.0, rest (rw (one.1, same_table x j.tally) less.1))

-- ---- Any order

summed_twice : (sums a b : List ℕ) → summed (summed sums a) b ≡ summed (summed sums b) a
unfolding summed
summed_twice [] a b = refl
summed_twice (n ∷ sums) [] [] = refl
summed_twice (n ∷ sums) [] (k ∷ b) = refl
summed_twice (n ∷ sums) (i ∷ a) [] = refl
summed_twice (n ∷ sums) (i ∷ a) (k ∷ b) =
    let e : n + i + k ≡ n + k + i = omega arith in
    let f : ((n + i) % 2 ^ 64 + k) % 2 ^ 64 ≡ ((n + k) % 2 ^ 64 + i) % 2 ^ 64 =
    mod-add-mod (n + i) (2 ^ 64) k ∙ ap (λ m. m % 2 ^ 64) e ∙ sym (mod-add-mod (n + k) (2 ^ 64) i) in
    rw (f, summed_twice sums a b) refl

tallies_twice : (x : Report) (y z : Tally) → with_tally (with_tally x y) z ≡ with_tally (with_tally x z) y
unfolding with_tally
tallies_twice x y z =
    rw (summed_twice x.dwell y.dwell z.dwell, summed_twice x.pairs y.pairs z.pairs, summed_twice x.entries y.entries z.entries) refl

with_append : (js ks : List KnownJournal) (x : Report) → with_all x (js ++ ks) ≡ with_all (with_all x js) ks
unfolding with_all
with_append [] ks x = refl
with_append (j ∷ js) ks x = with_append js ks (with_tally x j.tally)

one_later : (js : List KnownJournal) (x : Report) (y : Tally) → with_all (with_tally x y) js ≡ with_tally (with_all x js) y
unfolding with_all
one_later [] x y = refl
one_later (j ∷ js) x y = ap (λ z. with_all z js) (tallies_twice x y j.tally) ∙ one_later js (with_tally x j.tally) y

all_twice : (js ks : List KnownJournal) (x : Report) → with_all (with_all x js) ks ≡ with_all (with_all x ks) js
unfolding with_all
all_twice [] ks x = refl
all_twice (j ∷ js) ks x = all_twice js ks (with_tally x j.tally) ∙ ap (λ z. with_all z js) (one_later ks x j.tally)

record SameSum (js ks : List KnownJournal) : Type 0 where
  many : length js ≡ length ks
  is : (x : Report) → with_all x js ≡ with_all x ks

permuted : (table : List ℕ) {ss ss' : List (List ℕ)} → Permuted ss ss' → SameSum (accepted table ss) (accepted table ss')
unfolding accepted
permuted table empty = record { many = refl; is = λ x. refl }
permuted table (first s p) =
    let r = permuted table p in
    record {
      many = length-append (known_journal_in table s) _ ∙ ap (λ n. length (known_journal_in table s) + n) r.many ∙ sym (length-append (known_journal_in table s) _);
      is = λ x. with_append (known_journal_in table s) _ x ∙ r.is (with_all x (known_journal_in table s)) ∙ sym (with_append (known_journal_in table s) _ x);
    }
permuted table (swapped s s' ss) =
    let a = known_journal_in table s in
    let b = known_journal_in table s' in
    let c = accepted table ss in
    record {
      many = rw (length-append a (b ++ c), length-append b c, length-append b (a ++ c), length-append a c) (omega arith);
      is = λ x.
          with_append a (b ++ c) x ∙ with_append b c (with_all x a) ∙ ap (λ z. with_all z c) (all_twice a b x) ∙ sym (with_append a c (with_all x b)) ∙
          sym (with_append b (a ++ c) x);
    }
permuted table (further p q) =
    let r = permuted table p in
    let l = permuted table q in
    record { many = r.many ∙ l.many; is = λ x. r.is x ∙ l.is x }

pub any_order : AnyOrder
any_order x ss ss' p none =
    let before = season ss x none in
    let same = permuted (table_kept x) p in
    let none' = none_full ss' x (rw (← same.many) before.few) in
    (none', before.is ∙ same.is x ∙ sym (season ss' x none').is)

-- ---- Nothing wraps

-- No slots or entries of one journal are more.
abbrev most : ℕ
most = latest + 1

-- What one journal's numbers come to.
pub record Sums (t : Table) (j : KnownJournal) : Type 0 where
  pub few_slots : (q : ℕ) → at j.tally.dwell q ≤ most
  pub few_with : (k : ℕ) → at j.tally.pairs k ≤ most
  pub few_entries : (q : ℕ) → at j.tally.entries q ≤ most
  pub all_slots : total (at j.tally.dwell) t.states ≡ j.numbers.end
  pub each_input : (q : ℕ) → q < t.states → total (λ a. at j.tally.pairs (q * t.inputs + a)) t.inputs ≡ at j.tally.dwell q
  pub all_entries : total (at j.tally.entries) t.states ≡ j.numbers.moves + 1

abbrev Each : (KnownJournal → Type 0) → List KnownJournal → Type 0
Each P [] = Unit
Each P (j ∷ js) = P j × Each P js

each_of : {P R : KnownJournal → Type 0} → ((j : KnownJournal) → P j → R j) → (js : List KnownJournal) → Each P js → Each R js
each_of f [] each = tt
each_of f (j ∷ js) each = (f j each.0, each_of f js each.1)

each_append : (P : KnownJournal → Type 0) (js ks : List KnownJournal) → Each P js → Each P ks → Each P (js ++ ks)
each_append P [] ks e f = f
each_append P (j ∷ js) ks e f = (e.0, each_append P js ks e.1 f)

place_summed : (sums numbers : List ℕ) (k : ℕ) → k < length sums → at sums k + at numbers k < 2 ^ 64 → at (summed sums numbers) k ≡ at sums k + at numbers k
unfolding summed
place_summed [] numbers k inside low = absurd (not-suc-le-zero inside)
place_summed (n ∷ sums) [] k inside low = omega arith
place_summed (n ∷ sums) (i ∷ numbers) zero inside low = mod-eq_of_lt low
place_summed (n ∷ sums) (i ∷ numbers) (suc k) inside low = place_summed sums numbers k (le_of_suc-le-suc inside) low

-- One array's numbers of all the journals.
module _ (f : KnownJournal → List ℕ) where
  unfoldable sum_all : List ℕ → List KnownJournal → List ℕ
  sum_all sums [] = sums
  sum_all sums (j ∷ js) = sum_all (summed sums (f j)) js

  place_all : (k : ℕ) (js : List KnownJournal) (sums : List ℕ) (n : ℕ) → k < length sums → at sums k ≤ n * most → n + length js ≤ most_journals →
      Each (λ j. at (f j) k ≤ most) js → at (sum_all sums js) k ≡ at sums k + over_all (λ j. at (f j) k) js
  unfolding sum_all over_all
  place_all k [] sums n inside low room each = omega arith
  place_all k (j ∷ js) sums n inside low room each =
      let small = each.0 in
      let one : at (summed sums (f j)) k ≡ at sums k + at (f j) k = place_summed sums (f j) k inside (omega arith) in
      let rest = place_all k js (summed sums (f j)) (n + 1) (rw (summed-length sums (f j)) inside) (omega arith) (omega arith) each.1 in
      rest ∙ omega arith

  from_zeros : (k size : ℕ) (js : List KnownJournal) → k < size → length js ≤ most_journals → Each (λ j. at (f j) k ≤ most) js →
      at (sum_all (zeros size) js) k ≡ over_all (λ j. at (f j) k) js
  from_zeros k size js inside room each =
      let none : at (zeros size) k ≡ 0 = get_or-replicate size k 0 0 inside in
      let all = place_all k js (zeros size) 0 (rw (length-replicate {A = ℕ} size 0) inside) (omega arith) (omega arith) each in
      all ∙ omega arith

-- ---- Sums of sums

total_same : (f g : ℕ → ℕ) (n : ℕ) → ((k : ℕ) → k < n → f k ≡ g k) → total f n ≡ total g n
unfolding total
total_same f g zero same = refl
total_same f g (suc n) same = rw (total_same f g n (λ k h. same k (omega arith)), same n (omega arith)) refl

exchanged : (f : ℕ → KnownJournal → ℕ) (n : ℕ) (js : List KnownJournal) → total (λ k. over_all (f k) js) n ≡ over_all (λ j. total (λ k. f k j) n) js
unfolding over_all
exchanged f n [] = total_none (λ k. 0) n (λ k h. refl)
exchanged f n (j ∷ js) = total-add (λ k. f k j) (λ k. over_all (f k) js) n ∙ ap (λ m. total (λ k. f k j) n + m) (exchanged f n js)

over_same : (f g : KnownJournal → ℕ) (js : List KnownJournal) → Each (λ j. f j ≡ g j) js → over_all f js ≡ over_all g js
unfolding over_all
over_same f g [] each = refl
over_same f g (j ∷ js) each = rw (each.0, over_same f g js each.1) refl

-- ---- All of them

with_dwell : (js : List KnownJournal) (x : Report) → (with_all x js).dwell ≡ sum_all (λ j. j.tally.dwell) x.dwell js
unfolding with_all sum_all with_tally
with_dwell [] x = refl
with_dwell (j ∷ js) x = with_dwell js (with_tally x j.tally)

with_pairs : (js : List KnownJournal) (x : Report) → (with_all x js).pairs ≡ sum_all (λ j. j.tally.pairs) x.pairs js
unfolding with_all sum_all with_tally
with_pairs [] x = refl
with_pairs (j ∷ js) x = with_pairs js (with_tally x j.tally)

with_entries : (js : List KnownJournal) (x : Report) → (with_all x js).entries ≡ sum_all (λ j. j.tally.entries) x.entries js
unfolding with_all sum_all with_tally
with_entries [] x = refl
with_entries (j ∷ js) x = with_entries js (with_tally x j.tally)

with_journals : (js : List KnownJournal) (x : Report) → (with_all x js).journals ≡ x.journals + length js
unfolding with_all with_tally
with_journals [] x = omega arith
with_journals (j ∷ js) x = with_journals js (with_tally x j.tally) ∙ omega arith

module _ (t : Table) (well : WellFormed t) (table : List ℕ) (js : List KnownJournal) (room : length js ≤ most_journals) (each : Each (Sums t) js) where
  abbrev x : Report
  x = with_all (empty_with table) js

  dwell_at : (q : ℕ) → q < 32 → at x.dwell q ≡ over_all (λ j. at j.tally.dwell q) js
  dwell_at q inside = rw (with_dwell js (empty_with table)) (from_zeros (λ j. j.tally.dwell) q 32 js inside room (each_of (λ j s. s.few_slots q) js each))

  pairs_at : (k : ℕ) → k < 1024 → at x.pairs k ≡ over_all (λ j. at j.tally.pairs k) js
  pairs_at k inside = rw (with_pairs js (empty_with table)) (from_zeros (λ j. j.tally.pairs) k 1024 js inside room (each_of (λ j s. s.few_with k) js each))

  entries_at : (q : ℕ) → q < 32 → at x.entries q ≡ over_all (λ j. at j.tally.entries q) js
  entries_at q inside = rw (with_entries js (empty_with table)) (from_zeros (λ j. j.tally.entries) q 32 js inside room (each_of (λ j s. s.few_entries q) js each))

  all_tell : Tells t x js
  all_tell =
      let states = t.states in
      let inputs = t.inputs in
      let few : states ≤ 32 = well.states.1 in
      let many : states * inputs ≤ 1024 = mul-le-mul few well.inputs.1 in
      record {
        journals = with_journals js (empty_with table) ∙ zero-add (length js);
        dwell = dwell_at;
        pairs = pairs_at;
        entries = entries_at;
        all_slots = total_same _ _ states (λ q h. dwell_at q (omega arith)) ∙ exchanged (λ q j. at j.tally.dwell q) states js ∙
            over_same _ _ js (each_of (λ j s. s.all_slots) js each);
        each_input = λ q h.
            total_same _ _ inputs (λ a i. pairs_at (q * inputs + a) (lt_of_lt_of_le (digits_lt h i) many)) ∙
            exchanged (λ a j. at j.tally.pairs (q * inputs + a)) inputs js ∙ over_same _ _ js (each_of (λ j s. s.each_input q h) js each) ∙
            sym (dwell_at q (omega arith));
        all_entries = total_same _ _ states (λ q h. entries_at q (omega arith)) ∙ exchanged (λ q j. at j.tally.entries q) states js ∙
            over_same _ _ js (each_of (λ j s. s.all_entries) js each);
      }

-- ---- From the beginning

pub begun_with : (table : List ℕ) → table_answer table ≡ Ok tt → (begin_of table).report ≡ empty_with table
unfolding begin_of
begun_with table passes = rw passes refl

pub kept_table : (table : List ℕ) → table_kept (empty_with table) ≡ table
kept_table table = take-append_seam table _

few_all : (table : List ℕ) (js : List KnownJournal) → Few (empty_with table) js → length js ≤ most_journals
few_all table [] few = omega arith
few_all table (j ∷ js) few = let all = few (omega arith) in omega arith

module _ (table s : List ℕ) (passes : table_answer table ≡ Ok tt) (bytes : Bytes s) where
  abbrev t : Table
  t = table_in table

  abbrev good : WellFormed t
  good = well_formed table passes

  run_sums : (r : RunOverBytes) → run_over journal t s ≡ r → Each (Sums t) (known_of t r)
  unfolding known_of
  run_sums (ran input taken last) is =
      let T = last.time in
      let ok = records_over t good s bytes input taken last is in
      let small = tally_small t input taken T ok in
      let places = places_of_tally t good input taken T in (
        record {
          few_slots = λ q. let few = small q in omega (arith, few.0, few.3);
          few_with = λ k. let few = small k in omega (arith, few.1, few.3);
          few_entries = λ q. let few = small q in omega (arith, few.2, few.3);
          all_slots = total_same _ _ t.states (λ q h. (places q h).0) ∙ dwell_sums_to_end t input taken T ok;
          each_input = λ q h. total_same _ _ t.inputs (λ a i. (places q h).1 a i) ∙ pairs_sum_to_dwell t input taken T ok q ∙ sym (places q h).0;
          all_entries = total_same _ _ t.states (λ q h. (places q h).2) ∙ entries_sum_to_moves t input taken T ok;
        },
        tt,
      )
  run_sums too_long is = tt
  run_sums (refused refusal place) is = tt

  known_sums : Each (Sums t) (known_journal_in table s)
  unfolding known_journal_in under_table
  known_sums = rw passes (run_sums (run_over journal t s) refl)

each_accepted : (table : List ℕ) → table_answer table ≡ Ok tt → (ss : List (List ℕ)) → AllBytes ss → Each (Sums (table_in table)) (accepted table ss)
unfolding accepted
each_accepted table passes [] bytes = tt
each_accepted table passes (s ∷ ss) bytes =
    each_append (Sums (table_in table)) (known_journal_in table s) _ (known_sums table s passes bytes.0) (each_accepted table passes ss bytes.1)

pub tells_all : TellsAll
tells_all table passes ss bytes none =
    let was = rw (kept_table table) at (season ss (empty_with table) (rw (begun_with table passes) at none)) in
    rw (begun_with table passes, was.is)
    (all_tell (table_in table) (well_formed table passes) table (accepted table ss) (few_all table (accepted table ss) was.few) (each_accepted table passes ss bytes))

run_numbers : (t : Table) (r : RunOverBytes) → map (λ (j : KnownJournal). j.numbers) (known_of t r) ≡ numbers_in (answer_of_run t r)
unfolding known_of answer_of_run
run_numbers t (ran input taken last) = refl
run_numbers t too_long = refl
run_numbers t (refused refusal place) = refl

pub known_accepted : KnownAccepted
unfolding known_journal_in check_in under_table
known_accepted table s = go (table_answer table)
  where
    t : Table
    t = table_in table

    go : (a : TableAnswer) → map (λ (j : KnownJournal). j.numbers) (under_answer (λ why. []) (known_of t (run_over journal t s)) a) ≡
        numbers_in (under_answer (λ why. Err (check.Table why)) (answer_of_run t (run_over journal t s)) a)
    go (Ok passed) = run_numbers t (run_over journal t s)
    go (Err why) = refl
