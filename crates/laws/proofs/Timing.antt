-- The last two fields of a table, written and read: holds and delayed sets, or timers and the sets that they delay.
use mathlib.Core.Path.{◌≡◌, refl, sym, ap, ◌∙◌}
use mathlib.Core.List.{List, [], ◌++◌, append_assoc, append-nil}
use mathlib.Core.Logic.{⊎_elim}
use mathlib.Core.Bool.{Bool, true, false, not}
use Prim.Native.Nat.{ℕ, ◌+◌, ◌-◌, ◌*◌, ◌/◌, ◌%◌, ◌^◌, ◌<◌, ◌≤◌}
use native.Mathlib.Nat.{mul-le-mul, mod-lt, div-add-mod', div-lt_iff_lt-mul}
use native.Mathlib.Omega.{arith}
use borrow.Author.Tests.{le-leb, eq-eqb, ne_eqb, eqb-true, eqb-false}
use lib.ListN.{length, get_or, take, drop, length-drop, drop_of_length-le}
use Rattle.std.proofs.Math.Bool.{and-false}
use Rattle.std.proofs.Math.Nat.{pos_of_ne-zero}
use Rattle.std.specs.Prelude.{if◌then◌else◌, Ok}
use Rattle.wire.specs.Choice.{◌=?◌}
use Rattle.wire.specs.Field.{number32_at}
use Rattle.wire.specs.Encode.{Bytes, field}
use Rattle.wire.proofs.Laws.{WholeAt}
use Rattle.sets.proofs.Members.{below_limit}
use Rattle.table.specs.declared.Refusal.TheVariants.{WrongTagOrLength, BytesAfter}
use Rattle.table.specs.declared.Counts.{Counts}
use Rattle.table.specs.declared.Table.{Table}
use Rattle.table.specs.Entries.{filled_to, zeros}
use Rattle.table.specs.Table.{longest_hold, most_timers, hold_of, delayed_of, region_of, timer_set_of, Uses, WellFormedBy}
use Rattle.table.specs.Encode.{words, timing}
use Rattle.table.specs.Check.{word_entry, words_answer, hold_row, sets_answer, timers_row, hold_field, delayed_field, table_end, timer_set_field, timer_set_row}
use Rattle.table.specs.Check.{holds_answer, timer_sets_answer, timers_answer, timed, claimed_timers, timing_answer, timers_in, table_with, table_of}
use Rattle.table.proofs.Answers.{holds, goes_on}
use Rattle.table.proofs.Rows.{row_stands, set_passes, timer_passes, between, whole_tagged}
use Rattle.table.proofs.Stands.{HoldsStand, TimersStand, timing_stands}
use Rattle.table.proofs.Values.{filled_uses}
use Rattle.laws.proofs.Rows.{word_row_read, words_written, all_pass, row_passes, row_kept, same_array}

-- ---- Read

module _ (s : List ℕ) (bytes : Bytes s) (c : Counts) where
  no_more : (end : ℕ) → length s ≡ end → drop end s ≡ []
  no_more end e = let short : length s ≤ end = omega arith in drop_of_length-le s short

  holds_read : (old : Bool) → HoldsStand old s c → drop (hold_field c) s ≡ timing (table_with c s 0)
  unfolding timing table_with
  holds_read old stands =
      let f₅ = word_row_read s bytes (hold_field c) 0x05 c.states 32 (row_stands _ _ _ _ _ _ stands.holds) in
      let f₆ = word_row_read s bytes (delayed_field c) 0x06 c.states 32 (row_stands _ _ _ _ _ _ stands.delayed) in
      f₅ ∙ rw (f₆, no_more (table_end c) stands.ends, append-nil) refl

  timers_read : (n : ℕ) → TimersStand s c n → drop (hold_field c) s ≡ timing (table_with c s n)
  unfolding timing table_with
  timers_read n stands =
      let some = stands.few.0 in
      let eight : 8 * n ≡ 4 * (2 * n) = omega arith in
      let whole : WholeAt s (hold_field c) 0x07 (4 * (2 * n)) = rw eight at (row_stands _ _ _ _ _ _ stands.timers) in
      let f₇ = word_row_read s bytes (hold_field c) 0x07 (2 * n) 8 whole in
      let f₈ = word_row_read s bytes (timer_set_field c n) 0x08 (c.states * n) 128 (row_stands _ _ _ _ _ _ stands.sets) in
      let next : hold_field c + 3 + 4 * (2 * n) ≡ timer_set_field c n = omega arith in
      rw (ne_eqb n 0 (λ e. omega arith)) (f₇ ∙ rw (next, f₈, no_more _ stands.ends, append-nil) refl)

  pub timing_read : (old : Bool) → timing_answer old c s ≡ Ok tt → drop (hold_field c) s ≡ timing (table_of c s)
  timing_read old e = ⊎_elim
      (λ stands. rw stands.none (holds_read old stands))
      (λ found. rw found.1.some (timers_read _ found.1))
      (timing_stands s c old e)

-- ---- Written

-- An array of which nothing is used.
unused : (entry : ℕ → ℕ) (size : ℕ) (array : List ℕ) → Uses 0 size array → filled_to entry 0 (zeros size) ≡ array
unused entry size array uses = same_array 0 size _ array (filled_uses entry 0 size (omega arith)) uses (λ k h. absurd (omega arith))

-- The fields pass, and the arrays of a table with so many timers are kept.
pub record TimingWritten (old : Bool) (t : Table) (s : List ℕ) (c : Counts) : Type 0 where
  pub passes : timing_answer old c s ≡ Ok tt
  pub timers : timers_in c s ≡ t.timers
  pub hold : filled_to (word_entry s (hold_field c)) (if t.timers =? 0 then c.states else 0) (zeros 32) ≡ t.hold
  pub delayed : filled_to (word_entry s (delayed_field c)) (if t.timers =? 0 then c.states else 0) (zeros 32) ≡ t.delayed
  pub timing : filled_to (word_entry s (hold_field c)) (2 * t.timers) (zeros 8) ≡ t.timing
  pub sets : filled_to (word_entry s (timer_set_field c t.timers)) (c.states * t.timers) (zeros 128) ≡ t.sets

not_old : (old : Bool) → (old ≡ true → ⊥) → old ≡ false
not_old true other = absurd (other refl)
not_old false other = refl

abbrev pub counts_of : Table → Counts
counts_of t = record { states = t.states; inputs = t.inputs; outputs = t.outputs; initial = t.initial }

module _ (old : Bool) (t : Table) (ok : WellFormedBy old t) (s : List ℕ) where
  abbrev c : Counts
  c = counts_of t

  few : t.states ≤ 32
  few = ok.states.1

  holds_written : t.timers ≡ 0 →
      drop (hold_field c) s ≡ field 0x05 (words (take t.states t.hold)) ++ (field 0x06 (words (take t.states t.delayed)) ++ []) → TimingWritten old t s c
  unfolding timing_answer holds_answer timers_in
  holds_written none there =
      let q = t.states in
      let holding : Uses q 32 t.hold = rw (eq-eqb t.timers 0 none) at ok.hold_uses in
      let delaying : Uses q 32 t.delayed = rw (eq-eqb t.timers 0 none) at ok.delayed_uses in
      let f₅ = words_written s _ t.hold (hold_field c) 0x05 q (rw holding.places few) (omega (arith, few)) there in
      let f₆ = words_written s _ t.delayed (delayed_field c) 0x06 q (rw delaying.places few) (omega (arith, few)) f₅.ends in
      let short : (k : ℕ) → k < q → hold_of t k < longest_hold + 1 = λ k h. let low = ok.hold k h in omega arith in
      let p₅ : words_answer s (hold_row c) ≡ Ok tt = row_passes f₅ _ _ short in
      let known : (k : ℕ) → k < q → delayed_of t k < 2 ^ t.inputs = λ k h. below_limit _ t.inputs (λ i. ok.delayed k i h) in
      let idle : (k : ℕ) → k < q → old ≡ false → number32_at s (hold_field c + 3 + 4 * k) ≡ 0 → number32_at s (delayed_field c + 3 + 4 * k) ≡ 0 =
      λ k h new empty. f₆.entries k h ∙ ok.not_idle new k h (sym (f₅.entries k h) ∙ empty)
      in
      let p₆ : sets_answer old s (hold_field c) (delayed_field c) q (2 ^ t.inputs) ≡ Ok tt =
      all_pass s _ _ _ _ q f₆.whole (λ k h. set_passes old _ _ _ _ (rw (f₆.entries k h) (known k h)) (idle k h))
      in
      let end : length s - table_end c ≡ 0 = sym (length-drop (table_end c) s) ∙ ap length f₆.ends in
      let p₇ = holds (BytesAfter (table_end c)) (le-leb (length s) (table_end c) (omega arith)) in
      let kind : timed c s ≡ false = whole_tagged s (hold_field c) 0x05 (4 * q) f₅.whole in
      let no_row : t.states * 0 ≡ 0 = omega arith in
      record {
        passes = rw (kind, and-false (not old)) (sym (goes_on p₅ (goes_on p₆ (sym p₇))));
        timers = rw kind (sym none);
        hold = rw (eq-eqb t.timers 0 none) (row_kept f₅ 32 few holding);
        delayed = rw (eq-eqb t.timers 0 none) (row_kept f₆ 32 few delaying);
        timing = rw none (unused _ 8 t.timing (rw none at ok.timing_uses));
        sets = rw (none, no_row) (unused _ 128 t.sets (rw (none, no_row) at ok.sets_uses));
      }

  -- Entry k of field 08 is that of state k / n and timer k % n.
  set_below : 0 < t.timers → (k : ℕ) → k < t.states * t.timers → get_or t.sets k 0 < 2 ^ t.inputs
  set_below some k h =
      let q = k / t.timers in
      let j = k % t.timers in
      rw (div-add-mod' k t.timers) at
      (below_limit (timer_set_of t j q) t.inputs (λ i. ok.sets j q i (mod-lt k some) ((div-lt_iff_lt-mul some).1 h)))

  timers_written : 0 < t.timers →
      drop (hold_field c) s ≡ field 0x07 (words (take (2 * t.timers) t.timing)) ++ (field 0x08 (words (take (t.states * t.timers) t.sets)) ++ []) →
      TimingWritten old t s c
  unfolding timing_answer timers_answer timer_sets_answer timers_in
  timers_written some there =
      let n = t.timers in
      let four : n ≤ 4 = ok.timers in
      let rows : t.states * n ≤ 128 = mul-le-mul few four in
      let more : (n ≡ 0 → ⊥) = λ none. omega arith in
      let f₇ = words_written s _ t.timing (hold_field c) 0x07 (2 * n) (rw ok.timing_uses.places (omega arith)) (omega arith) there in
      let size : 4 * (2 * n) ≡ 8 * n = omega arith in
      let whole : WholeAt s (hold_field c) 0x07 (8 * n) = rw size at f₇.whole in
      let next : hold_field c + 3 + 4 * (2 * n) ≡ timer_set_field c n = omega arith in
      let f₈ = words_written s _ t.sets (timer_set_field c n) 0x08 (t.states * n) (rw ok.sets_uses.places rows) (omega arith) (rw next at f₇.ends) in
      let claimed : claimed_timers c s ≡ n = rw whole.size_is (omega arith) in
      let kind : timed c s ≡ true = whole_tagged s (hold_field c) 0x07 (8 * n) whole in
      let new : old ≡ false = not_old old (λ is. more (ok.no_timers is)) in
      let p₆ = holds (WrongTagOrLength (hold_field c)) (between 1 most_timers n (omega arith, four)) in
      let p₇ : timers_row s (hold_field c) n (2 ^ t.states) ≡ Ok tt =
      all_pass s _ _ _ _ n whole (λ k h.
      timer_passes _ _ _ _
      (rw (f₇.entries (2 * k) (omega arith)) (ok.length k h))
      (rw (f₇.entries (2 * k + 1) (omega arith)) (below_limit (region_of t k) t.states (λ q. ok.region k q h))))
      in
      let p₈ : words_answer s (timer_set_row c (timer_set_field c n) n) ≡ Ok tt = row_passes f₈ _ _ (set_below some) in
      let last = timer_set_field c n + 3 + 4 * (t.states * n) in
      let end : length s - last ≡ 0 = sym (length-drop last s) ∙ ap length f₈.ends in
      let p₉ = holds (BytesAfter last) (le-leb (length s) last (omega arith)) in
      let none_held : (if n =? 0 then t.states else 0) ≡ 0 = rw (ne_eqb n 0 more) refl in
      record {
        passes = rw (new, kind, claimed) (sym (goes_on p₆ (goes_on p₇ (goes_on p₈ (sym p₉)))));
        timers = rw kind claimed;
        hold = rw none_held (unused _ 32 t.hold (rw none_held at ok.hold_uses));
        delayed = rw none_held (unused _ 32 t.delayed (rw none_held at ok.delayed_uses));
        timing = row_kept f₇ 8 (omega arith) ok.timing_uses;
        sets = row_kept f₈ 128 rows ok.sets_uses;
      }

  pub timing_written : drop (hold_field c) s ≡ timing t ++ [] → TimingWritten old t s c
  unfolding timing
  timing_written there = go (t.timers =? 0) refl there
    where
      go : (b : Bool) → (t.timers =? 0) ≡ b →
          drop (hold_field c) s ≡ (if b then field 0x05 (words (take t.states t.hold)) ++ field 0x06 (words (take t.states t.delayed))
          else field 0x07 (words (take (2 * t.timers) t.timing)) ++ field 0x08 (words (take (t.states * t.timers) t.sets))) ++ [] →
          TimingWritten old t s c
      go true e is = holds_written (eqb-true t.timers 0 e) (is ∙ append_assoc (field 0x05 _) (field 0x06 _) [])
      go false e is = timers_written (pos_of_ne-zero (eqb-false t.timers 0 e)) (is ∙ append_assoc (field 0x07 _) (field 0x08 _) [])
