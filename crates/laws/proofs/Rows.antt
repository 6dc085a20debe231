-- A field of entries, written and read: entries of one byte, and entries of four.
use mathlib.Core.Path.{◌≡◌, refl, sym, ◌∙◌}
use mathlib.Core.List.{List, [], ◌∷◌, ◌++◌}
use mathlib.Core.Bool.{Bool, true, false}
use Prim.Native.Nat.{ℕ, zero, suc, ◌+◌, ◌*◌, ◌<◌, ◌≤◌}
use native.Mathlib.Nat.{not-suc-le-zero}
use native.Mathlib.Omega.{arith}
use borrow.Author.Tests.{ltb-true, ltb-false}
use lib.ListN.{length, get_or, take, drop, get_or-append}
use lib.Seq.{ext_get_or, get_or-take, length-take-le, take-add, drop-drop, take_at}
use Rattle.std.specs.Prelude.{Ok}
use Rattle.wire.specs.Choice.{◌<?◌}
use Rattle.wire.specs.Field.{byte_at, number32_at}
use Rattle.wire.specs.Encode.{Bytes, field}
use Rattle.wire.proofs.Laws.{WholeAt}
use Rattle.wire.proofs.Standing.{stands_true}
use Rattle.wire.proofs.Bytes.{byte_written, rest_written, number_written, field_written, byte_read, number_read, field_read}
use Rattle.table.specs.declared.Refusal.{Refusal}
use Rattle.table.specs.Answer.{TableAnswer}
use Rattle.table.specs.Entries.{values, filled_to, zeros}
use Rattle.table.specs.Check.{field_answer, row_answer, below, byte_entry, word_entry}
use Rattle.table.specs.Table.{Uses}
use Rattle.table.specs.Encode.{words}
use Rattle.table.proofs.Answers.{goes_on}
use Rattle.table.proofs.Rows.{stands_as_expected, each_pass, is_below}
use Rattle.table.proofs.Words.{length-words, words-append}
use Rattle.table.proofs.Values.{length-values, get_or-filled, filled_uses}

-- ---- Entries in bytes

word_written : (s rest ws : List ℕ) (at : ℕ) → drop at s ≡ words ws ++ rest → (k : ℕ) → k < length ws → number32_at s (at + 4 * k) ≡ get_or ws k 0
unfolding words
word_written s rest [] at there k h = absurd (not-suc-le-zero h)
word_written s rest (w ∷ ws) at there zero h = let z : at + 0 ≡ at = omega arith in rw z (number_written s (words ws ++ rest) at w there)
word_written s rest (w ∷ ws) at there (suc k) h =
    let z : at + 4 * suc k ≡ at + 4 + 4 * k = omega arith in
    rw z (word_written s rest ws (at + 4) (rest_written s _ at there 4) k (omega arith))

module _ (s : List ℕ) (at : ℕ) where
  pub bytes_read : (n : ℕ) → at + n ≤ length s → take n (drop at s) ≡ values (λ k. byte_at s (at + k)) n
  unfolding values
  bytes_read zero h = refl
  bytes_read (suc n) h = rw (byte_read s at n (omega arith), bytes_read n (omega arith))

  words_read : Bytes s → (n : ℕ) → at + 4 * n ≤ length s → take (4 * n) (drop at s) ≡ words (values (λ k. number32_at s (at + 4 * k)) n)
  unfolding values words
  words_read bytes zero h = refl
  words_read bytes (suc n) h =
      let z : 4 * suc n ≡ 4 * n + 4 = omega arith in
      rw (z, take-add (4 * n) 4 (drop at s), drop-drop, number_read s bytes (at + 4 * n) (omega arith), words_read bytes n (omega arith), words-append)

-- ---- A row that was written

-- The field stands whole; its n entries are those at the front of the array, and after it comes the rest.
pub record RowWritten (s rest array : List ℕ) (at tag size n : ℕ) (entry : ℕ → ℕ) : Type 0 where
  pub whole : WholeAt s at tag size
  pub entries : (k : ℕ) → k < n → entry k ≡ get_or array k 0
  pub ends : drop (at + 3 + size) s ≡ rest

module _ (s rest array : List ℕ) (at tag n : ℕ) (room : n ≤ length array) where
  pub bytes_written : n < 65536 → drop at s ≡ field tag (take n array) ++ rest → RowWritten s rest array at tag n n (byte_entry s at)
  bytes_written short there =
      let long : length (take n array) ≡ n = length-take-le n array room in
      let f = field_written s rest (take n array) at tag n long short there in
      record {
        whole = f.whole;
        entries = λ k h.
            byte_written s _ (at + 3) f.holds (at + 3 + k) k refl
            ∙ get_or-append (take n array) rest 0 k (rw long h)
            ∙ get_or-take n array k 0 h;
        ends = f.ends;
      }

  pub words_written : 4 * n < 65536 → drop at s ≡ field tag (words (take n array)) ++ rest → RowWritten s rest array at tag (4 * n) n (word_entry s at)
  words_written short there =
      let long : length (take n array) ≡ n = length-take-le n array room in
      let f = field_written s rest (words (take n array)) at tag (4 * n) (rw length-words (rw long)) short there in
      record {
        whole = f.whole;
        entries = λ k h. word_written s rest (take n array) (at + 3) f.holds k (rw long h) ∙ get_or-take n array k 0 h;
        ends = f.ends;
      }

pub field_passes : (s : List ℕ) (at tag size : ℕ) → WholeAt s at tag size → field_answer s at tag size ≡ Ok tt
field_passes s at tag size whole = sym (stands_as_expected s at tag size (stands_true size tag tag s at tag whole (omega arith) (omega arith)))

pub same_array : (n size : ℕ) (a b : List ℕ) → Uses n size a → Uses n size b → ((k : ℕ) → k < n → get_or a k 0 ≡ get_or b k 0) → a ≡ b
same_array n size a b in_a in_b same = ext_get_or 0 a b (in_a.places ∙ sym in_b.places) (λ k l. each k (k <? n) refl)
  where
    each : (k : ℕ) (t : Bool) → (k <? n) ≡ t → get_or a k 0 ≡ get_or b k 0
    each k true e = same k (ltb-true k n e)
    each k false e = in_a.rest k (ltb-false k n e) ∙ sym (in_b.rest k (ltb-false k n e))

pub all_pass : (s : List ℕ) (at tag size : ℕ) (entry : ℕ → TableAnswer) (n : ℕ) → WholeAt s at tag size →
    ((k : ℕ) → k < n → entry k ≡ Ok tt) → row_answer s at tag size entry n ≡ Ok tt
unfolding row_answer
all_pass s at tag size entry n whole each =
    sym (goes_on (field_passes s at tag size whole) (each_pass entry n 0 (λ k l. each k (omega arith))))

module _ {s rest array : List ℕ} {at tag size n : ℕ} {entry : ℕ → ℕ} (row : RowWritten s rest array at tag size n entry) where
  pub row_passes : (limit : ℕ) (called : ℕ → Refusal) → ((k : ℕ) → k < n → get_or array k 0 < limit) →
      row_answer s at tag size (below limit entry called) n ≡ Ok tt
  row_passes limit called low =
      all_pass s at tag size _ n row.whole (λ k h. is_below limit entry called k (rw (row.entries k h) (low k h)))

  pub row_kept : (places : ℕ) → n ≤ places → Uses n places array → filled_to entry n (zeros places) ≡ array
  row_kept places fits uses =
      same_array n places _ array (filled_uses entry n places fits) uses (λ k h. get_or-filled entry n places fits k h ∙ row.entries k h)

-- ---- A row that is read

pub front : (entry : ℕ → ℕ) (n places : ℕ) → take n (filled_to entry n (zeros places)) ≡ values entry n
front entry n places = take_at (values entry n) (drop n (zeros places)) n (length-values entry n)

module _ (s : List ℕ) (bytes : Bytes s) (at tag n places : ℕ) where
  pub byte_row_read : WholeAt s at tag n → drop at s ≡ field tag (take n (filled_to (byte_entry s at) n (zeros places))) ++ drop (at + 3 + n) s
  byte_row_read whole =
      rw (front (byte_entry s at) n places, ← bytes_read s (at + 3) n whole.fits) (field_read s bytes at tag n whole)

  pub word_row_read : WholeAt s at tag (4 * n) →
      drop at s ≡ field tag (words (take n (filled_to (word_entry s at) n (zeros places)))) ++ drop (at + 3 + 4 * n) s
  word_row_read whole =
      rw (front (word_entry s at) n places, ← words_read s (at + 3) bytes n whole.fits) (field_read s bytes at tag (4 * n) whole)
