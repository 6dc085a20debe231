-- The loop that writes the sets: the first k stand in the buffer, and so many of them changed.
use mathlib.Core.Path.{◌≡◌, refl, sym, ap, ◌∙◌}
use mathlib.Core.List.{List, [], ◌∷◌, ◌++◌, append-nil}
use Prim.Native.Nat.{ℕ, ◌+◌, ◌*◌, ◌<◌, ◌≤◌}
use native.Mathlib.Numerals.{add-one}
use native.Mathlib.Omega.{arith}
use lib.ListN.{length, take-append-drop}
use Rattle.wire.specs.Encode.{bytes32, placed_in}
use Rattle.wire.proofs.Placed.{placed_length, placed_after}
use Rattle.table.specs.Entries.{values, total}
use Rattle.table.specs.Encode.{words}
use Rattle.table.proofs.Values.{length-values}
use Rattle.table.proofs.Words.{length-words, words-append}

pub record Writing (before : List ℕ) (at n : ℕ) (f g : ℕ → ℕ) (out : List ℕ) (changed k : ℕ) : Type 0 where
  pub some : k ≤ n
  pub room : at + 4 * n ≤ length before
  pub few : changed ≤ k
  pub count : changed ≡ total g k
  pub is : out ≡ placed_in before at (words (values f k))
  pub long : length out ≡ length before

module _ (f : ℕ → ℕ) where
  pub length_sets : (k : ℕ) → length (words (values f k)) ≡ 4 * k
  length_sets k = length-words (values f k) ∙ ap (λ n. 4 * n) (length-values f k)

  one_more : (k : ℕ) → words (values f (k + 1)) ≡ words (values f k) ++ bytes32 (f k)
  unfolding values words
  one_more k = rw (add-one k) (words-append (values f k) (f k ∷ []))

placed_nothing : (l : List ℕ) (at : ℕ) → l ≡ placed_in l at []
placed_nothing l at = let z : at + 0 ≡ at = omega arith in rw (z, append-nil) (sym (take-append-drop at l))

pub none_written : (before : List ℕ) (at n : ℕ) (f g : ℕ → ℕ) → at + 4 * n ≤ length before → Writing before at n f g before 0 0
unfolding values words total
none_written before at n f g room = record {
  some = omega arith;
  room = room;
  few = omega arith;
  count = refl;
  is = placed_nothing before at;
  long = refl;
}

module _ {before : List ℕ} {at n : ℕ} {f g : ℕ → ℕ} {out : List ℕ} {changed k : ℕ} (inv : Writing before at n f g out changed k) where
  pub one_written : k < n → (out' : List ℕ) → out' ≡ placed_in out (at + 4 * k) (bytes32 (f k)) → (d : ℕ) → d ≡ g k → d ≤ 1 →
      Writing before at n f g out' (changed + d) (k + 1)
  unfolding total
  one_written more out' put d is_d low =
      let size = length_sets f k in
      let there : out' ≡ placed_in before at (words (values f k) ++ bytes32 (f k)) =
      put ∙ rw (inv.is, ← size) (placed_after before at (words (values f k)) (bytes32 (f k)) (omega (arith, inv.room)))
      in
      let is_out = rw (← one_more f k) at there in
      let fits : at + length (words (values f (k + 1))) ≤ length before = rw (length_sets f (k + 1)) (omega (arith, inv.room)) in
      record {
        some = omega arith;
        room = inv.room;
        few = omega (arith, inv.few);
        count = rw (add-one k, inv.count, is_d) refl;
        is = is_out;
        long = ap length is_out ∙ placed_length before at (words (values f (k + 1))) fits;
      }

  pub all_written : n ≤ k → (changed ≡ total g n) × (out ≡ placed_in before at (words (values f n)))
  all_written h = let e : k ≡ n = omega (arith, inv.some) in rw (← e) (inv.count, inv.is)
