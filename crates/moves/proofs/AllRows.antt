-- The rows of sums, one after another.
use mathlib.Core.Path.{◌≡◌, ◌∙◌}
use mathlib.Core.List.{◌++◌}
use mathlib.Core.Logic.{◌⊎◌, inl, inr}
use Prim.Native.Nat.{ℕ, zero, suc, ◌+◌, ◌*◌, ◌<◌}
use native.Mathlib.Nat.{not-suc-le-zero, le_of_suc-le-suc, eq-or-lt_of_le}
use native.Mathlib.Numerals.{add-one}
use native.Mathlib.Omega.{arith}
use lib.Arith.{digits_lt}
use lib.ListN.{length, get_or, length-append, get_or-append}
use lib.Seq.{get_or-append-add}
use Rattle.table.specs.declared.Table.{Table}
use Rattle.table.proofs.Values.{length-values}
use Rattle.moves.specs.Moves.{round, sums_of, rows}

module _ (t : Table) (P A N : ℕ) (w : ℕ → ℕ) where
  pub length-rows : (n : ℕ) → length (rows t P A N w n) ≡ n * t.states
  unfolding rows sums_of round
  length-rows zero = omega arith
  length-rows (suc n) = rw (length-append, length-rows n, length-values) (omega arith)

  pub row_at : (n row q : ℕ) → row < n → q < t.states → get_or (rows t P A N w n) (row * t.states + q) 0 ≡ get_or (sums_of t P A N w (row + 1)) q 0
  unfolding rows
  row_at zero row q h l = absurd (not-suc-le-zero h)
  row_at (suc n) row q h l = go (eq-or-lt_of_le (le_of_suc-le-suc h)) (row_at n row q)
    where
      go : (row ≡ n) ⊎ (row < n) → (row < n → q < t.states → get_or (rows t P A N w n) (row * t.states + q) 0 ≡ get_or (sums_of t P A N w (row + 1)) q 0) →
          get_or (rows t P A N w n ++ sums_of t P A N w (suc n)) (row * t.states + q) 0 ≡ get_or (sums_of t P A N w (row + 1)) q 0
      go (inl e) r = rw (e, add-one n, ← length-rows n) (get_or-append-add (rows t P A N w n) (sums_of t P A N w (suc n)) q 0)
      go (inr below) r =
          get_or-append (rows t P A N w n) (sums_of t P A N w (suc n)) 0 (row * t.states + q) (rw (length-rows n) (digits_lt below l)) ∙ r below l
