-- The worst path has at most two bytes for each move.
use mathlib.Core.Bool.{Bool, true, false}
use mathlib.Core.List.{[], ◌∷◌}
use Prim.Native.Nat.{ℕ, zero, suc, ◌+◌, ◌-◌, ◌≤◌}
use native.Mathlib.Omega.{arith}
use lib.ListN.{length}
use Rattle.std.specs.Prelude.{if◌then◌else◌}
use Rattle.wire.specs.Choice.{◌=?◌}
use Rattle.table.specs.declared.Table.{Table}
use Rattle.table.specs.Table.{next_of}
use Rattle.moves.specs.Moves.{most_ahead, worst_input, sums_of, path_from, largest_sum, worst_start, worst_path}

module _ (t : Table) (P A N : ℕ) (w : ℕ → ℕ) where
  path_short : (k q : ℕ) → length (path_from t P A N w k q) ≤ k + k + 1
  unfolding path_from
  path_short zero q = omega arith
  path_short (suc k) q = go (most_ahead t P A N (sums_of t P A N w (suc k)) q =? 0) (path_short k)
    where
      to : ℕ
      to = next_of t q (worst_input t P A N (sums_of t P A N w (suc k)) q)

      go : (b : Bool) → ((p : ℕ) → length (path_from t P A N w k p) ≤ k + k + 1) →
          length (if b then q ∷ [] else q ∷ worst_input t P A N (sums_of t P A N w (suc k)) q ∷ path_from t P A N w k to) ≤ suc k + suc k + 1
      go true r = omega arith
      go false r = omega (arith, r to)

  pub worst_short : (n : ℕ) → length (worst_path t P A N w n) ≤ n + n + 1
  unfolding worst_path
  worst_short n = go (largest_sum t P A N w n =? 0) (path_short (n - 1) (worst_start t P A N w n))
    where
      go : (b : Bool) → length (path_from t P A N w (n - 1) (worst_start t P A N w n)) ≤ n - 1 + (n - 1) + 1 →
          length (if b then [] else path_from t P A N w (n - 1) (worst_start t P A N w n)) ≤ n + n + 1
      go true l = omega arith
      go false l = omega arith
