-- The lines as parts of the sheet.
use mathlib.Core.Path.{◌≡◌}
use mathlib.Core.List.{List, [], ◌∷◌}
use Prim.Native.Nat.{ℕ, ◌+◌, ◌*◌, ◌/◌, ◌%◌, ◌≤◌, min}
use native.Mathlib.Omega.{arith}
use lib.ListN.{length, get_or}
use Rattle.io.specs.Counts.{IsPrefixLen}
use Rattle.report.specs.declared.Report.{Report}
use Rattle.line.specs.Line.{text, Puts}
use Rattle.line.proofs.Puts.{puts_both, puts_counts}
use Rattle.sheet.specs.Sheet.{row, joined, states_of, inputs_of, pair_line, state_line, sheet_of, quoted_byte, quoted}

module _ (x : Report) {inputs : ℕ} (i : inputs ≡ inputs_of x) where
  pub puts_pair : (k : ℕ) {before : List ℕ} {at : ℕ} {after : List ℕ} {end : ℕ} →
      Puts (row (text "pair") (k / inputs ∷ k % inputs ∷ get_or x.pairs k 0 ∷ [])) before at after end → Puts (pair_line x k) before at after end
  unfolding pair_line
  puts_pair k puts = rw i at puts

  pub puts_sheet : {states : ℕ} → states ≡ states_of x →
      {before after between later : List ℕ} {end middle last : ℕ} → Puts (row (text "journals") (x.journals ∷ [])) before 0 after end →
      Puts (joined (pair_line x) (states * inputs)) after end between middle → Puts (joined (state_line x) states) between middle later last →
      Puts (sheet_of x) before 0 later last × IsPrefixLen last later
  unfolding sheet_of
  puts_sheet s journals pairs states =
      let whole = puts_both journals (puts_both (rw (s, i) at pairs) (rw s at states)) in
      (whole, puts_counts whole)

-- The bytes of a name, as many as are written.
pub puts_name : (name : List ℕ) {n : ℕ} → n ≡ min (length name) 4096 → {before : List ℕ} {at : ℕ} {after : List ℕ} {end : ℕ} →
    Puts (joined (λ k. quoted_byte (get_or name k 0)) n) before at after end × (end ≤ at + 2 * n) →
    Puts (quoted name) before at after end × (end ≤ at + 8192)
unfolding quoted
puts_name name e p = (rw e at p.0, omega (arith, p.1))
