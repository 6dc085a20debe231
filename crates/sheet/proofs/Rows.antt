-- How long rows are, so that a sheet fits into its buffer.
use mathlib.Core.Path.{◌≡◌}
use mathlib.Core.Bool.{Bool, true, false}
use mathlib.Core.List.{List, [], ◌∷◌, ◌++◌}
use Prim.Native.Nat.{ℕ, zero, suc, ◌+◌, ◌*◌, ◌/◌, ◌%◌, ◌<◌, ◌≤◌}
use native.Mathlib.Nat.{div-lt_iff_lt-mul, mod-lt}
use native.Mathlib.Omega.{arith}
use borrow.Author.Tests.{lt-ltb}
use lib.ListN.{length, length-append}
use Rattle.std.specs.Prelude.{if◌then◌else◌}
use Rattle.wire.specs.Choice.{◌<?◌}
use Rattle.line.specs.Line.{text, digit, digits_of, decimal, Puts}
use Rattle.sheet.specs.Sheet.{row}

-- ---- Numbers

either : (b : Bool) (xs ys : List ℕ) {most : ℕ} → length xs ≤ most → length ys ≤ most → length (if b then xs else ys) ≤ most
either true xs ys h g = h
either false xs ys h g = g

pub at_most : (k n : ℕ) → length (digits_of k n) ≤ k
unfolding digits_of
at_most zero n = omega arith
at_most (suc k) n = either (n <? 10) (digit n ∷ []) (digits_of k (n / 10) ++ digit (n % 10) ∷ []) (omega arith)
    (rw length-append (omega (arith, at_most k (n / 10))))

one_digit : (k n : ℕ) → n < 10 → length (digits_of (suc k) n) ≤ 1
unfolding digits_of
one_digit k n small = rw (lt-ltb n 10 small) (omega arith)

pub two_digits : (n : ℕ) → n < 100 → length (decimal n) ≤ 2
unfolding digits_of
two_digits n small = either (n <? 10) (digit n ∷ []) (digits_of 19 (n / 10) ++ digit (n % 10) ∷ []) (omega arith)
    (rw length-append (omega (arith, one_digit 18 (n / 10) (omega arith))))

-- ---- Rows

row-length : (word : List ℕ) (a b c : ℕ) →
    length (row word (a ∷ b ∷ c ∷ [])) ≡ length word + (4 + length (decimal a) + length (decimal b) + length (decimal c))
unfolding row
row-length word a b c = simp length-append (omega arith)

-- A place in the rows has a state and an input of the table.
pub pair_of : (inputs k : ℕ) → inputs ≤ 32 → k < 32 * inputs → (k / inputs < 100) × (k % inputs < 100)
pair_of inputs k few h =
    let some : 0 < inputs = omega arith in
    let state : k / inputs < 32 = (div-lt_iff_lt-mul some).1 h in
    (omega arith, omega (arith, mod-lt k some))

module _ {before : List ℕ} {at : ℕ} {after : List ℕ} {end : ℕ} where
  pub pair_short : (inputs k slots : ℕ) → inputs ≤ 32 → k < 32 * inputs →
      Puts (row (text "pair") (k / inputs ∷ k % inputs ∷ slots ∷ [])) before at after end →
      Puts (row (text "pair") (k / inputs ∷ k % inputs ∷ slots ∷ [])) before at after end × (end ≤ at + 32)
  pair_short inputs k slots few h puts =
      let pair = pair_of inputs k few h in
      let state = two_digits (k / inputs) pair.0 in
      let input = two_digits (k % inputs) pair.1 in
      (puts, omega (arith, puts.ends, row-length (text "pair") (k / inputs) (k % inputs) slots, state, input, at_most 20 slots))

  pub state_short : (state slots entries : ℕ) → state < 32 →
      Puts (row (text "state") (state ∷ slots ∷ entries ∷ [])) before at after end → end ≤ at + 51
  state_short state slots entries few puts =
      let long = row-length (text "state") state slots entries in
      omega (arith, puts.ends, long, two_digits state (omega arith), at_most 20 slots, at_most 20 entries)
