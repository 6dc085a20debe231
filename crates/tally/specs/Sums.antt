-- Numbers added to sums of 64 bits, place by place; sums past the last number are unchanged.
use Rattle.std.specs.Prelude.{ℕ, ◌+◌, ◌%◌, ◌^◌, List, [], ◌∷◌}

unfoldable pub summed : (sums numbers : List ℕ) → List ℕ
summed [] numbers = []
summed (sum ∷ sums) [] = sum ∷ sums
summed (sum ∷ sums) (number ∷ numbers) = (sum + number) % 2 ^ 64 ∷ summed sums numbers
