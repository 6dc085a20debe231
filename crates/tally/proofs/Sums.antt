-- Numbers added one after another.
use Rattle.std.proofs.Common.{◌≡◌, ℕ, zero, suc, ◌+◌, ◌%◌, ◌^◌, ◌<◌, ◌≤◌, List, [], ◌∷◌, length, get_or, take, set, refl, ap, arith}
use Rattle.tally.specs.Sums.{summed}

pub none_more : (sums : List ℕ) → summed sums [] ≡ sums
unfolding summed
none_more [] = refl
none_more (sum ∷ sums) = refl

pub one_added : (sums numbers : List ℕ) (k : ℕ) → k < length numbers → length numbers ≤ length sums →
    summed sums (take (suc k) numbers) ≡ set (summed sums (take k numbers)) k ((get_or (summed sums (take k numbers)) k 0 + get_or numbers k 0) % 2 ^ 64)
unfolding summed
one_added sums [] k low room = absurd (omega arith)
one_added [] (n ∷ ns) k low room = absurd (omega arith)
one_added (x ∷ []) (n ∷ ns) zero low room = refl
one_added (x ∷ y ∷ sums) (n ∷ ns) zero low room = refl
one_added (x ∷ sums) (n ∷ ns) (suc k) low room = ap (λ l. (x + n) % 2 ^ 64 ∷ l) (one_added sums ns k (omega arith) (omega arith))
