-- So much more at one place of a list: of its front, of what stands behind it, once more, and in the sums to which the list is added.
use Rattle.std.proofs.Common.{◌≡◌, ℕ, zero, suc, ◌+◌, ◌-◌, ◌%◌, ◌^◌, ◌<◌, ◌≤◌, List, [], ◌∷◌, ◌++◌, length, get_or, take, refl, ap, ◌∙◌, le_of_suc-le-suc, not-suc-le-zero, arith}
use lib.Seq.{set-get_or}
use Rattle.table.specs.Entries.{zeros}
use Rattle.tally.specs.Sums.{summed}
use Rattle.tally.specs.Counting.{more, more_sum}

-- ---- Parts of a list

pub more_front : (a b : List ℕ) (k n : ℕ) → k < length a → more (a ++ b) k n ≡ more a k n ++ b
more_front [] b k n h = absurd (not-suc-le-zero h)
more_front (x ∷ a) b zero n h = refl
more_front (x ∷ a) b (suc k) n h = ap (λ l. x ∷ l) (more_front a b k n (le_of_suc-le-suc h))

pub more_behind : (a b : List ℕ) (place k n : ℕ) → place ≡ length a + k → more (a ++ b) place n ≡ a ++ more b k n
more_behind [] b place k n is = let e : place ≡ k = omega (arith, is) in rw e refl
more_behind (x ∷ a) b place k n is =
    let e : place ≡ suc (length a + k) = omega (arith, is) in
    rw e (ap (λ l. x ∷ l) (more_behind a b (length a + k) k n refl))

pub take-more : (m : ℕ) (l : List ℕ) (k n : ℕ) → k < m → take m (more l k n) ≡ more (take m l) k n
take-more zero l k n h = absurd (not-suc-le-zero h)
take-more (suc m) [] k n h = refl
take-more (suc m) (x ∷ l) zero n h = refl
take-more (suc m) (x ∷ l) (suc k) n h = ap (λ r. x ∷ r) (take-more m l k n (le_of_suc-le-suc h))

-- ---- Once more at the same place

pub more_none : (l : List ℕ) (k : ℕ) → more l k 0 ≡ l
more_none l k = let e : get_or l k 0 + 0 ≡ get_or l k 0 = omega arith in rw e (set-get_or l k 0)

pub more_again : (l : List ℕ) (k m n : ℕ) → more (more l k m) k n ≡ more l k (m + n)
more_again [] k m n = refl
more_again (x ∷ l) zero m n = ap (λ y. y ∷ l) (let e : x + m + n ≡ x + (m + n) = omega arith in e)
more_again (x ∷ l) (suc k) m n = ap (λ r. x ∷ r) (more_again l k m n)

-- A stretch of time in two parts, and one that has just begun.
pub two_parts : (l : List ℕ) (k since before time : ℕ) → since ≤ before → before ≤ time →
    more (more l k (before - since)) k (time - before) ≡ more l k (time - since)
two_parts l k since before time low high =
    more_again l k (before - since) (time - before) ∙ ap (more l k) (let e : before - since + (time - before) ≡ time - since = omega arith in e)

pub just_begun : (l : List ℕ) (k time : ℕ) → more l k (time - time) ≡ l
just_begun l k time = ap (more l k) (let e : time - time ≡ 0 = omega arith in e) ∙ more_none l k

-- ---- Sums

pub summed-length : (sums numbers : List ℕ) → length (summed sums numbers) ≡ length sums
unfolding summed
summed-length [] numbers = refl
summed-length (sum ∷ sums) [] = refl
summed-length (sum ∷ sums) (number ∷ numbers) = ap suc (summed-length sums numbers)

wraps_once : (a b n : ℕ) → (a + (b + n)) % 2 ^ 64 ≡ ((a + b) % 2 ^ 64 + n) % 2 ^ 64
wraps_once a b n = omega arith

pub summed-more : (sums numbers : List ℕ) (k n : ℕ) → k < length numbers → length numbers ≤ length sums →
    summed sums (more numbers k n) ≡ more_sum (summed sums numbers) k n
unfolding summed
summed-more sums [] k n h room = absurd (not-suc-le-zero h)
summed-more [] (number ∷ numbers) k n h room = absurd (not-suc-le-zero room)
summed-more (sum ∷ sums) (number ∷ numbers) zero n h room = ap (λ x. x ∷ summed sums numbers) (wraps_once sum number n)
summed-more (sum ∷ sums) (number ∷ numbers) (suc k) n h room =
    ap (λ l. (sum + number) % 2 ^ 64 ∷ l) (summed-more sums numbers k n (le_of_suc-le-suc h) (le_of_suc-le-suc room))

-- ---- Nothing

abbrev pub Nothing : List ℕ → Type 0
Nothing [] = Unit
Nothing (x ∷ l) = (x ≡ 0) × Nothing l

pub nothing_more : (a b : List ℕ) → Nothing a → Nothing b → Nothing (a ++ b)
nothing_more [] b none others = others
nothing_more (x ∷ a) b (here, none) others = (here, nothing_more a b none others)

pub zeros_taken : (m n : ℕ) → Nothing (take m (zeros n))
zeros_taken zero n = tt
zeros_taken (suc m) zero = tt
zeros_taken (suc m) (suc n) = (refl, zeros_taken m n)

pub nothing_added : (sums numbers : List ℕ) → ((k : ℕ) → get_or sums k 0 < 2 ^ 64) → Nothing numbers → summed sums numbers ≡ sums
unfolding summed
nothing_added [] numbers small none = refl
nothing_added (sum ∷ sums) [] small none = refl
nothing_added (sum ∷ sums) (number ∷ numbers) small (here, none) =
    let same : (sum + number) % 2 ^ 64 ≡ sum = omega (arith, small 0) in
    rw (same, nothing_added sums numbers (λ k. small (suc k)) none) refl
