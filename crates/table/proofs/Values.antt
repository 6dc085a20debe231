-- Lists filled from the front, and arrays that hold them.
use mathlib.Core.Path.{◌≡◌, refl, ◌∙◌}
use mathlib.Core.List.{List, [], ◌∷◌, ◌++◌, append_assoc}
use mathlib.Core.Logic.{◌⊎◌, inl, inr}
use Prim.Native.Nat.{ℕ, zero, suc, ◌+◌, ◌-◌, ◌<◌, ◌≤◌}
use native.Mathlib.Nat.{not-suc-le-zero, le_of_suc-le-suc, eq-or-lt_of_le}
use native.Mathlib.Numerals.{add-one}
use native.Mathlib.Omega.{arith}
use lib.ListN.{length, get_or, set, drop, length-append, length-drop, length-replicate, length-set, get_or-append}
use lib.Seq.{set_at, get_or_at, get_or-drop, get_or-append-add, drop-cons}
use Rattle.table.specs.Entries.{values, total, filled_to, zeros}
use Rattle.table.specs.Table.{Uses}

module _ (f : ℕ → ℕ) where
  pub length-values : (n : ℕ) → length (values f n) ≡ n
  unfolding values
  length-values zero = refl
  length-values (suc n) = rw (length-append, length-values n) (add-one n)

  set_filled : (array : List ℕ) (k : ℕ) → k < length array → set (filled_to f k array) k (f k) ≡ filled_to f (k + 1) array
  unfolding values
  set_filled array k h =
      rw (drop-cons array k 0 h, set_at (values f k) (get_or array k 0) (drop (suc k) array) (f k) k (length-values k), add-one k, append_assoc)

  pub get_or-values : (n k : ℕ) → k < n → get_or (values f n) k 0 ≡ f k
  unfolding values
  get_or-values zero k h = absurd (not-suc-le-zero h)
  get_or-values (suc n) k h = go (eq-or-lt_of_le (le_of_suc-le-suc h)) (get_or-values n k)
    where
      go : (k ≡ n) ⊎ (k < n) → (k < n → get_or (values f n) k 0 ≡ f k) → get_or (values f n ++ f n ∷ []) k 0 ≡ f k
      go (inl q) r = rw q (get_or_at (values f n) (f n) [] 0 n (length-values n))
      go (inr l) r = get_or-append (values f n) (f n ∷ []) 0 k (rw length-values l) ∙ r l

-- ---- Sums

pub total_none : (f : ℕ → ℕ) (n : ℕ) → ((k : ℕ) → k < n → f k ≡ 0) → total f n ≡ 0
unfolding total
total_none f zero none = refl
total_none f (suc n) none = omega (arith, total_none f n (λ k h. none k (omega arith)), none n (omega arith))

pub total-add : (f g : ℕ → ℕ) (n : ℕ) → total (λ k. f k + g k) n ≡ total f n + total g n
unfolding total
total-add f g zero = refl
total-add f g (suc n) = omega (arith, total-add f g n)

-- ---- The loop that fills an array

pub record Filling (f : ℕ → ℕ) (n : ℕ) (before after : List ℕ) (k : ℕ) : Type 0 where
  pub low : k ≤ n
  pub is : after ≡ filled_to f k before
  pub same : length after ≡ length before

pub none_filled : (f : ℕ → ℕ) (n : ℕ) (before : List ℕ) → Filling f n before before 0
unfolding values
none_filled f n before = record { low = omega arith; is = refl; same = refl }

module _ {f : ℕ → ℕ} {n : ℕ} {before after : List ℕ} {k : ℕ} (inv : Filling f n before after k) where
  pub all_filled : n ≤ k → after ≡ filled_to f n before
  all_filled h = let e : k ≡ n = omega (arith, inv.low) in rw e at inv.is

  pub one_filled : k < n → n ≤ length before → (v : ℕ) → v ≡ f k → Filling f n before (set after k v) (k + 1)
  one_filled more room v e = record {
    low = omega arith;
    is = rw (e, inv.is) (set_filled f before k (omega arith));
    same = simp length-set inv.same;
  }

-- ---- Arrays that were all zeros

pub get_or-zeros : (n k : ℕ) → get_or (zeros n) k 0 ≡ 0
get_or-zeros zero k = refl
get_or-zeros (suc n) zero = refl
get_or-zeros (suc n) (suc k) = get_or-zeros n k

module _ (f : ℕ → ℕ) (n size : ℕ) (fits : n ≤ size) where
  pub get_or-filled : (k : ℕ) → k < n → get_or (filled_to f n (zeros size)) k 0 ≡ f k
  get_or-filled k h = get_or-append (values f n) (drop n (zeros size)) 0 k (rw length-values h) ∙ get_or-values f n k h

  pub filled_uses : Uses n size (filled_to f n (zeros size))
  filled_uses = record { places = rw (length-append, length-drop, length-replicate, length-values) (omega arith); rest = past }
    where
      past : (k : ℕ) → n ≤ k → get_or (filled_to f n (zeros size)) k 0 ≡ 0
      past k h =
          let e : k ≡ length (values f n) + (k - n) = rw length-values (omega arith) in
          rw (e, get_or-append-add, get_or-drop) (get_or-zeros size _)
