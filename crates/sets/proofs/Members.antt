-- What its members say of a set as a number, and the laws of what is said over members.
use mathlib.Core.Path.{◌≡◌, refl, sym, ◌∙◌}
use mathlib.Core.Bool.{Bool, true, false, or-false}
use mathlib.Core.Logic.{◌⊎◌, inl, inr}
use Prim.Native.Nat.{ℕ, zero, suc, ◌+◌, ◌-◌, ◌*◌, ◌/◌, ◌%◌, ◌^◌, ◌<◌, ◌≤◌, max}
use native.Mathlib.Nat.{lt_of_lt_of_le, le_of_suc-le-suc, eq-or-lt_of_le, eq-zero-or-pos, not-suc-le-zero}
use native.Mathlib.Nat.{pow-suc, mod-lt, mod-eq_of_lt, div-eq_of_lt, div-lt_iff_lt-mul}
use native.Mathlib.Omega.{arith}
use borrow.Author.Tests.{lt-ltb, ltb-true, leb-true, leb-false, eq-eqb, eqb-true}
use lib.Bits.{bit_and, bit_or, and_mask, or_shifted_r}
use lib.Count.{ones, ones_step, ones_cat}
use lib.Dec.{leb}
use lib.Pow.{pow_mono, pow_pos, shr-shr, split}
use Rattle.std.specs.Prelude.{if◌then◌else◌}
use Rattle.wire.specs.Choice.{◌=?◌, ◌<?◌, ◌and◌, ◌or◌}
use Rattle.wire.proofs.Choice.{never, both, either, or_first, or_second, same_test}
use Rattle.sets.specs.Sets.{member, some, set_of, largest}
use Rattle.sets.proofs.Bits.{even_or_odd, member_zero, member-suc, none_in_empty, union_is, single_is}

-- ---- A set as a number

same_low : (x y : ℕ) → (x % 2 =? 1) ≡ (y % 2 =? 1) → x % 2 ≡ y % 2
same_low x y e = go (even_or_odd x) (even_or_odd y)
  where
    go : (x % 2 ≡ 0) ⊎ (x % 2 ≡ 1) → (y % 2 ≡ 0) ⊎ (y % 2 ≡ 1) → x % 2 ≡ y % 2
    go (inl a) (inl b) = omega arith
    go (inl a) (inr b) = never (rw (a, b) at e)
    go (inr a) (inl b) = never (sym (rw (a, b) at e))
    go (inr a) (inr b) = omega arith

same_in : (k x y : ℕ) → x ≤ k → y ≤ k → ((i : ℕ) → member x i ≡ member y i) → x ≡ y
same_in zero x y hx hy e = omega arith
same_in (suc k) x y hx hy e =
    let halves : x / 2 ≡ y / 2 = same_in k (x / 2) (y / 2) (omega arith) (omega arith) (λ i. sym (member-suc x i) ∙ e (suc i) ∙ member-suc y i) in
    let low : x % 2 ≡ y % 2 = same_low x y (sym (member_zero x) ∙ e 0 ∙ member_zero y) in
    omega arith

-- Sets with the same members are the same number.
pub same_members : (x y : ℕ) → ((i : ℕ) → member x i ≡ true → member y i ≡ true) → ((i : ℕ) → member y i ≡ true → member x i ≡ true) → x ≡ y
same_members x y f g = same_in (x + y) x y (omega arith) (omega arith) (λ i. same_test (member x i) (member y i) (f i) (g i))

contained_in : (k x y : ℕ) → x ≤ k → ((i : ℕ) → member x i ≡ true → member y i ≡ true) → x ≤ y
contained_in zero x y h f = omega arith
contained_in (suc k) x y h f = go (even_or_odd x) (contained_in k (x / 2) (y / 2) (omega arith) (λ i m. sym (member-suc y i) ∙ f (suc i) (member-suc x i ∙ m)))
  where
    go : (x % 2 ≡ 0) ⊎ (x % 2 ≡ 1) → x / 2 ≤ y / 2 → x ≤ y
    go (inl e) l = omega arith
    go (inr e) l = let odd : y % 2 ≡ 1 = eqb-true (y % 2) 1 (sym (member_zero y) ∙ f 0 (member_zero x ∙ rw e)) in omega arith

-- A set whose members are all in another is no larger number.
pub contained : (x y : ℕ) → ((i : ℕ) → member x i ≡ true → member y i ≡ true) → x ≤ y
contained x y f = contained_in x x y (omega arith) f

-- A set is below 2 ^ n exactly when each of its members is below n; else it has a member from n on.
pub member_below : (set n i : ℕ) → set < 2 ^ n → member set i ≡ true → i < n
member_below set n i h m = go (leb n i) refl
  where
    go : (b : Bool) → leb n i ≡ b → i < n
    go true e =
        let none : set / 2 ^ i ≡ 0 = div-eq_of_lt (lt_of_lt_of_le h (pow_mono (leb-true n i e))) in
        never (rw none at m)
    go false e = leb-false n i e

none_high : (set n : ℕ) → set / 2 ^ n ≡ 0 → set < 2 ^ n
none_high set n e =
    let l : set / 2 ^ n < 1 = omega arith in
    let b : set < 1 * 2 ^ n = (div-lt_iff_lt-mul (pow_pos n)).0 l in
    omega arith

some_member : (k x : ℕ) → x ≤ k → 0 < x → (i : ℕ) × (member x i ≡ true)
some_member zero x h p = absurd (let z : ⊥ = omega arith in z)
some_member (suc k) x h p = go (even_or_odd x) (some_member k (x / 2) (omega arith))
  where
    go : (x % 2 ≡ 0) ⊎ (x % 2 ≡ 1) → (0 < x / 2 → (i : ℕ) × (member (x / 2) i ≡ true)) → (i : ℕ) × (member x i ≡ true)
    go (inl e) r = let m = r (omega arith) in (suc m.0, member-suc x m.0 ∙ m.1)
    go (inr e) r = (0, member_zero x ∙ (rw e))

pub member_from : (set n : ℕ) → 2 ^ n ≤ set → (i : ℕ) × (n ≤ i) × (member set i ≡ true)
member_from set n h = go (eq-zero-or-pos (set / 2 ^ n))
  where
    go : (set / 2 ^ n ≡ 0) ⊎ (0 < set / 2 ^ n) → (i : ℕ) × (n ≤ i) × (member set i ≡ true)
    go (inl e) = absurd (let l = none_high set n e in let z : ⊥ = omega arith in z)
    go (inr p) =
        let m = some_member (set / 2 ^ n) (set / 2 ^ n) (omega arith) p in
        (n + m.0, omega arith, rw shr-shr at m.1)

pub below_limit : (set n : ℕ) → ((i : ℕ) → member set i ≡ true → i < n) → set < 2 ^ n
below_limit set n h = go (leb (2 ^ n) set) refl
  where
    go : (b : Bool) → leb (2 ^ n) set ≡ b → set < 2 ^ n
    go true e =
        let m = member_from set n (leb-true (2 ^ n) set e) in
        absurd (let l = h m.0 m.2 in let z : ⊥ = omega (arith, m.1) in z)
    go false e = leb-false (2 ^ n) set e

-- ---- The size of a set

-- Only the empty set has no members to count.
none_counted : (k x : ℕ) → x ≤ k → ones x ≡ 0 → x ≡ 0
none_counted zero x h e = omega arith
none_counted (suc k) x h e =
    let s : ones x ≡ x % 2 + ones (x / 2) = ones_step x in
    let half : x / 2 ≡ 0 = none_counted k (x / 2) (omega arith) (omega arith) in
    omega arith

-- As many members are below n as there are, exactly when every member is below n.
pub counts_within : (set n : ℕ) → (ones (bit_and set (2 ^ n - 1)) =? ones set) ≡ (set <? 2 ^ n)
counts_within set n = rw (and_mask set n) (same_test (ones (set % 2 ^ n) =? ones set) (set <? 2 ^ n) all_low few)
  where
    parts : ones set ≡ ones (set / 2 ^ n) + ones (set % 2 ^ n)
    parts = let e = ones_cat n (set / 2 ^ n) (set % 2 ^ n) (mod-lt set (pow_pos n)) in rw split at e

    all_low : (ones (set % 2 ^ n) =? ones set) ≡ true → (set <? 2 ^ n) ≡ true
    all_low e =
        let c : ones (set % 2 ^ n) ≡ ones set = eqb-true (ones (set % 2 ^ n)) (ones set) e in
        let none : set / 2 ^ n ≡ 0 = none_counted (set / 2 ^ n) (set / 2 ^ n) (omega arith) (omega (arith, parts)) in
        lt-ltb set (2 ^ n) (none_high set n none)

    few : (set <? 2 ^ n) ≡ true → (ones (set % 2 ^ n) =? ones set) ≡ true
    few e = let m : set % 2 ^ n ≡ set = mod-eq_of_lt (ltb-true set (2 ^ n) e) in rw m (eq-eqb (ones set) (ones set) refl)

-- ---- Some of the numbers below n

last_or_below : {n i : ℕ} → i < suc n → (i ≡ n) ⊎ (i < n)
last_or_below h = eq-or-lt_of_le (le_of_suc-le-suc h)

pub some_if : (n : ℕ) (test : ℕ → Bool) (i : ℕ) → i < n → test i ≡ true → some n test ≡ true
unfolding some
some_if zero test i h t = absurd (not-suc-le-zero h)
some_if (suc n) test i h t = go (last_or_below h) (some_if n test i)
  where
    go : (i ≡ n) ⊎ (i < n) → (i < n → test i ≡ true → some n test ≡ true) → (test n or some n test) ≡ true
    go (inl e) r = or_first (test n) (some n test) (rw e at t)
    go (inr l) r = or_second (test n) (some n test) (r l t)

pub record Passing (n : ℕ) (test : ℕ → Bool) : Type 0 where
  pub at : ℕ
  pub below : at < n
  pub passes : test at ≡ true

pub passing : (n : ℕ) (test : ℕ → Bool) → some n test ≡ true → Passing n test
unfolding some
passing zero test e = never e
passing (suc n) test e = go (either (test n) (some n test) e) (passing n test)
  where
    go : (test n ≡ true) ⊎ (some n test ≡ true) → (some n test ≡ true → Passing n test) → Passing (suc n) test
    go (inl t) r = record { at = n; below = omega arith; passes = t }
    go (inr s) r = let p = r s in record { at = p.at; below = omega (arith, p.below); passes = p.passes }

-- Where only numbers below n pass, there is no need to look further.
pub some_below : (n m : ℕ) (test : ℕ → Bool) → n ≤ m → ((i : ℕ) → test i ≡ true → i < n) → some m test ≡ some n test
some_below n m test h low = same_test (some m test) (some n test)
    (λ e. let p = passing m test e in some_if n test p.at (low p.at p.passes) p.passes)
    (λ e. let p = passing n test e in some_if m test p.at (omega (arith, p.below)) p.passes)

-- ---- The set of those that pass

grown : (n set : ℕ) (b : Bool) → set < 2 ^ n → (j : ℕ) → member (set + (if b then 2 ^ n else 0)) j ≡ (member set j or (b and (j =? n)))
grown n set true h j =
    let one : 1 * 2 ^ n ≡ 2 ^ n = omega arith in
    let swap : 2 ^ n + set ≡ set + 2 ^ n = omega arith in
    let e : bit_or set (2 ^ n) ≡ set + 2 ^ n = (rw one at (or_shifted_r 1 n set h)) ∙ swap in
    rw (← e) (union_is set (2 ^ n) j ∙ (rw (single_is n j)))
grown n set false h j = let e : set + 0 ≡ set = omega arith in rw e (sym (or-false (member set j)))

pub set_of_below : (n : ℕ) (test : ℕ → Bool) → set_of n test < 2 ^ n
unfolding set_of
set_of_below zero test = omega arith
set_of_below (suc n) test = let e : 2 ^ suc n ≡ 2 ^ n * 2 = pow-suc 2 n in go (test n) (set_of_below n test)
  where
    go : (b : Bool) → set_of n test < 2 ^ n → set_of n test + (if b then 2 ^ n else 0) < 2 ^ suc n
    go true h = let e : 2 ^ suc n ≡ 2 ^ n * 2 = pow-suc 2 n in omega arith
    go false h = let e : 2 ^ suc n ≡ 2 ^ n * 2 = pow-suc 2 n in omega arith

pub set_of_has : (n : ℕ) (test : ℕ → Bool) (i : ℕ) → i < n → test i ≡ true → member (set_of n test) i ≡ true
unfolding set_of
set_of_has zero test i h t = absurd (not-suc-le-zero h)
set_of_has (suc n) test i h t =
    grown n (set_of n test) (test n) (set_of_below n test) i ∙ go (last_or_below h) (set_of_has n test i)
  where
    go : (i ≡ n) ⊎ (i < n) → (i < n → test i ≡ true → member (set_of n test) i ≡ true) → (member (set_of n test) i or (test n and (i =? n))) ≡ true
    go (inl e) r = or_second (member (set_of n test) i) (test n and (i =? n)) (rw (rw e at t) (eq-eqb i n e))
    go (inr l) r = or_first (member (set_of n test) i) (test n and (i =? n)) (r l t)

pub set_of_only : (n : ℕ) (test : ℕ → Bool) (i : ℕ) → member (set_of n test) i ≡ true → (i < n) × (test i ≡ true)
unfolding set_of
set_of_only zero test i m = never (sym (none_in_empty i) ∙ m)
set_of_only (suc n) test i m =
    let e = sym (grown n (set_of n test) (test n) (set_of_below n test) i) ∙ m in
    go (either (member (set_of n test) i) (test n and (i =? n)) e) (set_of_only n test i)
  where
    go : (member (set_of n test) i ≡ true) ⊎ ((test n and (i =? n)) ≡ true) →
        (member (set_of n test) i ≡ true → (i < n) × (test i ≡ true)) → (i < suc n) × (test i ≡ true)
    go (inl s) r = let p = r s in (omega (arith, p.0), p.1)
    go (inr s) r = let b = both (test n) (i =? n) s in let e : i ≡ n = eqb-true i n b.1 in (omega arith, rw e b.0)

-- ---- The largest

pub largest_covers : (n : ℕ) (test : ℕ → Bool) (f : ℕ → ℕ) (i : ℕ) → i < n → test i ≡ true → f i ≤ largest n test f
unfolding largest
largest_covers zero test f i h t = absurd (not-suc-le-zero h)
largest_covers (suc n) test f i h t = go (last_or_below h) (largest_covers n test f i)
  where
    go : (i ≡ n) ⊎ (i < n) → (i < n → test i ≡ true → f i ≤ largest n test f) → f i ≤ max (largest n test f) (if test n then f n else 0)
    go (inl e) r = rw e (rw (rw e at t) (omega arith))
    go (inr l) r = omega (arith, r l t)

pub record Reaching (n : ℕ) (test : ℕ → Bool) (f : ℕ → ℕ) (m : ℕ) : Type 0 where
  pub at : ℕ
  pub below : at < n
  pub passes : test at ≡ true
  pub is : m ≡ f at

pub largest_reached : (n : ℕ) (test : ℕ → Bool) (f : ℕ → ℕ) → (largest n test f ≡ 0) ⊎ Reaching n test f (largest n test f)
unfolding largest
largest_reached zero test f = inl refl
largest_reached (suc n) test f = go (test n) refl (leb (f n) (largest n test f)) refl (largest_reached n test f)
  where
    as_before : (m : ℕ) → m ≡ largest n test f → (largest n test f ≡ 0) ⊎ Reaching n test f (largest n test f) → (m ≡ 0) ⊎ Reaching (suc n) test f m
    as_before m e (inl z) = inl (e ∙ z)
    as_before m e (inr r) = inr (record { at = r.at; below = omega (arith, r.below); passes = r.passes; is = e ∙ r.is })

    go : (b : Bool) → test n ≡ b → (c : Bool) → leb (f n) (largest n test f) ≡ c → (largest n test f ≡ 0) ⊎ Reaching n test f (largest n test f) →
        (max (largest n test f) (if b then f n else 0) ≡ 0) ⊎ Reaching (suc n) test f (max (largest n test f) (if b then f n else 0))
    go false t c e r = as_before _ (omega arith) r
    go true t true e r = as_before _ (omega (arith, leb-true (f n) (largest n test f) e)) r
    go true t false e r = inr (record { at = n; below = omega arith; passes = t; is = omega (arith, leb-false (f n) (largest n test f) e) })
