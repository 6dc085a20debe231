-- The entries of a row taken together, with no way out of the loop: the largest of bytes, and words joined. What that tells of each.
use mathlib.Core.Path.{◌≡◌, refl, ◌∙◌}
use mathlib.Core.List.{List}
use mathlib.Core.Bool.{Bool, true, false, ◌&&◌, ◌||◌}
use mathlib.Core.Logic.{◌⊎◌, inl, inr}
use Prim.Native.Nat.{ℕ, ◌+◌, ◌-◌, ◌^◌, ◌<◌, ◌≤◌, max}
use native.Mathlib.Nat.{eq-or-lt_of_le}
use native.Mathlib.Numerals.{add-one}
use native.Mathlib.Omega.{arith}
use borrow.Author.Tests.{eq-eqb, ne_eqb, eqb-true, eqb-false, ltb-true}
use lib.ListN.{length, get_or, take, drop, length-take, length-drop}
use Rattle.std.proofs.lemmas.List.{get_or-take, get_or-drop}
use Rattle.std.specs.Prelude.{Ok}
use Rattle.std.specs.Prelude.{if◌then◌else◌}
use Rattle.wire.specs.Choice.{◌<?◌, ◌=?◌}
use Rattle.wire.specs.Turned.{turned32}
use Rattle.wire.proofs.Choice.{both, or_first, or_second}
use Rattle.wire.proofs.Turned.{turned_zero}
use Rattle.sets.specs.Sets.{member, largest, Union}
use Rattle.sets.proofs.Members.{largest_covers}
use Rattle.sets.proofs.Turned.{turned_within}
use Rattle.table.specs.Check.{byte_entry, word_entry, set_entry}
use Rattle.table.specs.Inner.{idle_set, Ceiling}
use Rattle.table.proofs.Rows.{set_passes}

-- ---- The largest entry

-- That of the first k entries is found.
pub record Largest (entry : ℕ → ℕ) (n k top : ℕ) : Type 0 where
  pub low : k ≤ n
  pub is : top ≡ largest k (λ _. true) entry

pub none_seen : {entry : ℕ → ℕ} {n : ℕ} → Largest entry n 0 0
unfolding largest
none_seen = record { low = omega arith; is = refl }

module _ {entry : ℕ → ℕ} {n k top : ℕ} (inv : Largest entry n k top) where
  pub one_seen : k < n → (x : ℕ) → x ≡ max top (entry k) → Largest entry n (k + 1) x
  unfolding largest
  one_seen more x e = record { low = omega arith; is = rw (add-one k, e, inv.is) refl }

  pub all_seen : n ≤ k → top ≡ largest n (λ _. true) entry
  all_seen h = let e : k ≡ n = omega (arith, inv.low) in rw e at inv.is

-- The entries as a slice of their own.
module _ (s : List ℕ) (at n : ℕ) (room : at + 3 + n ≤ length s) where
  same_count : at + 3 + n - (at + 3) ≡ n
  same_count = omega arith

  pub as_many : length (take (at + 3 + n - (at + 3)) (drop (at + 3) s)) ≡ n
  as_many = simp (length-take, length-drop) (omega (arith, room))

  pub same_entry : (k : ℕ) → k < n → get_or (take (at + 3 + n - (at + 3)) (drop (at + 3) s)) k 0 ≡ byte_entry s at k
  same_entry k h = get_or-take (at + 3 + n - (at + 3)) (drop (at + 3) s) k 0 (rw same_count h) ∙ get_or-drop (at + 3) s k 0

pub each_below : (entry : ℕ → ℕ) (n limit top : ℕ) → top ≡ largest n (λ _. true) entry → top < limit → (k : ℕ) → k < n → entry k < limit
each_below entry n limit top is low k h = omega (arith, largest_covers n (λ _. true) entry k h refl)

-- ---- Words joined, with their bytes turned round

-- Of the first k each, turned round, has its members among those of `all`.
pub record Joined (words : ℕ → ℕ) (n k all : ℕ) : Type 0 where
  pub low : k ≤ n
  pub small : (j : ℕ) → j < k → words j < 2 ^ 32
  pub members : (j : ℕ) → j < k → (i : ℕ) → member (turned32 (words j)) i ≡ true → member all i ≡ true

pub none_joined : {words : ℕ → ℕ} {n : ℕ} → Joined words n 0 0
none_joined = record { low = omega arith; small = λ j h. omega arith; members = λ j h. absurd (let z : ⊥ = omega arith in z) }

module _ {words : ℕ → ℕ} {n k all : ℕ} (inv : Joined words n k all) where
  pub one_joined : k < n → words k < 2 ^ 32 → (x : ℕ) → Union (turned32 (words k)) all x → Joined words n (k + 1) x
  one_joined more fits x u = record { low = omega arith; small = λ j h. small j (split j h); members = λ j h. members j (split j h) }
    where
      split : (j : ℕ) → j < k + 1 → (j ≡ k) ⊎ (j < k)
      split j h = eq-or-lt_of_le (let l : j ≤ k = omega arith in l)

      small : (j : ℕ) → (j ≡ k) ⊎ (j < k) → words j < 2 ^ 32
      small j (inl e) = rw e fits
      small j (inr h) = inv.small j h

      members : (j : ℕ) → (j ≡ k) ⊎ (j < k) → (i : ℕ) → member (turned32 (words j)) i ≡ true → member x i ≡ true
      members j (inl e) i m = u i ∙ or_first (member (turned32 (words k)) i) (member all i) (rw e at m)
      members j (inr h) i m = u i ∙ or_second (member (turned32 (words k)) i) (member all i) (inv.members j h i m)

  pub all_joined : n ≤ k → Ceiling n words (turned32 all)
  all_joined h j l =
      let before : j < k = omega arith in
      turned_within (words j) all (inv.small j before) (inv.members j before)

pub each_within : (words : ℕ → ℕ) (n limit top : ℕ) → Ceiling n words top → top < limit → (k : ℕ) → k < n → words k < limit
each_within words n limit top over low k h = omega (arith, over k h)

turned_none : turned32 0 ≡ 0
unfolding turned32
turned_none = refl

-- An idle set, turned round.
pub idle_turned : (hold set : ℕ) → (if turned32 hold =? 0 then turned32 set else 0) ≡ turned32 (if hold =? 0 then set else 0)
idle_turned hold set = go (hold =? 0) refl
  where
    go : (b : Bool) → (hold =? 0) ≡ b → (if turned32 hold =? 0 then turned32 set else 0) ≡ turned32 (if b then set else 0)
    go true e = rw (eqb-true hold 0 e, turned_none) refl
    go false e = rw (ne_eqb (turned32 hold) 0 (λ z. eqb-false hold 0 e (turned_zero hold z)), turned_none) refl

pub idle_small : (s : List ℕ) (holds at k : ℕ) → word_entry s at k < 2 ^ 32 → idle_set s holds at k < 2 ^ 32
idle_small s holds at k h = go (word_entry s holds k =? 0)
  where
    go : (b : Bool) → (if b then word_entry s at k else 0) < 2 ^ 32
    go true = h
    go false = omega arith

-- Where no word exceeds a number below the limit each is below it; and where no idle set exceeds 0 none is idle.
module _ (old : Bool) (s : List ℕ) (holds at n limit any idle : ℕ)
    (all : Ceiling n (word_entry s at) any) (idle_ones : Ceiling n (idle_set s holds at) idle) where
  none_idle : idle ≡ 0 → (k : ℕ) → k < n → word_entry s holds k ≡ 0 → word_entry s at k ≡ 0
  none_idle e k h none = let l = rw (eq-eqb (word_entry s holds k) 0 none) at (idle_ones k h) in omega arith

  pub sets_pass : ((any <? limit) && (old || (idle =? 0))) ≡ true → (k : ℕ) → k < n → set_entry old s holds at limit k ≡ Ok tt
  sets_pass e k h =
      let b = both (any <? limit) (old || (idle =? 0)) e in
      set_passes old _ _ limit _ (omega (arith, all k h, ltb-true any limit b.0))
      (λ now. none_idle (eqb-true idle 0 (rw now at b.1)) k h)
