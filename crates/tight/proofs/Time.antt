-- The tight time beside the time: both are the largest over the same states, and where a weight is larger so is the need.
use mathlib.Core.Path.{◌≡◌, refl, sym, ap, ◌∙◌}
use mathlib.Core.Bool.{Bool, true, false}
use mathlib.Core.Logic.{◌⊎◌, inl, inr}
use Prim.Native.Nat.{ℕ, ◌+◌, ◌-◌, ◌*◌, ◌<◌, ◌≤◌}
use native.Mathlib.Nat.{le_antisymm}
use native.Mathlib.Omega.{arith}
use borrow.Author.Tests.{ltb-true, eq-eqb, ne_eqb}
use Rattle.wire.specs.Choice.{◌<?◌}
use Rattle.wire.proofs.Choice.{never, both}
use Rattle.sets.specs.Sets.{some, largest}
use Rattle.sets.proofs.Members.{some_if, passing, largest_covers, largest_reached, Reaching}
use Rattle.table.specs.declared.Table.{Table}
use Rattle.table.specs.Table.{hold_of}
use Rattle.reaction.specs.Reaction.{next_set, off_target, weight_of, from_hold, weight, reaction_time}
use Rattle.tight.specs.Tight.{need_of, tight_time}
use Rattle.tight.specs.Below.{tightened}

-- ---- By the time

module _ (time E : ℕ) where
  pub none_less : time ≡ E → time ≡ tightened time E
  unfolding tightened
  none_less e = rw (eq-eqb time E e)

  pub one_less : (time ≡ E → ⊥) → time ≡ 2 * E → time - 1 ≡ tightened time E
  unfolding tightened
  one_less other e = rw (ne_eqb time E other, eq-eqb time (2 * E) e)

  pub two_less : (time ≡ E → ⊥) → (time ≡ 2 * E → ⊥) → time - 2 ≡ tightened time E
  unfolding tightened
  two_less other more = rw (ne_eqb time E other, ne_eqb time (2 * E) more)

-- ---- By the states

module _ (t : Table) (A p : ℕ) where
  pub heavy : from_hold t A p ≡ true → (0 < hold_of t p) × (weight t A p ≡ hold_of t p + 2 * t.bound) × (need_of t A p ≡ hold_of t p + 3 * t.bound - 2)
  unfolding weight_of need_of
  heavy e = (ltb-true 0 (hold_of t p) (both (0 <? hold_of t p) _ e).0, rw e, rw e)

  pub light : from_hold t A p ≡ false → (weight t A p ≡ t.bound) × (need_of t A p ≡ 2 * t.bound - 1)
  unfolding weight_of need_of
  light e = (rw e, rw e)

-- The need of a state by its weight.
module _ (t : Table) (A : ℕ) (some_bound : 1 ≤ t.bound) where
  pub at_least : (p : ℕ) → (t.bound ≤ weight t A p) × (t.bound ≤ need_of t A p)
  at_least p = go (from_hold t A p) refl
    where
      go : (b : Bool) → from_hold t A p ≡ b → (t.bound ≤ weight t A p) × (t.bound ≤ need_of t A p)
      go true e = (omega (arith, heavy t A p e), omega (arith, heavy t A p e))
      go false e = (omega (arith, light t A p e), omega (arith, light t A p e))

  follows : (p q : ℕ) → weight t A p ≤ weight t A q → need_of t A p ≤ need_of t A q
  follows p q l = go (from_hold t A p) refl (from_hold t A q) refl
    where
      go : (b : Bool) → from_hold t A p ≡ b → (c : Bool) → from_hold t A q ≡ c → need_of t A p ≤ need_of t A q
      go true e true f = omega (arith, heavy t A p e, heavy t A q f)
      go true e false f = omega (arith, heavy t A p e, light t A q f)
      go false e true f = omega (arith, light t A p e, heavy t A q f)
      go false e false f = omega (arith, light t A p e, light t A q f)

  need_is : (p : ℕ) → need_of t A p ≡ tightened (t.bound + weight t A p) t.bound
  need_is p = go (from_hold t A p) refl
    where
      go : (b : Bool) → from_hold t A p ≡ b → need_of t A p ≡ tightened (t.bound + weight t A p) t.bound
      go true e =
          let h = heavy t A p e in
          let is : need_of t A p ≡ t.bound + weight t A p - 2 = omega arith in
          is ∙ two_less (t.bound + weight t A p) t.bound (λ same. omega arith) (λ twice. omega arith)
      go false e =
          let l = light t A p e in
          let is : need_of t A p ≡ t.bound + weight t A p - 1 = omega arith in
          is ∙ one_less (t.bound + weight t A p) t.bound (λ same. omega arith) (omega arith)

-- A state of P outside the target with the largest weight, and so with the largest need.
pub record Slowest (t : Table) (P A : ℕ) : Type 0 where
  pub state : ℕ
  pub is_outside : off_target P (next_set t P A) state ≡ true
  pub covers : (p : ℕ) → p < t.states → off_target P (next_set t P A) p ≡ true → weight t A p ≤ weight t A state
  pub time_is : reaction_time t P A ≡ t.bound + weight t A state
  pub tight_is : tight_time t P A ≡ need_of t A state

-- No state of P below Q lies outside the target, and both times are E.
pub record NoneOutside (t : Table) (P A : ℕ) : Type 0 where
  pub none : (p : ℕ) → p < t.states → off_target P (next_set t P A) p ≡ false
  pub time_is : reaction_time t P A ≡ t.bound
  pub tight_is : tight_time t P A ≡ t.bound

module _ (t : Table) (P A : ℕ) (some_bound : 1 ≤ t.bound) where
  abbrev test : ℕ → Bool
  test p = off_target P (next_set t P A) p

  tight_of_some : some t.states test ≡ true → tight_time t P A ≡ largest t.states test (need_of t A)
  unfolding tight_time
  tight_of_some e = rw e

  tight_of_none : some t.states test ≡ false → tight_time t P A ≡ t.bound
  unfolding tight_time
  tight_of_none e = rw e

  -- The largest need is that of a state with the largest weight.
  largest_need : (p : ℕ) → p < t.states → test p ≡ true → ((q : ℕ) → q < t.states → test q ≡ true → weight t A q ≤ weight t A p) →
      largest t.states test (need_of t A) ≡ need_of t A p
  largest_need p real out covers = le_antisymm (go (largest_reached t.states test (need_of t A))) (largest_covers t.states test (need_of t A) p real out)
    where
      go : (largest t.states test (need_of t A) ≡ 0) ⊎ Reaching t.states test (need_of t A) (largest t.states test (need_of t A)) →
          largest t.states test (need_of t A) ≤ need_of t A p
      go (inl e) = omega arith
      go (inr r) = rw r.is (follows t A some_bound r.at p (covers r.at r.below r.passes))

  -- Where the largest weight is 0 there is none.
  none_outside : largest t.states test (weight t A) ≡ 0 → (p : ℕ) → p < t.states → test p ≡ false
  none_outside e p real = go (test p) refl
    where
      go : (b : Bool) → test p ≡ b → b ≡ false
      go true f = absurd (omega (arith, at_least t A some_bound p, largest_covers t.states test (weight t A) p real f))
      go false f = refl

  some_fails : ((p : ℕ) → p < t.states → test p ≡ false) → some t.states test ≡ false
  some_fails none = go (some t.states test) refl
    where
      go : (b : Bool) → some t.states test ≡ b → b ≡ false
      go true f = let x = passing t.states test f in sym x.passes ∙ none x.at x.below
      go false f = refl

  found : (r : Reaching t.states test (weight t A) (largest t.states test (weight t A))) →
      ((p : ℕ) → p < t.states → test p ≡ true → weight t A p ≤ weight t A r.at) → Slowest t P A
  unfolding reaction_time
  found r covers = record {
    state = r.at;
    is_outside = r.passes;
    covers = covers;
    time_is = ap (λ n. t.bound + n) r.is;
    tight_is = tight_of_some (some_if t.states test r.at r.below r.passes) ∙ largest_need r.at r.below r.passes covers;
  }

  pub slowest : NoneOutside t P A ⊎ Slowest t P A
  unfolding reaction_time
  slowest = go (largest_reached t.states test (weight t A))
    where
      go : (largest t.states test (weight t A) ≡ 0) ⊎ Reaching t.states test (weight t A) (largest t.states test (weight t A)) →
          NoneOutside t P A ⊎ Slowest t P A
      go (inl e) =
          let none = none_outside e in
          inl (record { none = none; time_is = omega arith; tight_is = tight_of_none (some_fails none) })
      go (inr r) = inr (found r (λ p real out. omega (arith, r.is, largest_covers t.states test (weight t A) p real out)))

  -- The tight time is told by the time.
  pub tight_is_tightened : tight_time t P A ≡ tightened (reaction_time t P A) t.bound
  tight_is_tightened = go slowest
    where
      go : NoneOutside t P A ⊎ Slowest t P A → tight_time t P A ≡ tightened (reaction_time t P A) t.bound
      go (inl n) = rw (n.tight_is, n.time_is) (none_less t.bound t.bound refl)
      go (inr s) = rw (s.tight_is, s.time_is) (need_is t A some_bound s.state)

  -- It covers the needs of the states of P outside the target, and E.
  pub tight_covers : (p : ℕ) → p < t.states → test p ≡ true → need_of t A p ≤ tight_time t P A
  tight_covers p real out = go slowest
    where
      go : NoneOutside t P A ⊎ Slowest t P A → need_of t A p ≤ tight_time t P A
      go (inl n) = never (sym (n.none p real) ∙ out)
      go (inr s) = rw s.tight_is (follows t A some_bound p s.state (s.covers p real out))

  pub tight_at_least : t.bound ≤ tight_time t P A
  tight_at_least = go slowest
    where
      go : NoneOutside t P A ⊎ Slowest t P A → t.bound ≤ tight_time t P A
      go (inl n) = omega (arith, n.tight_is)
      go (inr s) = omega (arith, s.tight_is, at_least t A some_bound s.state)
