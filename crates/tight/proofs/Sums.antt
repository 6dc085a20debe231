-- The sums along images and weights are those of the definitions.
use mathlib.Core.Path.{◌≡◌, refl, sym, ap, ◌∙◌}
use mathlib.Core.Bool.{Bool, true, false, not}
use mathlib.Core.List.{List}
use mathlib.Core.Logic.{◌⊎◌, inl, inr}
use Prim.Native.Nat.{ℕ, zero, suc, ◌+◌, ◌<◌, ◌≤◌}
use native.Mathlib.Nat.{le_antisymm}
use native.Mathlib.Omega.{arith}
use lib.ListN.{get_or}
use Rattle.std.specs.Prelude.{if◌then◌else◌}
use Rattle.wire.specs.Choice.{◌and◌}
use Rattle.wire.proofs.Choice.{both, and_both}
use Rattle.sets.specs.Sets.{member, largest, Difference}
use Rattle.sets.proofs.Members.{largest_covers, largest_reached, Reaching}
use Rattle.table.specs.declared.Table.{Table}
use Rattle.table.specs.Table.{next_of}
use Rattle.table.proofs.Values.{get_or-values, get_or-zeros}
use Rattle.reaction.specs.Reaction.{off_target}
use Rattle.reaction.proofs.Meaning.{AllExist}
use Rattle.moves.specs.Moves.{ahead, most_ahead, round, sums_of, largest_sum}
use Rattle.moves.specs.Walks.{HasImages}
use Rattle.tight.specs.Walks.{sum_from, sum_along}

-- A state of the target is outside every path.
out : (b : Bool) {c : Bool} → c ≡ true → (b and not c) ≡ false
out true e = ap not e
out false e = refl

module _ {t : Table} {P A : ℕ} (all : AllExist t P A) (N outside : ℕ) (rest : Difference P N outside) (w : ℕ → ℕ) (images weights : List ℕ)
    (of : HasImages (next_of t) P A images)
    (weighs : (q : ℕ) → member outside q ≡ true → get_or weights q 0 ≡ w q) where
  abbrev along : (k q : ℕ) → ℕ
  along k q = sum_along images weights N outside k q

  abbrev row : (k q : ℕ) → ℕ
  row k q = get_or (sums_of t P A N w k) q 0

  next_exists : (q a : ℕ) → q < t.states → member A a ≡ true → next_of t q a < t.states
  next_exists q a l m = all.table.next q a l (all.inputs a m)

  -- No state outside P or in the target has a sum.
  no_sum : (k p : ℕ) → off_target P N p ≡ false → along k p ≡ 0
  unfolding sum_along
  no_sum zero p off = refl
  no_sum (suc k) p off = rw (rest p, off) refl

  module _ (k q : ℕ) (is_in : member P q ≡ true) (real : q < t.states) (same : (p : ℕ) → p < t.states → along k p ≡ row k p) where
    abbrev most : ℕ
    most = most_ahead t P A N (sums_of t P A N w k) q

    below : {m : ℕ} → (m ≡ 0) ⊎ Reaching 32 (off_target (get_or images q 0) N) (along k) m → m ≤ most
    below (inl z) = omega arith
    below (inr r) =
        let from = (of.each q is_in).only r.at (both (member (get_or images q 0) r.at) _ r.passes).0 in
        let a = from.input in
        let m = from.pair.1 in
        let to : next_of t q a ≡ r.at = rw from.pair.0 at from.is in
        let covered = largest_covers t.inputs (member A) (ahead t P A N (sums_of t P A N w k) q) a (all.inputs a m) m in
        omega (arith, r.is, same r.at (rw to at (next_exists q a real m)), rw to at covered)

    above : {m : ℕ} → (m ≡ 0) ⊎ Reaching t.inputs (member A) (ahead t P A N (sums_of t P A N w k) q) m →
        m ≤ largest 32 (off_target (get_or images q 0) N) (along k)
    above (inl z) = omega arith
    above (inr r) = rw (r.is, ← same p exists) (go (member N p) refl)
      where
        p : ℕ
        p = next_of t q r.at

        exists : p < t.states
        exists = next_exists q r.at real r.passes

        go : (b : Bool) → member N p ≡ b → along k p ≤ largest 32 (off_target (get_or images q 0) N) (along k)
        go true e = omega (arith, no_sum k p (out (member P p) e))
        go false e =
            largest_covers 32 (off_target (get_or images q 0) N) (along k) p (omega (arith, exists, all.table.states))
            (and_both (member (get_or images q 0) p) _ ((of.each q is_in).has q r.at (refl, r.passes)) (ap not e))

    ahead_is : largest 32 (off_target (get_or images q 0) N) (along k) ≡ most
    ahead_is = le_antisymm (below (largest_reached 32 (off_target (get_or images q 0) N) (along k))) (above (largest_reached t.inputs (member A) _))

  along_is : (k q : ℕ) → q < t.states → along k q ≡ row k q
  unfolding sum_along sums_of round
  along_is zero q real = sym (get_or-zeros t.states q)
  along_is (suc k) q real = go (off_target P N q) refl (along_is k) ∙ sym (get_or-values _ t.states q real)
    where
      go : (b : Bool) → off_target P N q ≡ b → ((p : ℕ) → p < t.states → along k p ≡ row k p) →
          (if member outside q then sum_from images weights N (along k) q else 0) ≡ (if off_target P N q then w q + most_ahead t P A N (sums_of t P A N w k) q else 0)
      go true e same =
          let on = rest q ∙ e in
          rw (on, e, weighs q on, ahead_is k q (both (member P q) _ e).0 real same) refl
      go false e same = rw (rest q, e) refl

  -- Of all paths.
  pub sum_is : (n : ℕ) → largest 32 (member outside) (along n) ≡ largest_sum t P A N w n
  unfolding largest_sum
  sum_is n = le_antisymm (below_all (largest_reached 32 (member outside) (along n))) (above_all (largest_reached t.states (off_target P N) (row n)))
    where
      real : (q : ℕ) → off_target P N q ≡ true → q < t.states
      real q e = all.states q (both (member P q) _ e).0

      below_all : {m : ℕ} → (m ≡ 0) ⊎ Reaching 32 (member outside) (along n) m → m ≤ largest t.states (off_target P N) (row n)
      below_all (inl z) = omega arith
      below_all (inr r) =
          let on = sym (rest r.at) ∙ r.passes in
          rw (r.is, along_is n r.at (real r.at on)) (largest_covers t.states (off_target P N) (row n) r.at (real r.at on) on)

      above_all : {m : ℕ} → (m ≡ 0) ⊎ Reaching t.states (off_target P N) (row n) m → m ≤ largest 32 (member outside) (along n)
      above_all (inl z) = omega arith
      above_all (inr r) =
          rw (r.is, ← along_is n r.at r.below)
          (largest_covers 32 (member outside) (along n) r.at (omega (arith, r.below, all.table.states)) (rest r.at ∙ r.passes))
