-- With the images and the weights of a table the two largest sums are those of the definitions, and so are the times.
use mathlib.Core.Path.{◌≡◌, refl, sym, ap, ◌∙◌}
use mathlib.Core.Bool.{Bool, true, false}
use mathlib.Core.List.{List}
use Prim.Native.Nat.{ℕ, ◌+◌, ◌-◌, ◌≤◌}
use native.Mathlib.Omega.{arith}
use borrow.Author.Tests.{eq-eqb, ne_eqb}
use lib.ListN.{get_or}
use Rattle.std.specs.Prelude.{if◌then◌else◌}
use Rattle.wire.specs.Choice.{◌=?◌}
use Rattle.sets.specs.Sets.{member, largest, Difference}
use Rattle.table.specs.declared.Table.{Table}
use Rattle.table.specs.Table.{next_of}
use Rattle.reaction.specs.Reaction.{from_hold, weight}
use Rattle.reaction.proofs.Meaning.{AllExist}
use Rattle.reaction.proofs.Findings.{same_weight}
use Rattle.moves.specs.Moves.{next_times, largest_sum, reaction_over}
use Rattle.moves.specs.Walks.{HasImages, HasWeights, heaviest}
use Rattle.moves.proofs.Whole as moves
use Rattle.tight.specs.Several.{tight_weight, tight_time_over, times_over}
use Rattle.tight.specs.Walks.{AtMost, SomeWeights, tight_from, TightWeights, sum_along}
use Rattle.tight.proofs.Time.{heavy, light, at_least}
use Rattle.tight.proofs.Several.{snug, plain}
use Rattle.tight.proofs.Sums.{sum_is}

module _ {t : Table} {P A : ℕ} (all : AllExist t P A) {images : List ℕ} (of : HasImages (next_of t) P A images)
    (N outside : ℕ) (rest : Difference P N outside) (weights : List ℕ) (weighs : HasWeights t outside A weights) where
  weight_is : (q : ℕ) → member outside q ≡ true → get_or weights q 0 ≡ weight t A q
  weight_is q m = weighs.each q m ∙ same_weight all q

  pub some_weights : SomeWeights outside weights
  some_weights q m = rw (weight_is q m) (omega (arith, at_least t A all.table.bound.0 q, all.table.bound))

  pub light_weights : AtMost heaviest weights
  light_weights = moves.light all of N outside rest weights weighs

  pub time_sum : (n : ℕ) → largest 32 (member outside) (sum_along images weights N outside n) ≡ largest_sum t P A N (weight t A) n
  time_sum = sum_is all N outside rest (weight t A) images weights of weight_is

  module _ (tights : List ℕ) (E : ℕ) (bound : E ≡ t.bound) (tight : TightWeights outside E weights tights) where
    from_weight : (q : ℕ) → tight_from E (weight t A q) ≡ tight_weight t A q
    from_weight q = rw bound (go (from_hold t A q) refl)
      where
        go : (b : Bool) → from_hold t A q ≡ b → tight_from t.bound (weight t A q) ≡ tight_weight t A q
        go true e =
            let h = heavy t A q e in
            rw (ne_eqb (weight t A q) t.bound (λ same. omega arith)) (omega (arith, snug t A q e))
        go false e =
            let l = light t A q e in
            rw (eq-eqb (weight t A q) t.bound l.0) (l.0 ∙ sym (plain t A q e))

    tight_is : (q : ℕ) → member outside q ≡ true → get_or tights q 0 ≡ tight_weight t A q
    tight_is q m = tight.each q m ∙ ap (tight_from E) (weight_is q m) ∙ from_weight q

    pub light_tights : AtMost heaviest tights
    light_tights q = go (member outside q) refl
      where
        less : (b : Bool) (w : ℕ) → w ≤ heaviest → (if b then w else w - 1) ≤ heaviest
        less true w l = l
        less false w l = omega arith

        go : (b : Bool) → member outside q ≡ b → get_or tights q 0 ≤ heaviest
        go true m = rw (tight.each q m) (less (get_or weights q 0 =? E) (get_or weights q 0) (light_weights q))
        go false m = rw (tight.others q m) (omega arith)

    pub tight_sum : (n : ℕ) → largest 32 (member outside) (sum_along images tights N outside n) ≡ largest_sum t P A N (tight_weight t A) n
    tight_sum = sum_is all N outside rest (tight_weight t A) images tights of tight_is

-- The answer.
pub times_are : (t : Table) (P A n : ℕ) (N E sum tight : ℕ) → N ≡ next_times t P A n → E ≡ t.bound → sum ≡ largest_sum t P A N (weight t A) n →
    tight ≡ largest_sum t P A N (tight_weight t A) n → record { time = E + sum; target = N; tight = if tight =? 0 then E else E + tight - 1 } ≡ times_over t P A n
unfolding times_over reaction_over tight_time_over
times_are t P A n N E sum tight target bound is tight_is = rw (is, tight_is, bound, target) refl
