-- The sums along rows of images and weights: how large they get, and that they are those of the definitions.
use mathlib.Core.Path.{◌≡◌, refl, ap, ◌∙◌}
use mathlib.Core.Bool.{Bool, true, false}
use mathlib.Core.List.{List}
use Prim.Native.Nat.{ℕ, zero, suc, ◌+◌, ◌*◌, ◌<◌, ◌≤◌}
use native.Mathlib.Numerals.{add-one}
use native.Mathlib.Omega.{arith}
use lib.ListN.{get_or}
use Rattle.std.specs.Prelude.{if◌then◌else◌}
use Rattle.sets.specs.Sets.{member, largest, Difference}
use Rattle.reaction.specs.Reaction.{off_target}
use Rattle.moves.specs.Walks.{ForMembers, heaviest}
use Rattle.table.specs.Entries.{zeros}
use Rattle.table.proofs.Values.{get_or-zeros}
use Rattle.moves.proofs.Rows.{largest_at_most}
use Rattle.tight.specs.Walks.{AtMost, sum_from, sum_along}
use Rattle.tight.proofs.Largest.{same_largest}

-- A number of the row before can be added to a weight.
pub ahead_fits : (set most : ℕ) (row : List ℕ) → AtMost most row → largest 32 (member set) (λ p. get_or row p 0) ≤ most
ahead_fits set most row each = largest_at_most 32 (member set) (λ p. get_or row p 0) most (λ i _. each i)

pub with_ahead : (f : ℕ → ℕ) (weight ahead image N set : ℕ) → ahead ≡ largest 32 (member set) f → Difference image N set →
    weight + ahead ≡ weight + largest 32 (off_target image N) f
with_ahead f weight ahead image N set is rest = ap (λ m. weight + m) (is ∙ same_largest 32 rest (λ p. refl))

module _ (images weights : List ℕ) (N outside : ℕ) where
  abbrev along : (k q : ℕ) → ℕ
  along k q = sum_along images weights N outside k q

  -- The row after k rounds.
  pub record Row (k moves : ℕ) (row : List ℕ) : Type 0 where
    pub low : k ≤ moves
    pub is : (q : ℕ) → get_or row q 0 ≡ along k q

  pub no_round : (moves : ℕ) → Row 0 moves (zeros 32)
  unfolding sum_along
  no_round moves = record { low = omega arith; is = λ q. get_or-zeros 32 q }

  pub all_rounds : {k moves : ℕ} {row : List ℕ} → Row k moves row → moves ≤ k → (most : ℕ) → most ≡ largest 32 (member outside) (λ q. get_or row q 0) →
      most ≡ largest 32 (member outside) (along moves)
  all_rounds {k} {moves} r done most is =
      let e : k ≡ moves = omega (arith, r.low) in
      is ∙ same_largest 32 (λ q. refl) (λ q. rw e at (r.is q))

  module _ (light : AtMost heaviest weights) where
    along_light : (k q : ℕ) → along k q ≤ k * heaviest
    unfolding sum_along
    along_light zero q = omega arith
    along_light (suc k) q = go (member outside q) (along_light k)
      where
        go : (b : Bool) → ((p : ℕ) → along k p ≤ k * heaviest) → (if b then sum_from images weights N (along k) q else 0) ≤ suc k * heaviest
        go true r =
            let most = largest_at_most 32 (off_target (get_or images q 0) N) (along k) (k * heaviest) (λ p _. r p) in
            omega (arith, light q)
        go false r = omega arith

    -- The largest of them fits beside E.
    pub largest_light : (n : ℕ) → n ≤ 32 → largest 32 (member outside) (along n) ≤ 32 * heaviest
    largest_light n few = largest_at_most 32 (member outside) (along n) (32 * heaviest) (λ q _. omega (arith, along_light n q))

    pub row_light : {k moves : ℕ} {row : List ℕ} → Row k moves row → k < moves → moves ≤ 32 → AtMost (31 * heaviest) row
    row_light {k} r less few q = rw (r.is q) (omega (arith, along_light k q))

  pub one_round : {k moves : ℕ} {row next : List ℕ} → Row k moves row → k < moves →
      ForMembers outside (λ q sum. sum ≡ sum_from images weights N (λ p. get_or row p 0) q) next → Row (k + 1) moves next
  unfolding sum_along
  one_round {k} {moves} {row} {next} r less found = record { low = omega arith; is = λ q. go q (member outside q) refl }
    where
      go : (q : ℕ) (b : Bool) → member outside q ≡ b → get_or next q 0 ≡ along (k + 1) q
      go q true e =
          found.each q e ∙ rw (add-one k, e) (ap (λ m. get_or weights q 0 + m) (same_largest 32 (λ i. refl) r.is))
      go q false e = found.others q e ∙ rw (add-one k, e) refl
