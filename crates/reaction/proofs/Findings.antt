-- On a table that passed its check the walks can be made, and what they find gives the answer.
use mathlib.Core.Path.{◌≡◌, refl, sym, ap, ◌∙◌}
use mathlib.Core.Bool.{Bool, true, false}
use mathlib.Core.Logic.{◌⊎◌, inl, inr}
use Prim.Native.Nat.{ℕ, ◌+◌, ◌*◌, ◌<◌, ◌≤◌}
use native.Mathlib.Nat.{eq-or-lt_of_le}
use native.Mathlib.Omega.{arith}
use borrow.Author.Tests.{not-true, leb-true, leb-false}
use lib.Arith.{digits_lt}
use lib.Dec.{leb}
use Rattle.std.specs.Prelude.{Err, if◌then◌else◌}
use Rattle.wire.specs.Choice.{◌<?◌, ◌and◌}
use Rattle.wire.proofs.Choice.{never, both, and_both}
use Rattle.sets.specs.Sets.{member, meets, Difference}
use Rattle.sets.proofs.Members.{some_below}
use Rattle.table.specs.declared.Table.{Table}
use Rattle.table.specs.Table.{longest_hold, next_of, hold_of, delayed_of, delays}
use Rattle.reaction.specs.declared.Leaving as leaves
use Rattle.reaction.specs.declared.Refusal.TheVariants as why
use Rattle.reaction.specs.Answer.{Reacts}
use Rattle.reaction.specs.Reaction.{weight_of, weight, reaction_of}
use Rattle.reaction.specs.Meaning.{Known, Pairs, NextStates, Slowest, Reaction, Leaving}
use Rattle.reaction.specs.Walks.{FirstLeaving, PairBelow, place_of, weight_in, Reaches, IsLargest}
use Rattle.reaction.proofs.Meaning.{AllExist, only_answer}

-- A smaller number p × I + a stands before, by state and then by input.
before : (I p a state input : ℕ) → input < I → p * I + a < state * I + input → (p < state) ⊎ ((p ≡ state) × (a < input))
before I p a state input l h = go (leb state p) refl
  where
    from : (state ≡ p) ⊎ (state < p) → (p < state) ⊎ ((p ≡ state) × (a < input))
    from (inl e) = let f : p ≡ state = sym e in inr (f, let g = rw f at h in omega arith)
    from (inr s) = absurd (let d : state * I + input < p * I = digits_lt s l in let z : ⊥ = omega arith in z)

    go : (b : Bool) → leb state p ≡ b → (p < state) ⊎ ((p ≡ state) × (a < input))
    go true e = from (eq-or-lt_of_le (leb-true state p e))
    go false e = inl (leb-false state p e)

pub weight_at_most : (hold E : ℕ) (delayed : Bool) → weight_of hold E delayed ≤ hold + 2 * E
unfolding weight_of
weight_at_most hold E delayed = go ((0 <? hold) and delayed)
  where
    go : (b : Bool) → (if b then hold + 2 * E else E) ≤ hold + 2 * E
    go true = omega arith
    go false = omega arith

pub weight_at_least : (hold E : ℕ) (delayed : Bool) → E ≤ weight_of hold E delayed
unfolding weight_of
weight_at_least hold E delayed = go ((0 <? hold) and delayed)
  where
    go : (b : Bool) → E ≤ (if b then hold + 2 * E else E)
    go true = omega arith
    go false = omega arith

module _ {t : Table} {P A : ℕ} (all : AllExist t P A) where
  -- ---- Next states

  module _ {state input : ℕ} (found : FirstLeaving (next_of t) P (Pairs P A) state input) where
    pair_below : (state < 32) × (input < 32)
    pair_below = omega (arith, all.states state found.pair.0, all.inputs input found.pair.1, all.table)

    means_leaving : Leaving t P A (state * t.inputs + input)
    means_leaving = record {
      states = all.states;
      inputs = all.inputs;
      state = state;
      input = input;
      pair = found.pair;
      outside = found.outside;
      is = refl;
      smallest = smallest;
    }
      where
        smallest : (p a : ℕ) → Pairs P A p a → member P (next_of t p a) ≡ false → state * t.inputs + input ≤ p * t.inputs + a
        smallest p a h out = go (leb (state * t.inputs + input) (p * t.inputs + a)) refl
          where
            go : (b : Bool) → leb (state * t.inputs + input) (p * t.inputs + a) ≡ b → state * t.inputs + input ≤ p * t.inputs + a
            go true e = leb-true (state * t.inputs + input) (p * t.inputs + a) e
            go false e =
                let l = leb-false (state * t.inputs + input) (p * t.inputs + a) e in
                never (sym out ∙ found.first p a h (before t.inputs p a state input (all.inputs input found.pair.1) l))

  module _ {pair : leaves.Leaving} (found : FirstLeaving (next_of t) P (Pairs P A) pair.state pair.input) where
    pub below : PairBelow pair
    below = pair_below found

    pub leaving : Leaving t P A (place_of t.inputs pair)
    leaving = means_leaving found

    pub leaves_is : (place : ℕ) → place ≡ place_of t.inputs pair → Err (why.LeavesStates place) ≡ reaction_of t P A
    leaves_is place e = rw e (only_answer t all.table P A (Err (why.LeavesStates (place_of t.inputs pair))) leaving)

  -- ---- Weights

  pub same_weight : (p : ℕ) → weight_in t A p ≡ weight t A p
  same_weight p =
      ap (weight_of (hold_of t p) t.bound)
      (some_below t.inputs 32 (λ a. member A a and delays t p a) all.table.inputs.1 (λ a h. all.inputs a (both (member A a) _ h).0))

  module _ (target outside : ℕ) (rest : Difference P target outside) where
    pub outside_known : Known t.states outside
    outside_known p m = all.states p (both (member P p) _ (sym (rest p) ∙ m)).0

    holds_fit : (p : ℕ) → member outside p ≡ true → hold_of t p ≤ longest_hold
    holds_fit p m = all.table.hold p (outside_known p m)

    module _ {slowest : ℕ} (found : IsLargest outside (weight_in t A) slowest) where
      pub time_fits : t.bound + slowest ≤ 3780000
      time_fits = go found.reached
        where
          go : (slowest ≡ 0) ⊎ Reaches outside (weight_in t A) slowest → t.bound + slowest ≤ 3780000
          go (inl e) = omega (arith, all.table.bound)
          go (inr s) =
              let w = weight_at_most (hold_of t s.at) t.bound (meets A (delayed_of t s.at)) in
              omega (arith, s.is, holds_fit s.at s.is_in, all.table.bound)

      means_reaction : NextStates (next_of t) P (Pairs P A) target → Reaction t P A (t.bound + slowest) target
      means_reaction next = record {
        states = all.states;
        inputs = all.inputs;
        next = next;
        covers = covers;
        reached = reached found.reached;
      }
        where
          covers : (p : ℕ) → member P p ≡ true → member target p ≡ false → t.bound + weight t A p ≤ t.bound + slowest
          covers p m o =
              let l = found.covers p (rest p ∙ and_both (member P p) _ m (rw o)) in
              rw (← same_weight p) (omega arith)

          reached : (slowest ≡ 0) ⊎ Reaches outside (weight_in t A) slowest →
              (t.bound + slowest ≡ t.bound) ⊎ Slowest t P A target (t.bound + slowest)
          reached (inl e) = inl (omega arith)
          reached (inr s) =
              let b = both (member P s.at) _ (sym (rest s.at) ∙ s.is_in) in
              let w = ap (λ n. t.bound + n) (s.is ∙ same_weight s.at) in
              inr (record { state = s.at; is_in = b.0; outside = not-true (member target s.at) b.1; is = w })

      pub reacts_is : NextStates (next_of t) P (Pairs P A) target → Reacts (t.bound + slowest) target ≡ reaction_of t P A
      reacts_is next = only_answer t all.table P A (Reacts (t.bound + slowest) target) (means_reaction next)
