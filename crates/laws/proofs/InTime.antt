-- The time for several moves suffices, once for every number of moves.
use mathlib.Core.Path.{◌≡◌, refl}
use mathlib.Core.Bool.{Bool, true, false}
use Prim.Native.Nat.{ℕ, zero, suc, ◌+◌, ◌-◌, ◌*◌, ◌≤◌}
use native.Mathlib.Omega.{arith}
use borrow.Author.Tests.{lt-ltb}
use lib.ListN.{get_or}
use Rattle.std.specs.Prelude.{if◌then◌else◌}
use Rattle.wire.specs.Choice.{◌and◌}
use Rattle.sets.specs.Sets.{member}
use Rattle.sets.proofs.Members.{some_if}
use Rattle.table.specs.declared.Table.{Table}
use Rattle.table.specs.Table.{hold_of, delays, next_of}
use Rattle.machine.proofs.Watches.{no_regions}
use Rattle.reaction.specs.Reaction.{weight_of, from_hold, weight}
use Rattle.reaction.specs.Meaning.{Known, Pairs}
use Rattle.reaction.proofs.Meaning.{AllExist}
use Rattle.moves.specs.Moves.{next_times, most_ahead, sums_of, largest_sum, reaction_over}
use Rattle.tight.specs.Several.{tight_weight, tight_time_over}
use Rattle.tight.proofs.Several.{over_covers}
use Rattle.runs.specs.Reaction.{Weights, Reach, there, via, Suffices}
use Rattle.runs.specs.Slots.{SlotsNotTooLate}
use Rattle.runs.proofs.Late.{not_too_late}
use Rattle.laws.specs.Paths.{OnPath}
use Rattle.laws.proofs.Rounds.{on_path, ahead_most}
use Rattle.laws.proofs.Paths.{at_most}
use Rattle.laws.proofs.Targets.{moves_on, shrinks, within}

-- Weights of E, and of h where the calculator's weight comes from a hold, are large enough if h is at least hold + 2E - 1.
abbrev weighing : Table → ℕ → (ℕ → ℕ) → ℕ → ℕ
weighing t A h q = if from_hold t A q then h q else t.bound

weights : (t : Table) (A : ℕ) (h : ℕ → ℕ) → 1 ≤ t.bound → ((q : ℕ) → hold_of t q + 2 * t.bound ≤ h q + 1) → Known t.inputs A →
    Weights t (member A) (weighing t A h)
weights t A h some_bound large known = record {
  plain = λ q. at_least q (from_hold t A q);
  delayed = λ q a is some_hold delayed.
      let yes = some_if t.inputs (λ a. member A a and delays t q a) a (known a is) (rw (is, delayed)) in
      rw (lt-ltb 0 (hold_of t q) some_hold, yes) (large q);
}
  where
    at_least : (q : ℕ) (b : Bool) → t.bound ≤ (if b then h q else t.bound)
    at_least q true = omega (arith, large q)
    at_least q false = omega arith

-- The calculator's own are.
pub calculated_weights : (t : Table) (A : ℕ) → 1 ≤ t.bound → Known t.inputs A → Weights t (member A) (weight t A)
unfolding weight_of
calculated_weights t A some_bound known = weights t A (λ q. hold_of t q + 2 * t.bound) some_bound (λ q. omega arith) known

-- And so are the tight ones.
pub tight_weights : (t : Table) (A : ℕ) → 1 ≤ t.bound → Known t.inputs A → Weights t (member A) (tight_weight t A)
unfolding tight_weight
tight_weights t A some_bound known = weights t A (λ q. hold_of t q + 2 * t.bound - 1) some_bound (λ q. omega arith) known

weaken : {t : Table} {A N : ℕ → Bool} {w : ℕ → ℕ} {r q : ℕ} → Reach t A N w r q → (more : ℕ) → r ≤ more → Reach t A N w more q
weaken (there n) more l = there n
weaken (via r q rest paid reach) more l = via more q rest (omega arith) reach

module _ {t : Table} {P A : ℕ} (all : AllExist t P A) (inside : (p a : ℕ) → Pairs P A p a → member P (next_of t p a) ≡ true) (n : ℕ) where
  abbrev N : ℕ
  N = next_times t P A n

  module _ (w : ℕ → ℕ) (large : Weights t (member A) w) where
    -- What is left to pay from a state of the target of j moves, with k moves left: the largest sum of a path of at most k states from there.
    abbrev Reaches : (k q : ℕ) → Type 0
    Reaches k q = Reach t (member A) (member N) w (get_or (sums_of t P A N w k) q 0) q

    reaches : (k j q : ℕ) → k + j ≡ n → member (next_times t P A j) q ≡ true → Reaches k q
    reaches zero j q e m = let f : j ≡ n = omega arith in there (rw f at m)
    reaches (suc k) j q e m = go (member N q) refl (λ a h. reaches k (suc j) (next_of t q a) (omega arith) (moves_on all j q a m h))
      where
        go : (b : Bool) → member N q ≡ b → ((a : ℕ) → member A a ≡ true → Reaches k (next_of t q a)) → Reaches (suc k) q
        go true o r = there o
        go false o r =
            let on : OnPath P N q = record { is_in = within all inside j q m; outside = o } in
            let paid = on_path all N w k q on in
            via (get_or (sums_of t P A N w (suc k)) q 0) q (most_ahead t P A N (sums_of t P A N w k) q) (omega arith)
            (λ a h. weaken (r a h) _ (ahead_most all N w k q a h))

    -- With such weights every time that covers E, and E and the largest sum, less 1.
    suffices : t.timers ≡ 0 → (c : ℕ) → (t.bound ≤ c) × (t.bound + largest_sum t P A N w n ≤ c + 1) →
        Suffices t (member P) (member A) (member N) w c
    unfolding next_times
    suffices none c covers = record {
      no_regions = no_regions all.table none;
      bound_positive = all.table.bound.0;
      weights = large;
      stays = λ q a m h. shrinks all inside n (next_of t q a) (moves_on all n q a m h);
      reaches = λ p m. from p m (member N p) refl;
      covers_bound = covers.0;
    }
      where
        from : (p : ℕ) → member P p ≡ true → (b : Bool) → member N p ≡ b → Reach t (member A) (member N) w (c + 1 - t.bound) p
        from p m true o = there o
        from p m false o =
            let most = at_most all N w (λ q. omega (arith, large.plain q, all.table.bound)) n p (record { is_in = m; outside = o }) in
            weaken (reaches n 0 p (omega arith) m) _ (omega (arith, covers.1))

  module _ (none : t.timers ≡ 0) where
    pub moves_in_time : SlotsNotTooLate t (member P) (member A) (member (reaction_over t P A n).target) (reaction_over t P A n).time
    unfolding reaction_over
    moves_in_time =
        not_too_late (suffices (weight t A) (calculated_weights t A all.table.bound.0 all.inputs) none _ (omega arith, omega arith))

    pub tight_in_time : SlotsNotTooLate t (member P) (member A) (member N) (tight_time_over t P A n)
    tight_in_time =
        not_too_late (suffices (tight_weight t A) (tight_weights t A all.table.bound.0 all.inputs) none _ (over_covers t P A n))
