-- By how much the tight time is below the time, as specs/Below states it.
use mathlib.Core.Path.{◌≡◌, refl, sym, ◌∙◌}
use mathlib.Core.Bool.{Bool, true, false}
use mathlib.Core.Logic.{◌⊎◌, inl, inr}
use Prim.Native.Nat.{ℕ, ◌≤◌}
use native.Mathlib.Omega.{arith}
use Rattle.wire.proofs.Choice.{both}
use Rattle.sets.specs.Sets.{member}
use Rattle.table.specs.declared.Table.{Table}
use Rattle.table.proofs.WellFormed.{well_formed}
use Rattle.table.specs.Check.{table_in}
use Rattle.reaction.specs.Reaction.{next_set, off_target, from_hold, reaction_time}
use Rattle.reaction.specs.Meaning.{Known}
use Rattle.reaction.proofs.Entry.{reacted}
use Rattle.tight.specs.Tight.{tight_time}
use Rattle.tight.specs.Below.{Below, same, by_one, by_two, NeverAbove}
use Rattle.tight.proofs.Time.{heavy, light, Slowest, NoneOutside, slowest}
use Rattle.tight.proofs.Entry.{entry_gives}

module _ (t : Table) (P A : ℕ) (some_bound : 1 ≤ t.bound) (known : Known t.states P) where
  abbrev BelowTime : Type 0
  BelowTime = Below t P A (next_set t P A) (reaction_time t P A) (tight_time t P A)

  none_at_all : NoneOutside t P A → (p : ℕ) → off_target P (next_set t P A) p ≡ false
  none_at_all n p = go (member P p) refl
    where
      go : (b : Bool) → member P p ≡ b → off_target P (next_set t P A) p ≡ false
      go true e = n.none p (known p e)
      go false e = rw e

  by_slowest : (s : Slowest t P A) → BelowTime
  by_slowest s = go (from_hold t A s.state) refl
    where
      others : from_hold t A s.state ≡ false → (q : ℕ) → off_target P (next_set t P A) q ≡ true → (b : Bool) → from_hold t A q ≡ b → b ≡ false
      others e q out true f =
          let covered = s.covers q (known q (both (member P q) _ out).0) out in
          absurd (omega (arith, covered, light t A s.state e, heavy t A q f))
      others e q out false f = refl

      go : (b : Bool) → from_hold t A s.state ≡ b → BelowTime
      go true e = by_two s.state s.is_outside e (omega (arith, s.time_is, s.tight_is, heavy t A s.state e))
      go false e =
          by_one s.state s.is_outside (λ q out. others e q out (from_hold t A q) refl)
          (omega (arith, s.time_is, s.tight_is, light t A s.state e))

  below : BelowTime
  below = go (slowest t P A some_bound)
    where
      go : NoneOutside t P A ⊎ Slowest t P A → BelowTime
      go (inl n) = same (none_at_all n) (n.tight_is ∙ sym n.time_is)
      go (inr s) = by_slowest s

at_most : {t : Table} {P A target time tight : ℕ} → Below t P A target time tight → tight ≤ time
at_most (same none e) = omega arith
at_most (by_one p out all e) = omega arith
at_most (by_two p out held e) = omega arith

pub never_above : NeverAbove
never_above s P A time target tight e =
    let given = entry_gives s P A time target tight e in
    let r = reacted s P A time target given.0 in
    let b : Below (table_in s) P A target time tight =
    rw (given.1, r.time_is, r.target_is) (below (table_in s) P A (well_formed s r.passes).bound.0 r.means.states) in
    record { calculated = given.0; never_above = at_most b; below = b }
