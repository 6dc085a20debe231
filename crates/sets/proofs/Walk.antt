-- A walk over the members of a set that takes the smallest each time; `rest` has those that are left.
use mathlib.Core.Path.{◌≡◌, refl, sym, ◌∙◌}
use mathlib.Core.Bool.{Bool, true, false, not}
use mathlib.Core.Logic.{◌⊎◌, inl, inr}
use Prim.Native.Nat.{ℕ, ◌<◌}
use borrow.Author.Tests.{eq-eqb, eqb-true}
use Rattle.wire.specs.Choice.{◌=?◌, ◌and◌}
use Rattle.wire.proofs.Choice.{never, both}
use Rattle.sets.specs.Sets.{member, TakesSmallest}
use Rattle.sets.proofs.Bits.{none_in_empty}

pub record Walk (set rest : ℕ) : Type 0 where
  pub left : (i : ℕ) → member rest i ≡ true → member set i ≡ true

pub record Walked (set rest i : ℕ) : Type 0 where
  pub is_in : member set i ≡ true
  pub gone : member rest i ≡ false

pub begins : {set : ℕ} → Walk set set
begins = record { left = λ i m. m }

pub none_walked : {set i : ℕ} → Walked set set i → ⊥
none_walked w = never (sym w.gone ∙ w.is_in)

pub all_walked : {set rest i : ℕ} → rest ≡ 0 → member set i ≡ true → Walked set rest i
all_walked {i = i} e m = record { is_in = m; gone = rw e (none_in_empty i) }

module _ {set rest i less : ℕ} (walk : Walk set rest) (takes : TakesSmallest rest i less) where
  pub goes_on : Walk set less
  goes_on = record { left = λ j m. walk.left j (both (member rest j) (not (j =? i)) (sym (takes.others j) ∙ m)).0 }

  pub taken_in : member set i ≡ true
  taken_in = walk.left i takes.is_in

  pub smaller_walked : {j : ℕ} → member set j ≡ true → j < i → Walked set rest j
  smaller_walked {j} m h = record { is_in = m; gone = takes.smallest j h }

  pub taken_walked : Walked set less i
  taken_walked = record { is_in = taken_in; gone = takes.others i ∙ (rw (takes.is_in, eq-eqb i i refl)) }

  pub walked_before : {j : ℕ} → Walked set rest j → Walked set less j
  walked_before {j} w = record { is_in = w.is_in; gone = takes.others j ∙ (rw w.gone) }

  pub walked_now : {j : ℕ} → Walked set less j → Walked set rest j ⊎ (j ≡ i)
  walked_now {j} w = go (member rest j) refl (j =? i) refl (sym (takes.others j) ∙ w.gone)
    where
      go : (b : Bool) → member rest j ≡ b → (c : Bool) → (j =? i) ≡ c → (member rest j and not (j =? i)) ≡ false → Walked set rest j ⊎ (j ≡ i)
      go false e c f h = inl (record { is_in = w.is_in; gone = e })
      go true e true f h = inr (eqb-true j i f)
      go true e false f h = never (sym (rw (e, f) at h))
