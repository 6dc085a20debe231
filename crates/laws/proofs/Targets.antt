-- The states that come of P by several moves.
use mathlib.Core.Path.{◌≡◌, refl, sym, ◌∙◌}
use mathlib.Core.Bool.{Bool, true, false}
use mathlib.Core.List.{List, [], ◌∷◌}
use mathlib.Core.Logic.{◌↔◌, ◌⊎◌, inl, inr}
use Prim.Native.Nat.{ℕ, zero, suc, ◌+◌, ◌<◌, ◌≤◌}
use native.Mathlib.Nat.{eq-or-lt_of_le}
use native.Mathlib.Omega.{arith}
use borrow.Author.Tests.{leb-true, leb-false}
use lib.Dec.{leb}
use lib.ListN.{length}
use Rattle.wire.proofs.Choice.{never}
use Rattle.sets.specs.Sets.{member}
use Rattle.table.specs.declared.Table.{Table}
use Rattle.table.specs.Table.{next_of}
use Rattle.reaction.specs.Reaction.{next_set}
use Rattle.reaction.specs.Meaning.{Known, Pairs}
use Rattle.reaction.proofs.Meaning.{AllExist, target_has, target_only}
use Rattle.moves.specs.Moves.{next_times}
use Rattle.laws.specs.Paths.{OnPath, Follows, Path}
use Rattle.laws.specs.Moves.{ComesBy}

-- Next states exist, so that the laws of one move hold of them too.
next_exist : {t : Table} {P A : ℕ} → AllExist t P A → AllExist t (next_set t P A) A
next_exist {t} {P} {A} all = record { table = all.table; states = known; inputs = all.inputs }
  where
    known : Known t.states (next_set t P A)
    known q m =
        let c = target_only all q m in
        rw c.is at (all.table.next c.state c.input (all.states c.state c.pair.0) (all.inputs c.input c.pair.1))

module _ {t : Table} {P A : ℕ} (all : AllExist t P A) where
  exist : (n : ℕ) → AllExist t (next_times t P A n) A
  unfolding next_times
  exist zero = all
  exist (suc n) = next_exist (exist n)

  pub moves_on : (n q a : ℕ) → member (next_times t P A n) q ≡ true → member A a ≡ true → member (next_times t P A (suc n)) (next_of t q a) ≡ true
  unfolding next_times
  moves_on n q a m h = target_has (exist n) q a (m, h)

  pub comes_of : (n q : ℕ) → member (next_times t P A (suc n)) q ≡ true → (p : ℕ) × (member (next_times t P A n) p ≡ true) × Follows t A p q
  unfolding next_times
  comes_of n q m =
      let c = target_only (exist n) q m in
      (c.state, c.pair.0, record { input = c.input; is_in = c.pair.1; is = c.is })

  pub target_is : (n q : ℕ) → (member (next_times t P A n) q ≡ true) ↔ ComesBy t P A n q
  unfolding next_times
  target_is zero q = (λ m. m, λ m. m)
  target_is (suc n) q = (
    λ m. let c = comes_of n q m in (c.0, (target_is n c.0).0 c.1, c.2),
    λ c. let f = c.2 in rw f.is at (moves_on n c.0 f.input ((target_is n c.0).1 c.1) f.is_in),
  )

  -- ---- Where next(P, A) is in P

  module _ (inside : (p a : ℕ) → Pairs P A p a → member P (next_of t p a) ≡ true) where
    -- More moves lead to no state to which fewer do not.
    pub shrinks : (n q : ℕ) → member (next_times t P A (suc n)) q ≡ true → member (next_times t P A n) q ≡ true
    unfolding next_times
    shrinks zero q m = let c = comes_of zero q m in let f = c.2 in rw f.is at (inside c.0 f.input (c.1, f.is_in))
    shrinks (suc n) q m = let c = comes_of (suc n) q m in let f = c.2 in rw f.is at (moves_on n c.0 f.input (shrinks n c.0 c.1) f.is_in)

    fewer : (j n q : ℕ) → n ≤ j → member (next_times t P A j) q ≡ true → member (next_times t P A n) q ≡ true
    fewer zero n q l m = let e : 0 ≡ n = omega arith in rw e at m
    fewer (suc j) n q l m = go (eq-or-lt_of_le l) (fewer j n q)
      where
        go : (n ≡ suc j) ⊎ (n < suc j) → (n ≤ j → member (next_times t P A j) q ≡ true → member (next_times t P A n) q ≡ true) →
            member (next_times t P A n) q ≡ true
        go (inl e) r = rw e m
        go (inr h) r = r (omega arith) (shrinks j q m)

    pub within : (n q : ℕ) → member (next_times t P A n) q ≡ true → member P q ≡ true
    unfolding next_times
    within n q m = fewer n 0 q (omega arith) m

    -- ---- Paths outside the target of n moves

    module _ (n : ℕ) where
      -- A state outside it comes by fewer moves.
      sooner : (j q : ℕ) → member (next_times t P A j) q ≡ true → OnPath P (next_times t P A n) q → j < n
      sooner j q m on = go (leb n j) refl
        where
          go : (b : Bool) → leb n j ≡ b → j < n
          go true e = never (sym on.outside ∙ fewer j n q (leb-true n j e) m)
          go false e = leb-false n j e

      steps : (j q : ℕ) (rest : List ℕ) → member (next_times t P A j) q ≡ true → Path t P A (next_times t P A n) (q ∷ rest) → length (q ∷ rest) + j ≤ n
      steps j q [] m is = omega (arith, sooner j q m is)
      steps j q (p ∷ rest) m is =
          let f = is.1 in
          omega (arith, steps (suc j) p rest (rw f.is at (moves_on j q f.input m f.is_in)) is.2)

      pub no_longer : (path : List ℕ) → Path t P A (next_times t P A n) path → length path ≤ n
      unfolding next_times
      no_longer [] is = omega arith
      no_longer (q ∷ []) is = omega (arith, steps 0 q [] is.is_in is)
      no_longer (q ∷ p ∷ rest) is = omega (arith, steps 0 q (p ∷ rest) is.0.is_in is)
