-- A search from the front, for any test.
use mathlib.Core.Path.{◌≡◌, refl, sym, ◌∙◌}
use mathlib.Core.Bool.{Bool, true, false}
use Prim.Native.Nat.{ℕ, zero, suc, ◌+◌, ◌<◌}
use native.Mathlib.Nat.{zero-add, le_antisymm}
use native.Mathlib.Omega.{arith}
use borrow.Author.Tests.{leb-true, leb-false}
use lib.Dec.{leb}
use Rattle.wire.proofs.Choice.{never}
use Rattle.std.specs.Prelude.{if◌then◌else◌}
use Rattle.reaction.specs.Reaction.{first_from}

-- What the search passes over fails the test.
passed_over : (b : Bool) (i r : ℕ) → i < (if b then i else r) → b ≡ false
passed_over true i r h = absurd (let z : ⊥ = omega arith in z)
passed_over false i r h = refl

pub before_first : (test : ℕ → Bool) (n i k : ℕ) → i + k < first_from test n i → test (i + k) ≡ false
unfolding first_from
before_first test zero i k h = absurd (let z : ⊥ = omega arith in z)
before_first test (suc n) i zero h =
    let z : i + 0 ≡ i = omega arith in
    rw z (passed_over (test i) i (first_from test n (i + 1)) (omega arith))
before_first test (suc n) i (suc k) h =
    let b : test i ≡ false = passed_over (test i) i (first_from test n (i + 1)) (omega arith) in
    let z : i + suc k ≡ (i + 1) + k = omega arith in
    rw z (before_first test n (i + 1) k (rw (z, b) at h))

-- What the search finds passes it.
pub found_first : (test : ℕ → Bool) (n i : ℕ) → first_from test n i < i + n → test (first_from test n i) ≡ true
unfolding first_from
found_first test zero i h = absurd (let z : ⊥ = omega arith in z)
found_first test (suc n) i h = go (test i) refl h (found_first test n (i + 1))
  where
    go : (b : Bool) → test i ≡ b → (if b then i else first_from test n (i + 1)) < i + suc n →
        (first_from test n (i + 1) < (i + 1) + n → test (first_from test n (i + 1)) ≡ true) → test (if b then i else first_from test n (i + 1)) ≡ true
    go true e l r = e
    go false e l r = r (omega arith)

-- What passes the test, and nothing before it does, is what the search finds.
pub first_is : (test : ℕ → Bool) (n k : ℕ) → k < n → test k ≡ true → ((j : ℕ) → j < k → test j ≡ false) → k ≡ first_from test n 0
first_is test n k low passes none = go (leb (first_from test n 0) k) refl (leb k (first_from test n 0)) refl
  where
    go : (b : Bool) → leb (first_from test n 0) k ≡ b → (c : Bool) → leb k (first_from test n 0) ≡ c → k ≡ first_from test n 0
    go true e true f = le_antisymm (leb-true k _ f) (leb-true _ k e)
    go true e false f =
        let l : first_from test n 0 < k = leb-false k _ f in
        never (sym (none (first_from test n 0) l) ∙ found_first test n 0 (omega arith))
    go false e c f =
        let l : k < first_from test n 0 = leb-false _ k e in
        never (sym (rw zero-add at (before_first test n 0 k (omega arith))) ∙ passes)
