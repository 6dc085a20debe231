-- Answers one after another: what a `let .. else` on `Ok` tells, and checks in order.
use mathlib.Core.Path.{◌≡◌, refl, sym, ap, ◌∙◌}
use mathlib.Core.Bool.{Bool, true, false}
use Rattle.std.specs.Prelude.{Ok, Err}
use Rattle.wire.proofs.Choice.{never}
use Rattle.table.specs.declared.Refusal.{Refusal}
use Rattle.table.specs.Answer.{TableAnswer, passes?, ◌or_else◌, ◌and_then◌}

-- An answer passes or refuses.
pub decided : {A : Type 0} (a : TableAnswer) → (a ≡ Ok tt → A) → ((refusal : Refusal) → a ≡ Err refusal → A) → A
decided (Ok done) passed refused = passed refl
decided (Err refusal) passed refused = refused refusal refl

pub let_pass : {a x : TableAnswer} → x ≡ a → x ≡ Ok tt → a ≡ Ok tt
let_pass is passed = sym is ∙ passed

pub refusal_stands : {A : Type 0} (a : TableAnswer) → passes? a ≡ false → a ≡ Ok tt → A
refusal_stands a r e = never (sym r ∙ ap passes? e)

-- ---- A test that decides

pub holds : {test : Bool} (refusal : Refusal) → test ≡ true → test or_else refusal ≡ Ok tt
unfolding ◌or_else◌
holds refusal e = rw e

pub fails : {test : Bool} {refusal : Refusal} → test ≡ false → Err refusal ≡ test or_else refusal
unfolding ◌or_else◌
fails e = rw e

pub told : (test : Bool) (refusal : Refusal) → test or_else refusal ≡ Ok tt → test ≡ true
unfolding ◌or_else◌
told true refusal e = refl
told false refusal e = refusal_stands (Err refusal) refl e

-- ---- Checks in order

pub refusal_stops : {a r : TableAnswer} (b : TableAnswer) → r ≡ a → passes? r ≡ false → r ≡ a and_then b
unfolding ◌and_then◌
refusal_stops b e f = let h = rw e at f in rw e (simp h)

pub stops : {a r : TableAnswer} {refusal : Refusal} (b : TableAnswer) → r ≡ a → r ≡ Err refusal → r ≡ a and_then b
stops b e refused = refusal_stops b e (ap passes? refused)

-- What `?` hands up is the refusal of the check that it stands behind.
pub passed_up : {a r x : TableAnswer} {refusal : Refusal} (b : TableAnswer) → x ≡ a → x ≡ Err refusal → r ≡ Err refusal → r ≡ a and_then b
passed_up b is refused up = up ∙ sym refused ∙ stops b is refused

pub goes_on : {a b r : TableAnswer} → a ≡ Ok tt → r ≡ b → r ≡ a and_then b
unfolding ◌and_then◌
goes_on p e = rw p e

pub past : {a b r x : TableAnswer} → x ≡ a → x ≡ Ok tt → r ≡ b → r ≡ a and_then b
past is passed e = goes_on (let_pass is passed) e

module _ (a b : TableAnswer) (e : a and_then b ≡ Ok tt) where
  pub first_passes : a ≡ Ok tt
  first_passes = decided a (λ p. p) (λ refusal r. absurd (refusal_stands a (ap passes? r) (stops b refl r ∙ e)))

  pub rest_passes : b ≡ Ok tt
  rest_passes = goes_on first_passes refl ∙ e
