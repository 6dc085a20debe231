-- The most of a number over the records of a run, and that it is one.
use mathlib.Core.Path.{◌≡◌, refl}
use mathlib.Core.Logic.{◌⊎◌, inl, inr, ⊎_elim}
use mathlib.Core.List.{List, [], ◌∷◌, ◌++◌}
use mathlib.Core.Bool.{Bool, true, false}
use Prim.Native.Nat.{ℕ, ◌<◌, ◌≤◌, max}
use native.Mathlib.Omega.{arith}
use borrow.Author.Tests.{ltb-true, ltb-false}
use Rattle.std.specs.Prelude.{if◌then◌else◌}
use Rattle.wire.specs.Choice.{◌<?◌}
use Rattle.records.specs.declared.Record.{Record}
use Rattle.records.specs.Record.{time_of}
use Rattle.machine.specs.Most.{number_of_record, most, Has, MostOf}

module _ {S : Type 0} (next : S → Record → S) (has : Record → Bool) (number : S → ℕ → ℕ) where
  abbrev at : S → Record → ℕ
  at s r = number_of_record next has number s r

  abbrev most_of : S → List Record → ℕ
  most_of s rs = most next has number s rs

  abbrev There : S → List Record → S → ℕ → Type 0
  There s rs before time = Has next has number s rs before time

  abbrev Reached : S → List Record → ℕ → Type 0
  Reached s rs n = (before : S) × (time : ℕ) × There s rs before time × (number before time ≡ n)

  -- A record with a number above 0 is one that has a number.
  has_one : (s : S) (r : Record) (rs : List Record) → 0 < at s r → Reached s (r ∷ rs) (at s r)
  has_one s r rs l = go (has r) refl l
    where
      go : (b : Bool) → has r ≡ b → 0 < (if b then number s (time_of r) else 0) → Reached s (r ∷ rs) (if b then number s (time_of r) else 0)
      go true e k = (s, time_of r, inl (e, refl, refl), refl)
      go false e k = absurd (omega arith)

  -- The larger of the two is this record's, or the rest's.
  either_way : (s : S) (r : Record) (rs : List Record) (rest : ℕ) → (rest ≡ 0) ⊎ Reached (next s r) rs rest →
      (max (at s r) rest ≡ 0) ⊎ Reached s (r ∷ rs) (max (at s r) rest)
  either_way s r rs rest later = go (rest <? at s r) refl
    where
      go : (b : Bool) → (rest <? at s r) ≡ b → (max (at s r) rest ≡ 0) ⊎ Reached s (r ∷ rs) (max (at s r) rest)
      go true e =
          let l = ltb-true rest (at s r) e in
          let same : max (at s r) rest ≡ at s r = omega arith in
          inr (rw same (has_one s r rs (omega arith)))
      go false e =
          let l = ltb-false rest (at s r) e in
          let same : max (at s r) rest ≡ rest = omega arith in
          rw same (⊎_elim inl (λ x. inr (x.0, x.1, inr x.2, x.3)) later)

  reached : (s : S) (rs : List Record) → (most_of s rs ≡ 0) ⊎ Reached s rs (most_of s rs)
  unfolding most
  reached s [] = inl refl
  reached s (r ∷ rs) = either_way s r rs (most_of (next s r) rs) (reached (next s r) rs)

  at_least : (s : S) (rs : List Record) (before : S) (time : ℕ) → There s rs before time → number before time ≤ most_of s rs
  unfolding most
  at_least s [] before time never = absurd never
  at_least s (r ∷ rs) before time (inl (is, when, same)) = rw (← when, ← same, is) (omega arith)
  at_least s (r ∷ rs) before time (inr later) = omega (arith, at_least (next s r) rs before time later)

  pub is_most : (s : S) (rs : List Record) → MostOf next has number s rs (most_of s rs)
  is_most s rs = record {
    no_more = at_least s rs;
    some = λ before time there.
        let l = at_least s rs before time there in
        ⊎_elim (λ zero. (before, time, there, omega arith)) (λ x. x) (reached s rs);
    none = λ never. ⊎_elim (λ zero. zero) (λ x. absurd (never x.0 x.1 x.2)) (reached s rs);
  }

  -- What is kept after all of the records.
  abbrev pub kept : S → List Record → S
  kept s [] = s
  kept s (r ∷ rs) = kept (next s r) rs

  pub most_more : (s : S) (rs : List Record) (r : Record) → most_of s (rs ++ r ∷ []) ≡ max (most_of s rs) (at (kept s rs) r)
  unfolding most
  most_more s [] r = omega arith
  most_more s (x ∷ rs) r = rw (most_more (next s x) rs r) (omega arith)
