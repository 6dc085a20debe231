-- The entry on bytes: what the calculator refuses is passed on, and where it gives a time the bound is in the bytes.
use mathlib.Core.Path.{◌≡◌, refl, sym, ap, ◌∙◌}
use mathlib.Core.List.{List}
use mathlib.Core.Bool.{false}
use mathlib.Core.Logic.{◌⊎◌, inl, inr}
use Prim.Native.Nat.{ℕ, ◌≤◌}
use native.Mathlib.Omega.{arith}
use lib.ListN.{length}
use Rattle.std.specs.Prelude.{Ok, Err}
use Rattle.std.specs.Result.{IsErrAnd}
use Rattle.std.proofs.lemmas.Result.{err_from_is_err_and}
use Rattle.wire.proofs.Apart.{apart}
use Rattle.table.specs.Table.{largest_bound}
use Rattle.table.specs.Check.{counts_in, bound_in, table_with, table_in}
use Rattle.table.proofs.Stands.{table_stands, HeadStands}
use Rattle.reaction.specs.declared.Refusal.{Refusal}
use Rattle.reaction.specs.Answer as reaction
use Rattle.reaction.specs.Reaction.{react_of}
use Rattle.reaction.specs.Meaning.{Slowest}
use Rattle.reaction.proofs.Entry.{Reacted, reacted}
use Rattle.tight.specs.Answer.{TightAnswer, ReactsTight}
use Rattle.tight.specs.Tight.{tight_time, beside, react_tight_of}
use Rattle.tight.specs.Below.{tightened}
use Rattle.tight.proofs.Time.{tight_is_tightened}
use Rattle.tight.proofs.Told.{tight_in}

module _ (s : List ℕ) (P A : ℕ) where
  -- What the calculator refuses is passed on.
  pub refuses : {a : reaction.ReactionAnswer} {refusal : Refusal} → a ≡ react_of s P A → a ≡ Err refusal → (r : TightAnswer) → IsErrAnd r (λ e. e ≡ refusal) →
      r ≡ react_tight_of s P A
  unfolding react_tight_of
  refuses is h r same =
      let j = sym is ∙ h in
      let e = err_from_is_err_and r same in
      rw (j, e.1, e.2)

  pub passed_up : {a : reaction.ReactionAnswer} {refusal : Refusal} → a ≡ react_of s P A → a ≡ Err refusal → Err refusal ≡ react_tight_of s P A
  unfolding react_tight_of
  passed_up is h = let j = sym is ∙ h in rw j refl

  module _ (time target : ℕ) (e : react_of s P A ≡ reaction.Reacts time target) where
    r : Reacted s P A time target
    r = reacted s P A time target e

    head : HeadStands s (counts_in s)
    head = (table_stands false s r.passes).0

    pub bound_stands : 14 ≤ length s
    bound_stands = omega (arith, head.bound_field.fits)

    time_covers : (time ≡ bound_in s) ⊎ Slowest (table_in s) P A target time → bound_in s ≤ time
    unfolding table_with
    time_covers (inl is) = omega arith
    time_covers (inr slowest) = omega (arith, slowest.is)

    pub bound_fits : (1 ≤ bound_in s) × (bound_in s ≤ largest_bound) × (bound_in s ≤ time)
    unfolding table_with
    bound_fits = (head.bound.0, head.bound.1, time_covers r.means.reached)

    pub tight_told : tight_time (table_in s) P A ≡ tightened time (bound_in s)
    unfolding table_with
    tight_told = tight_is_tightened (table_in s) P A head.bound.0 ∙ ap (λ c. tightened c (bound_in s)) (sym r.time_is)

    pub reacts : (tight : ℕ) → tight ≡ tightened time (bound_in s) → ReactsTight time target tight ≡ react_tight_of s P A
    unfolding react_tight_of
    reacts tight is = rw e (ap (ReactsTight time target) (is ∙ sym tight_told))

abbrev calculated_in : TightAnswer → reaction.ReactionAnswer
calculated_in (Ok r) = reaction.Reacts r.time r.target
calculated_in (Err refusal) = Err refusal

-- What the entry gives is the calculator's, with the tight time beside it.
pub entry_gives : (s : List ℕ) (P A time target tight : ℕ) → react_tight_of s P A ≡ ReactsTight time target tight →
    (react_of s P A ≡ reaction.Reacts time target) × (tight ≡ tight_time (table_in s) P A)
unfolding react_tight_of
entry_gives s P A time target tight e = go (tight_time (table_in s) P A) (react_of s P A) e
  where
    go : (n : ℕ) (a : reaction.ReactionAnswer) → beside n a ≡ ReactsTight time target tight → (a ≡ reaction.Reacts time target) × (tight ≡ n)
    go n (Ok r) f = (ap calculated_in f, sym (ap tight_in f))
    go n (Err refusal) f = apart cc
