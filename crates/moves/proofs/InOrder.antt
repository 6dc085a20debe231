-- What the judge says, way out by way out.
use mathlib.Core.Path.{◌≡◌, refl, sym, ◌∙◌}
use mathlib.Core.Bool.{Bool}
use Prim.Native.Nat.{ℕ, ◌-◌, ◌*◌, ◌<◌, ◌≤◌}
use borrow.Author.Tests.{lt-ltb, le-ltb}
use Rattle.std.specs.Prelude.{Ok, Err, if◌then◌else◌}
use Rattle.std.specs.Result.{IsErrAnd}
use Rattle.std.proofs.lemmas.Result.{err_from_is_err_and}
use Rattle.wire.specs.Choice.{◌<?◌, ◌or◌}
use Rattle.table.specs.declared.Table.{Table}
use Rattle.reaction.specs.declared.Refusal as asked
use Rattle.reaction.specs.Reaction.{first_leaving, for_holds, asked_of, target_of}
use Rattle.reaction.proofs.Asking.{Asks, asking_refused, asking_goes_on, target_told, leaving_told}
use Rattle.moves.specs.declared.Refusal.TheVariants as why
use Rattle.moves.specs.Answer.{Judged, asked_refusal}
use Rattle.moves.specs.Moves.{judge}

module _ (t : Table) (P A n sums path : ℕ) where
  abbrev Says : Judged → Type 0
  Says r = r ≡ for_holds (Err why.HasTimers) (λ t. judge t P A n sums path) t

  abbrev rest : Table → Judged
  rest t =
      if 32 <? n then Err why.TooManyMoves
      else if first_leaving t P A <? t.states * t.inputs then Err (why.LeavesStates (first_leaving t P A))
      else if (sums <? n * t.states) or (path <? 2 * n - 1) then Err why.NoRoom
      else Ok tt

  is_asked : for_holds (Err why.HasTimers) (λ t. judge t P A n sums path) t ≡ Asks asked_refusal rest t P A
  unfolding judge
  is_asked = refl

  pub turned_down : {refusal : asked.Refusal} → asked_of t P A ≡ Err refusal → (r : Judged) → IsErrAnd r (λ e. e ≡ asked_refusal refusal) → Says r
  turned_down turns r same =
      let e = err_from_is_err_and r same in
      rw (e.1, e.2) (sym (is_asked ∙ asking_refused asked_refusal rest t P A turns))

  module _ (passes : asked_of t P A ≡ Ok tt) where
    goes_on : {r : Judged} → rest t ≡ r → Says r
    goes_on is = sym (is_asked ∙ asking_goes_on asked_refusal rest t P A passes ∙ is)

    pub too_many : 32 < n → Says (Err why.TooManyMoves)
    too_many h = goes_on (rw (lt-ltb 32 n h) refl)

    module _ (few : n ≤ 32) where
      pub states_left : {refusal : asked.Refusal} → target_of t P A ≡ Err refusal → (r : Judged) → IsErrAnd r (λ e. e ≡ asked_refusal refusal) → Says r
      states_left leaves r same =
          let e = err_from_is_err_and r same in
          let told = leaving_told t P A leaves in
          rw (e.1, e.2, told.1) (goes_on (rw (le-ltb 32 n few, told.0) refl))

      pub room_decides : {target : ℕ} → target_of t P A ≡ Ok target → (b : Bool) → ((sums <? n * t.states) or (path <? 2 * n - 1)) ≡ b →
          Says (if b then Err why.NoRoom else Ok tt)
      room_decides stays b e = goes_on (rw (le-ltb 32 n few, (target_told t P A stays).stays, e) refl)
