-- What is asked: what the refusals of the question and of its target make of a calculator's answer.
use mathlib.Core.Path.{◌≡◌, refl, sym, ap, ◌∙◌}
use mathlib.Core.Bool.{Bool, true, false, not}
use Prim.Native.Nat.{ℕ, ◌+◌, ◌*◌, ◌^◌}
use borrow.Author.Tests.{eqb-true}
use Rattle.std.specs.Prelude.{Result, Ok, Err, if◌then◌else◌}
use Rattle.std.specs.Result.{IsErrAnd}
use Rattle.std.proofs.lemmas.Result.{err_from_is_err_and}
use Rattle.wire.specs.Choice.{◌<?◌, ◌=?◌}
use Rattle.wire.proofs.Apart.{apart}
use Rattle.table.specs.declared.Table.{Table}
use Rattle.reaction.specs.declared.Refusal.{Refusal}
use Rattle.reaction.specs.declared.Refusal.TheVariants as why
use Rattle.reaction.specs.Answer.{ReactionAnswer, Reacts}
use Rattle.reaction.specs.Reaction.{next_set, reaction_time, reaction_of, first_leaving, for_holds, asked_of, target_of}
use Rattle.reaction.specs.Meaning.{Pairs, NextStates}
use Rattle.reaction.specs.Walks.{FirstLeaving}
use Rattle.table.specs.Table.{WellFormed, next_of}
use Rattle.table.specs.Check.{table_in}
use Rattle.table.proofs.WellFormed.{well_formed}
use Rattle.reaction.specs.declared.question.Question.{Question}
use Rattle.reaction.proofs.Entry.{has_holds, has_timers}
use Rattle.reaction.proofs.Meaning.{AllExist, known, computed, search_ends, same_target, leaving_first}
use Rattle.reaction.proofs.Findings.{leaving}

module _ (t : Table) (P A : ℕ) where
  pub timers_refused : (t.timers ≡ 0 → ⊥) → asked_of t P A ≡ Err why.HasTimers
  unfolding asked_of
  timers_refused other = has_timers _ _ t other

  module _ (none : t.timers ≡ 0) where
    pub states_refused : (P <? 2 ^ t.states) ≡ false → asked_of t P A ≡ Err why.UnknownState
    unfolding asked_of
    states_refused e = has_holds _ _ t none ∙ rw e

    module _ (states : (P <? 2 ^ t.states) ≡ true) where
      pub inputs_refused : (A <? 2 ^ t.inputs) ≡ false → asked_of t P A ≡ Err why.UnknownInput
      unfolding asked_of
      inputs_refused e = has_holds _ _ t none ∙ rw (states, e)

      pub none_refused : (A <? 2 ^ t.inputs) ≡ true → asked_of t P A ≡ Ok tt
      unfolding asked_of
      none_refused e = has_holds _ _ t none ∙ rw (states, e)

abbrev asked : Result Unit Refusal
asked = Ok tt

-- What it tells that there is a question.
pub record Asked (t : Table) (P A : ℕ) : Type 0 where
  pub no_timers : t.timers ≡ 0
  pub all : AllExist t P A

pub told : (t : Table) (P A : ℕ) → WellFormed t → asked_of t P A ≡ Ok tt → Asked t P A
unfolding asked_of for_holds
told t P A good = go (t.timers =? 0) refl (P <? 2 ^ t.states) refl (A <? 2 ^ t.inputs) refl
  where
    go : (z : Bool) → (t.timers =? 0) ≡ z → (a : Bool) → (P <? 2 ^ t.states) ≡ a → (b : Bool) → (A <? 2 ^ t.inputs) ≡ b →
        (if z then (if not a then Err why.UnknownState else if not b then Err why.UnknownInput else asked) else Err why.HasTimers) ≡ asked → Asked t P A
    go false _ a _ b _ e = apart cc
    go true _ false _ b _ e = apart cc
    go true _ true _ false _ e = apart cc
    go true z true a true b e = record { no_timers = eqb-true t.timers 0 z; all = record { table = good; states = known t.states P a; inputs = known t.inputs A b } }

-- What a calculator answers that asks so first, where `of` tells these refusals among its own.
module _ {X E : Type 0} (of : Refusal → E) (rest : Table → Result X E) (t : Table) (P A : ℕ) where
  abbrev pub Asks : Result X E
  Asks =
      for_holds (Err (of why.HasTimers))
      (λ t. if not (P <? 2 ^ t.states) then Err (of why.UnknownState) else if not (A <? 2 ^ t.inputs) then Err (of why.UnknownInput) else rest t) t

  pub asking_refused : {refusal : Refusal} → asked_of t P A ≡ Err refusal → Asks ≡ Err (of refusal)
  unfolding asked_of for_holds
  asking_refused {refusal} = go (t.timers =? 0) (P <? 2 ^ t.states) (A <? 2 ^ t.inputs)
    where
      go : (z a b : Bool) →
          (if z then (if not a then Err why.UnknownState else if not b then Err why.UnknownInput else asked) else Err why.HasTimers) ≡ Err refusal →
          (if z then (if not a then Err (of why.UnknownState) else if not b then Err (of why.UnknownInput) else rest t) else Err (of why.HasTimers)) ≡ Err (of refusal)
      go false a b e = let same : why.HasTimers ≡ refusal = cc in rw same refl
      go true false b e = let same : why.UnknownState ≡ refusal = cc in rw same refl
      go true true false e = let same : why.UnknownInput ≡ refusal = cc in rw same refl
      go true true true e = apart cc

  pub asking_goes_on : asked_of t P A ≡ Ok tt → Asks ≡ rest t
  unfolding asked_of for_holds
  asking_goes_on = go (t.timers =? 0) (P <? 2 ^ t.states) (A <? 2 ^ t.inputs)
    where
      go : (z a b : Bool) →
          (if z then (if not a then Err why.UnknownState else if not b then Err why.UnknownInput else asked) else Err why.HasTimers) ≡ asked →
          (if z then (if not a then Err (of why.UnknownState) else if not b then Err (of why.UnknownInput) else rest t) else Err (of why.HasTimers)) ≡ rest t
      go false a b e = apart cc
      go true false b e = apart cc
      go true true false e = apart cc
      go true true true e = refl

-- It is asked only where there are holds.
pub asking_held : (t : Table) (P A : ℕ) {X : Type 0} (timers : X) (f : Table → X) → asked_of t P A ≡ Ok tt → for_holds timers f t ≡ f t
unfolding asked_of for_holds
asking_held t P A timers f = go (t.timers =? 0) (if not (P <? 2 ^ t.states) then Err why.UnknownState else if not (A <? 2 ^ t.inputs) then Err why.UnknownInput else asked)
  where
    go : (z : Bool) (x : Result Unit Refusal) → (if z then x else Err why.HasTimers) ≡ asked → (if z then f t else timers) ≡ f t
    go true x e = refl
    go false x e = apart cc

-- The table of a question passed, and its sets name only what exists.
pub all_exist : (q : Question) → AllExist (table_in q.held.table.bytes.now) q.states q.inputs
all_exist q = record { table = well_formed _ q.held.table.passes; states = q.states_known; inputs = q.inputs_known }

-- The target, as the walk over next states finds it.
module _ {t : Table} {P A : ℕ} (all : AllExist t P A) where
  pub target_found : {target : ℕ} → NextStates (next_of t) P (Pairs P A) target → Ok target ≡ target_of t P A
  unfolding target_of
  target_found {target} next =
      let e = search_ends all next in
      rw e (ap (λ n. Ok n) (same_target next (computed all e).next))

  pub pair_found : {state input : ℕ} → FirstLeaving (next_of t) P (Pairs P A) state input → {place : ℕ} → place ≡ state * t.inputs + input →
      Err (why.LeavesStates place) ≡ target_of t P A
  unfolding target_of
  pair_found found e = let first = leaving_first all (leaving all found) in rw (first.0, e) (ap (λ k. Err (why.LeavesStates k)) first.1)

-- What it tells: nothing leaves, and it is the target.
pub record Target (t : Table) (P A target : ℕ) : Type 0 where
  pub stays : (first_leaving t P A <? t.states * t.inputs) ≡ false
  pub is : target ≡ next_set t P A

module _ (t : Table) (P A : ℕ) where
  pub target_told : {target : ℕ} → target_of t P A ≡ Ok target → Target t P A target
  unfolding target_of
  target_told {target} = go (first_leaving t P A <? t.states * t.inputs) refl
    where
      go : (b : Bool) → (first_leaving t P A <? t.states * t.inputs) ≡ b →
          (if b then Err (why.LeavesStates (first_leaving t P A)) else Ok (next_set t P A)) ≡ Ok target → Target t P A target
      go true s e = apart cc
      go false s e = record { stays = s; is = cc }

  pub leaving_told : {refusal : Refusal} → target_of t P A ≡ Err refusal →
      ((first_leaving t P A <? t.states * t.inputs) ≡ true) × (refusal ≡ why.LeavesStates (first_leaving t P A))
  unfolding target_of
  leaving_told {refusal} = go (first_leaving t P A <? t.states * t.inputs) refl
    where
      go : (b : Bool) → (first_leaving t P A <? t.states * t.inputs) ≡ b →
          (if b then Err (why.LeavesStates (first_leaving t P A)) else Ok (next_set t P A)) ≡ Err refusal →
          ((first_leaving t P A <? t.states * t.inputs) ≡ true) × (refusal ≡ why.LeavesStates (first_leaving t P A))
      go true s e = (s, cc)
      go false s e = apart cc

pub next_states : {t : Table} {P A target : ℕ} → AllExist t P A → target_of t P A ≡ Ok target → NextStates (next_of t) P (Pairs P A) target
next_states {t} {P} {A} all e = let told = target_told t P A e in rw told.is (computed all told.stays).next

-- ---- The answer of this calculator

module _ (t : Table) (P A : ℕ) where
  abbrev Answers : ReactionAnswer → Type 0
  Answers r = r ≡ for_holds (Err why.HasTimers) (λ t. reaction_of t P A) t

  abbrev under : (t : Table) → ReactionAnswer
  under t = if first_leaving t P A <? t.states * t.inputs then Err (why.LeavesStates (first_leaving t P A)) else Reacts (reaction_time t P A) (next_set t P A)

  is_asked : for_holds (Err why.HasTimers) (λ t. reaction_of t P A) t ≡ Asks (λ refusal. refusal) under t P A
  unfolding reaction_of
  is_asked = refl

  pub turned_down : {refusal : Refusal} → asked_of t P A ≡ Err refusal → (r : ReactionAnswer) → IsErrAnd r (λ e. e ≡ refusal) → Answers r
  turned_down why r same =
      let e = err_from_is_err_and r same in
      rw (e.1, e.2) (sym (is_asked ∙ asking_refused (λ refusal. refusal) under t P A why))

  module _ (passes : asked_of t P A ≡ Ok tt) where
    pub answers : {r : ReactionAnswer} → r ≡ reaction_of t P A → Answers r
    answers is = is ∙ sym (asking_held t P A _ _ passes)

    pub states_left : {refusal : Refusal} → target_of t P A ≡ Err refusal → (r : ReactionAnswer) → IsErrAnd r (λ e. e ≡ refusal) → Answers r
    states_left leaves r same =
        let e = err_from_is_err_and r same in
        let told = leaving_told t P A leaves in
        rw (e.1, e.2, told.1) (sym (is_asked ∙ asking_goes_on (λ refusal. refusal) under t P A passes ∙ rw told.0))
