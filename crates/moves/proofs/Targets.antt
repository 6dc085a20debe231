-- The states that come of a set by several moves.
use mathlib.Core.Path.{◌≡◌, refl, sym, ap, ◌∙◌}
use mathlib.Core.Bool.{true}
use mathlib.Core.List.{List}
use mathlib.Core.Logic.{◌⊎◌, inl, inr, ⊎_elim}
use Prim.Native.Nat.{ℕ, zero, suc, ◌+◌, ◌<◌, ◌≤◌}
use native.Mathlib.Numerals.{add-one}
use native.Mathlib.Omega.{arith}
use lib.ListN.{get_or}
use Rattle.wire.specs.Choice.{◌or◌}
use Rattle.wire.proofs.Choice.{either, or_first, or_second}
use Rattle.sets.specs.Sets.{member, Union, TakesSmallest}
use Rattle.sets.proofs.Walk.{Walk, Walked, all_walked, goes_on, taken_in, walked_now}
use Rattle.table.specs.declared.Table.{Table}
use Rattle.table.specs.Table.{next_of}
use Rattle.reaction.specs.Reaction.{next_set}
use Rattle.reaction.specs.Meaning.{Pairs, NextStates}
use Rattle.reaction.specs.Walks.{Image}
use Rattle.reaction.proofs.Meaning.{AllExist, target_has, target_only, same_target}
use Rattle.moves.specs.Moves.{next_times}
use Rattle.moves.specs.Walks.{HasImages, Unites, UnitesTimes}

-- ---- The walk that unites the sets of several states

pub record Uniting (sets : List ℕ) (P rest N : ℕ) : Type 0 where
  pub walk : Walk P rest
  pub has : (p q : ℕ) → Walked P rest p → member (get_or sets p 0) q ≡ true → member N q ≡ true
  pub only : (q : ℕ) → member N q ≡ true → (p : ℕ) × (member P p ≡ true) × (member (get_or sets p 0) q ≡ true)

module _ {sets : List ℕ} {P rest N : ℕ} (inv : Uniting sets P rest N) where
  pub all_united : rest ≡ 0 → Unites sets P N
  all_united e = record { has = λ p q h m. inv.has p q (all_walked e h) m; only = inv.only }

  pub one_united : {p less new : ℕ} → TakesSmallest rest p less → Union N (get_or sets p 0) new → Uniting sets P less new
  one_united {p} {less} {new} takes union = record {
    walk = goes_on inv.walk takes;
    has = λ r q w m. union q ∙ now r q m (walked_now inv.walk takes w);
    only = λ q m. ⊎_elim (inv.only q) (λ in_p. (p, taken_in inv.walk takes, in_p)) (either (member N q) (member (get_or sets p 0) q) (sym (union q) ∙ m));
  }
    where
      now : (r q : ℕ) → member (get_or sets r 0) q ≡ true → Walked P rest r ⊎ (r ≡ p) → (member N q or member (get_or sets p 0) q) ≡ true
      now r q m (inl w) = or_first (member N q) (member (get_or sets p 0) q) (inv.has r q w m)
      now r q m (inr e) = or_second (member N q) (member (get_or sets p 0) q) (rw e at m)

-- ---- After k of the moves

pub record Moved (sets : List ℕ) (P moves k set : ℕ) : Type 0 where
  pub low : k ≤ moves
  pub times : UnitesTimes sets P k set

module _ {sets : List ℕ} {P moves k set : ℕ} (inv : Moved sets P moves k set) where
  pub one_move_more : {more : ℕ} → k < moves → Unites sets set more → Moved sets P moves (k + 1) more
  one_move_more l unites = record { low = omega arith; times = rw (add-one k) (set, inv.times, unites) }

  pub all_moved : moves ≤ k → UnitesTimes sets P moves set
  all_moved l = let e : k ≡ moves = omega (arith, inv.low) in rw e at inv.times

-- ---- With the images of P, which no next state leaves

module _ {t : Table} {P A : ℕ} (all : AllExist t P A) (stays : (p a : ℕ) → Pairs P A p a → member P (next_of t p a) ≡ true)
    {images : List ℕ} (of : HasImages (next_of t) P A images) where
  image_of_all : {M N : ℕ} → ((p : ℕ) → member M p ≡ true → member P p ≡ true) → Unites images M N → Image (next_of t) (Pairs M A) N
  image_of_all inside unites = record {
    has = λ p a h. unites.has p (next_of t p a) h.0 ((of.each p (inside p h.0)).has p a (refl, h.1));
    only = λ q m.
        let from = unites.only q m in
        let c = (of.each from.0 (inside from.0 from.1)).only q from.2 in
        record { state = c.state; input = c.input; pair = (rw c.pair.0 from.1, c.pair.1); is = c.is };
  }

  pub times_are : (n N : ℕ) → UnitesTimes images P n N → ((q : ℕ) → member N q ≡ true → member P q ≡ true) × (N ≡ next_times t P A n)
  unfolding next_times
  times_are zero N e = (λ q m. rw e at m, e)
  times_are (suc n) N (M, before, unites) =
      let so_far = times_are n M before in
      let image = image_of_all so_far.0 unites in
      let known : AllExist t M A = record { table = all.table; states = λ q m. all.states q (so_far.0 q m); inputs = all.inputs } in
      let one : NextStates (next_of t) N (Pairs M A) N = record { inside = image.has; has = image.has; only = image.only } in
      let two : NextStates (next_of t) N (Pairs M A) (next_set t M A) = record { inside = image.has; has = target_has known; only = target_only known } in (
        λ q m.
            let c = image.only q m in
            rw c.is at (stays c.state c.input (so_far.0 c.state c.pair.0, c.pair.1)),
        same_target one two ∙ ap (λ S. next_set t S A) so_far.1,
      )
