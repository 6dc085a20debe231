-- The walks that gather next states: over the inputs for one state, and over the states.
use mathlib.Core.Path.{◌≡◌, refl, sym, ◌∙◌}
use mathlib.Core.Bool.{Bool, true, false}
use mathlib.Core.List.{List}
use mathlib.Core.Logic.{◌⊎◌, inl, inr, ⊎_elim}
use Prim.Native.Nat.{ℕ, ◌+◌, ◌*◌, ◌<◌}
use native.Mathlib.Omega.{arith}
use lib.ListN.{length}
use borrow.Author.Tests.{eq-eqb, eqb-true, not-true}
use Rattle.wire.specs.Field.{byte_at}
use Rattle.wire.proofs.Choice.{never, both, either, or_first, or_second}
use Rattle.sets.specs.Sets.{member, Single, Union, Difference, TakesSmallest}
use Rattle.sets.proofs.Bits.{none_in_empty}
use Rattle.sets.proofs.Members.{member_from}
use Rattle.sets.proofs.Walk.{Walk, Walked, all_walked, goes_on}
use Rattle.sets.proofs.Walk.{taken_in, smaller_walked, taken_walked, walked_before, walked_now}
use Rattle.table.specs.Table.{next_of}
use Rattle.table.specs.Check.{table_in}
use Rattle.table.proofs.WellFormed.{well_formed}
use Rattle.rows.specs.Layouts.{NextRows}
use Rattle.rows.proofs.InPlace.{row_before, states_are, inputs_are, fifth, next_at}
use Rattle.reaction.specs.Meaning.{Pairs, Comes, NextStates}
use Rattle.reaction.specs.Walks.{From, Image, SomeLeaves, FirstLeaving}

-- Where a next state stands, in a row that starts `place` behind the first.
pub in_row : (s : List ℕ) {from width : ℕ} → NextRows s from width → (q a place : ℕ) → q < (table_in s).states → a < width → place ≡ q * width + 0 →
    (from + place + a < length s) × (byte_at s (from + place + a) ≡ next_of (table_in s) q a)
in_row s rows q a place low few is =
    let passes = rows.passes in
    let wide = rows.wide ∙ inputs_are s passes in
    let h = rw (states_are s passes) at low in
    let l = rw wide at few in
    let at = rw wide at is in
    (omega (arith, rows.starts, at, row_before q _ _ a h l, fifth s passes), next_at s passes q a _ h l (omega (arith, rows.starts, at)))

-- A next state is one of 32.
pub below_32 : (s : List ℕ) {from width : ℕ} → NextRows s from width → (q a : ℕ) → q < (table_in s).states → a < width → next_of (table_in s) q a < 32
below_32 s rows q a low few =
    let good = well_formed s rows.passes in
    omega (arith, good.next q a low (omega (arith, few, rows.wide)), good.states)

-- ---- The image of any pairs

comes_also : {next : ℕ → ℕ → ℕ} {One Pair : ℕ → ℕ → Type 0} → ((p a : ℕ) → One p a → Pair p a) → {q : ℕ} → Comes next One q → Comes next Pair q
comes_also also c = record { state = c.state; input = c.input; pair = also c.state c.input c.pair; is = c.is }

module _ {next : ℕ → ℕ → ℕ} where
  nothing : {Pair : ℕ → ℕ → Type 0} → ((p a : ℕ) → Pair p a → ⊥) → Image next Pair 0
  nothing none = record {
    has = λ p a h. absurd (none p a h);
    only = λ q m. never (sym (none_in_empty q) ∙ m);
  }

  alone : {p a set : ℕ} → Single (next p a) set → Image next (λ p' a'. (p' ≡ p) × (a' ≡ a)) set
  alone {p} {a} one = record {
    has = λ p' a' e. rw (e.0, e.1) (one (next p a) ∙ eq-eqb (next p a) (next p a) refl);
    only = λ q m. record { state = p; input = a; pair = (refl, refl); is = sym (eqb-true q (next p a) (sym (one q) ∙ m)) };
  }

  same_pairs : {One Pair : ℕ → ℕ → Type 0} → ((p a : ℕ) → Pair p a → One p a) → ((p a : ℕ) → One p a → Pair p a) →
      {set : ℕ} → Image next One set → Image next Pair set
  same_pairs to from x = record {
    has = λ p a h. x.has p a (to p a h);
    only = λ q m. comes_also from (x.only q m);
  }

  joined : {One Two Pair : ℕ → ℕ → Type 0} → ((p a : ℕ) → Pair p a → One p a ⊎ Two p a) →
      ((p a : ℕ) → One p a → Pair p a) → ((p a : ℕ) → Two p a → Pair p a) →
      {one two set : ℕ} → Image next One one → Image next Two two → Union one two set → Image next Pair set
  joined apart first second {one} {two} x y union = record {
    has = λ p a h.
        union (next p a)
        ∙ ⊎_elim (λ h₁. or_first (member one (next p a)) (member two (next p a)) (x.has p a h₁))
        (λ h₂. or_second (member one (next p a)) (member two (next p a)) (y.has p a h₂)) (apart p a h);
    only = λ q m.
        ⊎_elim (λ m₁. comes_also first (x.only q m₁)) (λ m₂. comes_also second (y.only q m₂))
        (either (member one q) (member two q) (sym (union q) ∙ m));
  }

-- ---- Over the inputs, for one state

abbrev FromWalked : ℕ → ℕ → ℕ → ℕ → ℕ → Type 0
FromWalked state A rest p a = (p ≡ state) × Walked A rest a

pub record OverInputs (next : ℕ → ℕ → ℕ) (A state rest image : ℕ) : Type 0 where
  pub walk : Walk A rest
  pub so_far : Image next (FromWalked state A rest) image

module _ {next : ℕ → ℕ → ℕ} {A state rest image : ℕ} (inv : OverInputs next A state rest image) where
  pub all_inputs : rest ≡ 0 → Image next (From state A) image
  all_inputs e = same_pairs (λ p a h. (h.0, all_walked e h.1)) (λ p a h. (h.0, h.1.is_in)) inv.so_far

  pub one_input_more : {input less : ℕ} (takes : TakesSmallest rest input less) (one : ℕ) {new : ℕ} → Single (next state input) one → Union image one new →
      OverInputs next A state less new
  one_input_more takes one single union = record {
    walk = goes_on inv.walk takes;
    so_far =
        joined (λ p a h. ⊎_elim (λ w. inl (h.0, w)) (λ e. inr (h.0, e)) (walked_now inv.walk takes h.1))
        (λ p a h. (h.0, walked_before inv.walk takes h.1))
        (λ p a h. (h.0, rw h.1 (taken_walked inv.walk takes)))
        inv.so_far (alone single) union;
  }

-- The search for the first input that leaves.
pub record Staying (next : ℕ → ℕ → ℕ) (P A state rest : ℕ) : Type 0 where
  pub walk : Walk A rest
  pub inside : (a : ℕ) → Walked A rest a → member P (next state a) ≡ true

module _ {next : ℕ → ℕ → ℕ} {P A state rest : ℕ} (inv : Staying next P A state rest) where
  pub never_ends : rest ≡ 0 → SomeLeaves next P (From state A) → ⊥
  never_ends e (q, comes, out) =
      let stays = inv.inside comes.input (all_walked e comes.pair.1) in
      never (sym out ∙ rw (← comes.pair.0, comes.is) at stays)

  module _ {input less : ℕ} (takes : TakesSmallest rest input less) where
    pub leaves_by : member P (next state input) ≡ false → FirstLeaving next P (From state A) state input
    leaves_by out = record { pair = (refl, taken_in inv.walk takes); outside = out; first = first }
      where
        first : (p a : ℕ) → From state A p a → (p < state) ⊎ ((p ≡ state) × (a < input)) → member P (next p a) ≡ true
        first p a h (inl l) = absurd (let z : ⊥ = omega arith in z)
        first p a h (inr l) = rw h.0 (inv.inside a (smaller_walked inv.walk takes h.1 l.1))

    pub stays_by : member P (next state input) ≡ true → Staying next P A state less
    stays_by in_P = record {
      walk = goes_on inv.walk takes;
      inside = λ a w. ⊎_elim (inv.inside a) (λ e. rw e in_P) (walked_now inv.walk takes w);
    }

-- ---- Over the states

-- An image that has no member outside P, and one that has.
pub no_more : (image P rest : ℕ) → Difference image P rest → rest ≡ 0 → (q : ℕ) → member image q ≡ true → member P q ≡ true
no_more image P rest is e q m = go (member P q) refl
  where
    go : (b : Bool) → member P q ≡ b → b ≡ true
    go true f = refl
    go false f = sym (sym (is q ∙ rw (m, f)) ∙ rw e (none_in_empty q))

pub some_leaves : {next : ℕ → ℕ → ℕ} {Pair : ℕ → ℕ → Type 0} {image : ℕ} → Image next Pair image → (P rest : ℕ) → Difference image P rest →
    (rest ≡ 0 → ⊥) → SomeLeaves next P Pair
some_leaves {image = image} x P rest is other =
    let m = member_from rest 0 (omega (arith, other)) in
    let b = both (member image m.0) _ (sym (is m.0) ∙ m.2) in
    (m.0, x.only m.0 b.0, not-true (member P m.0) b.1)

abbrev PairsWalked : ℕ → ℕ → ℕ → ℕ → ℕ → Type 0
PairsWalked P A rest p a = Walked P rest p × (member A a ≡ true)

pub record OverStates (next : ℕ → ℕ → ℕ) (P A rest target : ℕ) : Type 0 where
  pub walk : Walk P rest
  pub so_far : Image next (PairsWalked P A rest) target
  pub inside : (q : ℕ) → member target q ≡ true → member P q ≡ true

module _ {next : ℕ → ℕ → ℕ} {P A rest target : ℕ} (inv : OverStates next P A rest target) where
  pub all_states : rest ≡ 0 → NextStates next P (Pairs P A) target
  all_states e =
      let image : Image next (Pairs P A) target = same_pairs (λ p a h. (all_walked e h.0, h.1)) (λ p a h. (h.0.is_in, h.1)) inv.so_far in
      record { inside = λ p a h. inv.inside (next p a) (image.has p a h); has = image.has; only = image.only }

  module _ {state less : ℕ} (takes : TakesSmallest rest state less) where
    pub leaves_from : {s i : ℕ} → FirstLeaving next P (From state A) s i → FirstLeaving next P (Pairs P A) s i
    leaves_from {s} {i} f = record { pair = (rw f.pair.0 (taken_in inv.walk takes), f.pair.1); outside = f.outside; first = first }
      where
        first : (p a : ℕ) → Pairs P A p a → (p < s) ⊎ ((p ≡ s) × (a < i)) → member P (next p a) ≡ true
        first p a h (inl l) =
            inv.inside (next p a) (inv.so_far.has p a (smaller_walked inv.walk takes h.0 (rw f.pair.0 at l), h.1))
        first p a h (inr l) = f.first p a (l.0 ∙ f.pair.0, h.1) (inr l)

    pub one_state_more : {more new : ℕ} → Image next (From state A) more → ((q : ℕ) → member more q ≡ true → member P q ≡ true) → Union target more new →
        OverStates next P A less new
    one_state_more {more} x in_P union = record {
      walk = goes_on inv.walk takes;
      so_far =
          joined (λ p a h. ⊎_elim (λ w. inl (w, h.1)) (λ e. inr (e, h.1)) (walked_now inv.walk takes h.0))
          (λ p a h. (walked_before inv.walk takes h.0, h.1))
          (λ p a h. (rw h.0 (taken_walked inv.walk takes), h.1))
          inv.so_far x union;
      inside = λ q m. ⊎_elim (inv.inside q) (in_P q) (either (member target q) (member more q) (sym (union q) ∙ m));
    }
