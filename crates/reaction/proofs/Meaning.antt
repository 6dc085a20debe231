-- The computed answer means what specs/Meaning says, and no other answer does.
use mathlib.Core.Path.{◌≡◌, refl, sym, ap, ◌∙◌}
use mathlib.Core.Bool.{Bool, true, false, not}
use mathlib.Core.Logic.{◌⊎◌, inl, inr}
use Prim.Native.Nat.{ℕ, ◌+◌, ◌*◌, ◌/◌, ◌%◌, ◌^◌, ◌<◌, ◌≤◌}
use native.Mathlib.Nat.{zero-add, le_antisymm, div-add-mod'}
use native.Mathlib.Omega.{arith}
use borrow.Author.Tests.{lt-ltb, ltb-true, ltb-false, leb-true, leb-false, eq-eqb, eqb-true, not-true}
use lib.Arith.{digits_lt, digits_div, digits_mod}
use lib.Dec.{leb}
use Rattle.std.specs.Prelude.{Ok, Err, if◌then◌else◌}
use Rattle.wire.specs.Choice.{◌<?◌, ◌and◌}
use Rattle.wire.proofs.Choice.{never, both, and_both}
use Rattle.sets.specs.Sets.{member, largest}
use Rattle.sets.proofs.Members.{same_members, member_below, below_limit, member_from, some_if, passing, set_of_has, set_of_only}
use Rattle.sets.proofs.Members.{largest_covers, largest_reached, Reaching}
use Rattle.table.specs.declared.Table.{Table}
use Rattle.table.specs.Table.{next_of, WellFormed}
use Rattle.reaction.specs.declared.Refusal.TheVariants as why
use Rattle.reaction.specs.Answer.{ReactionAnswer, Reacts}
use Rattle.reaction.specs.Reaction.{next_set, weight, reaction_time, leaves_at, first_leaving, reaction_of}
use Rattle.reaction.proofs.First.{before_first, found_first}
use Rattle.reaction.specs.Meaning.{Known, Unknown, Pairs, Comes, NextStates, Slowest, Reaction, Leaving, Means}

-- ---- 9

pub known : (n set : ℕ) → (set <? 2 ^ n) ≡ true → Known n set
known n set e i m = member_below set n i (ltb-true set (2 ^ n) e) m

pub unknown : (n set : ℕ) → (set <? 2 ^ n) ≡ false → Unknown n set
unknown n set e = let m = member_from set n (ltb-false set (2 ^ n) e) in record { at = m.0; is_in = m.2; high = m.1 }

known_passes : (n set : ℕ) → Known n set → (set <? 2 ^ n) ≡ true
known_passes n set k = lt-ltb set (2 ^ n) (below_limit set n k)

unknown_fails : (n set : ℕ) → Unknown n set → (set <? 2 ^ n) ≡ false
unknown_fails n set u = go (set <? 2 ^ n) refl
  where
    go : (b : Bool) → (set <? 2 ^ n) ≡ b → b ≡ false
    go true e = absurd (let l = known n set e u.at u.is_in in let z : ⊥ = omega (arith, u.high) in z)
    go false e = refl

-- A table that passed its check, and sets that name only what exists.
pub record AllExist (t : Table) (P A : ℕ) : Type 0 where
  pub table : WellFormed t
  pub states : Known t.states P
  pub inputs : Known t.inputs A

module _ {t : Table} {P A : ℕ} (all : AllExist t P A) where
  -- ---- 10

  leaves_at_lem : (p a : ℕ) → Pairs P A p a → member P (next_of t p a) ≡ false → leaves_at t P A (p * t.inputs + a) ≡ true
  leaves_at_lem p a h out =
      let l : a < t.inputs = all.inputs a h.1 in
      rw (digits_div p l, digits_mod p l) (and_both (member P p) _ h.0 (and_both (member A a) _ h.1 (rw out)))

  none_before : (k : ℕ) → k < first_leaving t P A → leaves_at t P A k ≡ false
  unfolding first_leaving
  none_before k h = rw zero-add at (before_first (leaves_at t P A) (t.states * t.inputs) 0 k (omega arith))

  first_leaves : first_leaving t P A < t.states * t.inputs → leaves_at t P A (first_leaving t P A) ≡ true
  unfolding first_leaving
  first_leaves h = found_first (leaves_at t P A) (t.states * t.inputs) 0 (omega arith)

  pub found : (first_leaving t P A <? t.states * t.inputs) ≡ true → Leaving t P A (first_leaving t P A)
  found e =
      let k = first_leaving t P A in
      let in_P = both (member P (k / t.inputs)) _ (first_leaves (ltb-true k (t.states * t.inputs) e)) in
      let in_A = both (member A (k % t.inputs)) _ in_P.1 in
      record {
        states = all.states;
        inputs = all.inputs;
        state = k / t.inputs;
        input = k % t.inputs;
        pair = (in_P.0, in_A.0);
        outside = not-true (member P (next_of t (k / t.inputs) (k % t.inputs))) in_A.1;
        is = sym (div-add-mod' k t.inputs);
        smallest = smallest;
      }
    where
      smallest : (p a : ℕ) → Pairs P A p a → member P (next_of t p a) ≡ false → first_leaving t P A ≤ p * t.inputs + a
      smallest p a h out = go (leb (first_leaving t P A) (p * t.inputs + a)) refl
        where
          go : (b : Bool) → leb (first_leaving t P A) (p * t.inputs + a) ≡ b → first_leaving t P A ≤ p * t.inputs + a
          go true e = leb-true (first_leaving t P A) (p * t.inputs + a) e
          go false e =
              let l = leb-false (first_leaving t P A) (p * t.inputs + a) e in
              never (sym (none_before (p * t.inputs + a) l) ∙ leaves_at_lem p a h out)

  pub stays : (first_leaving t P A <? t.states * t.inputs) ≡ false → (p a : ℕ) → Pairs P A p a → member P (next_of t p a) ≡ true
  stays none p a h = go (member P (next_of t p a)) refl
    where
      go : (b : Bool) → member P (next_of t p a) ≡ b → b ≡ true
      go true e = refl
      go false e =
          let l : p * t.inputs + a < t.states * t.inputs = digits_lt (all.states p h.0) (all.inputs a h.1) in
          let m = ltb-false (first_leaving t P A) (t.states * t.inputs) none in
          sym (none_before (p * t.inputs + a) (omega arith)) ∙ leaves_at_lem p a h e

  search_finds : (p a : ℕ) → Pairs P A p a → member P (next_of t p a) ≡ false → (first_leaving t P A <? t.states * t.inputs) ≡ true
  search_finds p a h out = go (first_leaving t P A <? t.states * t.inputs) refl
    where
      go : (b : Bool) → (first_leaving t P A <? t.states * t.inputs) ≡ b → b ≡ true
      go true e = refl
      go false e = sym out ∙ stays e p a h

  pub search_ends : {target : ℕ} → NextStates (next_of t) P (Pairs P A) target → (first_leaving t P A <? t.states * t.inputs) ≡ false
  search_ends next = go (first_leaving t P A <? t.states * t.inputs) refl
    where
      go : (b : Bool) → (first_leaving t P A <? t.states * t.inputs) ≡ b → b ≡ false
      go true e = let l = found e in sym (next.inside l.state l.input l.pair) ∙ l.outside
      go false e = refl

  -- ---- The target

  pub target_has : (p a : ℕ) → Pairs P A p a → member (next_set t P A) (next_of t p a) ≡ true
  unfolding next_set
  target_has p a h =
      let p_exists = all.states p h.0 in
      let a_exists = all.inputs a h.1 in
      let by_a = some_if t.inputs _ a a_exists (and_both (member A a) _ h.1 (eq-eqb (next_of t p a) (next_of t p a) refl)) in
      let from_p = some_if t.states _ p p_exists (and_both (member P p) _ h.0 by_a) in
      set_of_has t.states _ (next_of t p a) (all.table.next p a p_exists a_exists) from_p

  pub target_only : (q : ℕ) → member (next_set t P A) q ≡ true → Comes (next_of t) (Pairs P A) q
  unfolding next_set
  target_only q m =
      let from_p = passing t.states _ (set_of_only t.states _ q m).1 in
      let in_P = both (member P from_p.at) _ from_p.passes in
      let by_a = passing t.inputs _ in_P.1 in
      let in_A = both (member A by_a.at) _ by_a.passes in
      let e = eqb-true (next_of t from_p.at by_a.at) q in_A.1 in
      record { state = from_p.at; input = by_a.at; pair = (in_P.0, in_A.0); is = e }

  -- ---- The time

  abbrev outside : ℕ → Bool
  outside p = member P p and not (member (next_set t P A) p)

  time_covers : (p : ℕ) → member P p ≡ true → member (next_set t P A) p ≡ false → t.bound + weight t A p ≤ reaction_time t P A
  unfolding reaction_time
  time_covers p m o = omega (arith, largest_covers t.states outside (weight t A) p (all.states p m) (and_both (member P p) _ m (rw o)))

  slowest : (m : ℕ) → (m ≡ 0) ⊎ Reaching t.states outside (weight t A) m →
      (t.bound + m ≡ t.bound) ⊎ Slowest t P A (next_set t P A) (t.bound + m)
  slowest m (inl e) = inl (omega arith)
  slowest m (inr r) =
      let b = both (member P r.at) _ r.passes in
      let o = not-true (member (next_set t P A) r.at) b.1 in
      inr (record { state = r.at; is_in = b.0; outside = o; is = ap (λ n. t.bound + n) r.is })

  time_reached : (reaction_time t P A ≡ t.bound) ⊎ Slowest t P A (next_set t P A) (reaction_time t P A)
  unfolding reaction_time
  time_reached = slowest (largest t.states outside (weight t A)) (largest_reached t.states outside (weight t A))

  pub computed : (first_leaving t P A <? t.states * t.inputs) ≡ false → Reaction t P A (reaction_time t P A) (next_set t P A)
  computed none = record {
    states = all.states;
    inputs = all.inputs;
    next = record { inside = stays none; has = target_has; only = target_only };
    covers = time_covers;
    reached = time_reached;
  }

-- ---- Each meaning has one answer

pub same_target : {next : ℕ → ℕ → ℕ} {P : ℕ} {Pair : ℕ → ℕ → Type 0} {x y : ℕ} → NextStates next P Pair x → NextStates next P Pair y → x ≡ y
same_target {x = x} {y = y} X Y =
    same_members x y
    (λ q m. let c = X.only q m in rw (← c.is) (Y.has c.state c.input c.pair))
    (λ q m. let c = Y.only q m in rw (← c.is) (X.has c.state c.input c.pair))

module _ {t : Table} {P A : ℕ} where
  no_later : {time time' target : ℕ} → Reaction t P A time target → Reaction t P A time' target → time ≤ time'
  no_later {time} {time'} {target} X Y = go X.reached Y.reached
    where
      go : (time ≡ t.bound) ⊎ Slowest t P A target time → (time' ≡ t.bound) ⊎ Slowest t P A target time' → time ≤ time'
      go (inr s) r = omega (arith, s.is, Y.covers s.state s.is_in s.outside)
      go (inl e) (inl f) = omega arith
      go (inl e) (inr s) = omega (arith, s.is)

  same_reaction : {time time' target target' : ℕ} → Reaction t P A time target → Reaction t P A time' target' →
      Reacts time target ≡ Reacts time' target'
  same_reaction {time} {time'} {target} {target'} X Y =
      let e : target ≡ target' = same_target X.next Y.next in
      let Z : Reaction t P A time target' = rw e at X in
      let f : time ≡ time' = le_antisymm (no_later Z Y) (no_later Y Z) in
      rw (e, f)

  pub same_leaving : {place place' : ℕ} → Leaving t P A place → Leaving t P A place' → place ≡ place'
  same_leaving X Y =
      le_antisymm
      (rw Y.is (X.smallest Y.state Y.input Y.pair Y.outside))
      (rw X.is (Y.smallest X.state X.input X.pair X.outside))

-- Where a pair leaves, the search finds its place.
pub leaving_first : {t : Table} {P A place : ℕ} → AllExist t P A → Leaving t P A place →
    ((first_leaving t P A <? t.states * t.inputs) ≡ true) × (place ≡ first_leaving t P A)
leaving_first all l =
    let e = search_finds all l.state l.input l.pair l.outside in
    (e, same_leaving l (found all e))

-- ---- The theorems

module _ (t : Table) (table : WellFormed t) (P A : ℕ) where
  all_exist : Known t.states P → Known t.inputs A → AllExist t P A
  all_exist states inputs = record { table = table; states = states; inputs = inputs }

  computed_means : Means t P A (reaction_of t P A)
  unfolding reaction_of
  computed_means = go (P <? 2 ^ t.states) refl (A <? 2 ^ t.inputs) refl (first_leaving t P A <? t.states * t.inputs) refl
    where
      go : (a : Bool) → (P <? 2 ^ t.states) ≡ a → (b : Bool) → (A <? 2 ^ t.inputs) ≡ b →
          (c : Bool) → (first_leaving t P A <? t.states * t.inputs) ≡ c →
          Means t P A
          (if not a then Err why.UnknownState
          else if not b then Err why.UnknownInput
          else if c then Err (why.LeavesStates (first_leaving t P A))
          else Reacts (reaction_time t P A) (next_set t P A))
      go false e b f c g = unknown t.states P e
      go true e false f c g = (known t.states P e, unknown t.inputs A f)
      go true e true f true g = found (all_exist (known t.states P e) (known t.inputs A f)) g
      go true e true f false g = computed (all_exist (known t.states P e) (known t.inputs A f)) g

  -- The computed answer means what it should ..
  pub means : (r : ReactionAnswer) → r ≡ reaction_of t P A → Means t P A r
  means r e = rw e computed_means

  -- .. and no other answer does.
  pub only_answer : (r : ReactionAnswer) → Means t P A r → r ≡ reaction_of t P A
  unfolding reaction_of
  only_answer (Ok r) X =
      let all = all_exist X.states X.inputs in
      let e = search_ends all X.next in
      rw (known_passes t.states P X.states, known_passes t.inputs A X.inputs, e) (same_reaction X (computed all e))
  only_answer (Err (why.Table refusal)) X = absurd X
  only_answer (Err why.HasTimers) X = absurd X
  only_answer (Err why.UnknownState) X = rw (unknown_fails t.states P X)
  only_answer (Err why.UnknownInput) X = rw (known_passes t.states P X.0, unknown_fails t.inputs A X.1)
  only_answer (Err (why.LeavesStates place)) X =
      let all = all_exist X.states X.inputs in
      let e = search_finds all X.state X.input X.pair X.outside in
      rw (known_passes t.states P X.states, known_passes t.inputs A X.inputs, e) (ap (λ k. Err (why.LeavesStates k)) (same_leaving X (found all e)))

  -- 10 comes wherever 9 does not and some next(p, a) is outside P.
  pub ten_comes : Known t.states P → Known t.inputs A → (p a : ℕ) → Pairs P A p a → member P (next_of t p a) ≡ false →
      (place : ℕ) × (Err (why.LeavesStates place) ≡ reaction_of t P A)
  ten_comes states inputs p a h out =
      let all = all_exist states inputs in
      (first_leaving t P A, only_answer (Err (why.LeavesStates (first_leaving t P A))) (found all (search_finds all p a h out)))
