-- What the calculator's inner functions ask and find.
use Rattle.std.specs.Prelude.{◌≡◌, true, false, ◌⊎◌, ℕ, ◌+◌, ◌*◌, ◌<◌, ◌≤◌, Result, Ok, Err}
use Rattle.sets.specs.Sets.{member, meets}
use Rattle.table.specs.declared.Table.{Table}
use Rattle.table.specs.Table.{hold_of, delayed_of}
use Rattle.reaction.specs.declared.Leaving.{Leaving}
use Rattle.reaction.specs.Reaction.{weight_of}
use Rattle.reaction.specs.Meaning.{Comes, NextStates}

-- One state and a in A.
abbrev pub From : ℕ → ℕ → ℕ → ℕ → Type 0
From state A p a = (p ≡ state) × (member A a ≡ true)

-- The set has exactly the members next(p, a), for these pairs.
pub record Image (next : ℕ → ℕ → ℕ) (Pair : ℕ → ℕ → Type 0) (set : ℕ) : Type 0 where
  pub has : (p a : ℕ) → Pair p a → member set (next p a) ≡ true
  pub only : (q : ℕ) → member set q ≡ true → Comes next Pair q

-- Some next(p, a) is outside P.
abbrev pub SomeLeaves : (ℕ → ℕ → ℕ) → ℕ → (ℕ → ℕ → Type 0) → Type 0
SomeLeaves next P Pair = (q : ℕ) × Comes next Pair q × (member P q ≡ false)

-- The first of the pairs, by state and then by input, whose next state is outside P.
pub record FirstLeaving (next : ℕ → ℕ → ℕ) (P : ℕ) (Pair : ℕ → ℕ → Type 0) (state input : ℕ) : Type 0 where
  pub pair : Pair state input
  pub outside : member P (next state input) ≡ false
  pub first : (p a : ℕ) → Pair p a → (p < state) ⊎ ((p ≡ state) × (a < input)) → member P (next p a) ≡ true

abbrev pub Finds : (ℕ → ℕ → ℕ) → ℕ → (ℕ → ℕ → Type 0) → Result ℕ Leaving → Type 0
Finds next P Pair (Ok target) = NextStates next P Pair target
Finds next P Pair (Err pair) = FirstLeaving next P Pair pair.state pair.input

-- The pair is of a state and an input below 32; its place in rows of this width.
abbrev pub PairBelow : Leaving → Type 0
PairBelow pair = (pair.state < 32) × (pair.input < 32)

abbrev pub place_of : ℕ → Leaving → ℕ
place_of width pair = pair.state * width + pair.input

-- The weight of p, by the sets as they stand.
abbrev pub weight_in : Table → (A p : ℕ) → ℕ
weight_in t A p = weight_of (hold_of t p) t.bound (meets A (delayed_of t p))

-- m is the f i of a member i of the set.
pub record Reaches (set : ℕ) (f : ℕ → ℕ) (m : ℕ) : Type 0 where
  pub at : ℕ
  pub is_in : member set at ≡ true
  pub is : m ≡ f at

-- m is the largest of 0 and the f i of the set's members i.
pub record IsLargest (set : ℕ) (f : ℕ → ℕ) (m : ℕ) : Type 0 where
  pub covers : (i : ℕ) → member set i ≡ true → f i ≤ m
  pub reached : (m ≡ 0) ⊎ Reaches set f m
