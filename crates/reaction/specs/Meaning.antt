-- What each answer means, said by membership and without computing it: docs/RULES.md, "Reaction times", and refusals 9 and 10.
use Rattle.std.specs.Prelude.{◌≡◌, true, false, ◌⊎◌, ℕ, ◌+◌, ◌*◌, ◌<◌, ◌≤◌, Ok, Err}
use Rattle.sets.specs.Sets.{member}
use Rattle.table.specs.declared.Table.{Table}
use Rattle.table.specs.Table.{next_of}
use Rattle.reaction.specs.declared.Refusal.TheVariants as why
use Rattle.reaction.specs.Answer.{ReactionAnswer}
use Rattle.reaction.specs.Reaction.{weight}

-- The set names only members that exist, those below n; it names one that does not.
abbrev pub Known : ℕ → ℕ → Type 0
Known n set = (i : ℕ) → member set i ≡ true → i < n

pub record Unknown (n set : ℕ) : Type 0 where
  pub at : ℕ
  pub is_in : member set at ≡ true
  pub high : n ≤ at

-- p in P and a in A.
abbrev pub Pairs : ℕ → ℕ → ℕ → ℕ → Type 0
Pairs P A p a = (member P p ≡ true) × (member A a ≡ true)

-- q is next(p, a) for one of the pairs.
pub record Comes (next : ℕ → ℕ → ℕ) (Pair : ℕ → ℕ → Type 0) (q : ℕ) : Type 0 where
  pub state : ℕ
  pub input : ℕ
  pub pair : Pair state input
  pub is : next state input ≡ q

-- For these pairs no next(p, a) is outside P, and the target has exactly the members next(p, a).
pub record NextStates (next : ℕ → ℕ → ℕ) (P : ℕ) (Pair : ℕ → ℕ → Type 0) (target : ℕ) : Type 0 where
  pub inside : (p a : ℕ) → Pair p a → member P (next p a) ≡ true
  pub has : (p a : ℕ) → Pair p a → member target (next p a) ≡ true
  pub only : (q : ℕ) → member target q ≡ true → Comes next Pair q

-- A state of P outside the target whose weight gives the time.
pub record Slowest (t : Table) (P A target time : ℕ) : Type 0 where
  pub state : ℕ
  pub is_in : member P state ≡ true
  pub outside : member target state ≡ false
  pub is : time ≡ t.bound + weight t A state

-- The time and the target.
pub record Reaction (t : Table) (P A time target : ℕ) : Type 0 where
  pub states : Known t.states P
  pub inputs : Known t.inputs A
  pub next : NextStates (next_of t) P (Pairs P A) target
  pub covers : (p : ℕ) → member P p ≡ true → member target p ≡ false → t.bound + weight t A p ≤ time
  pub reached : (time ≡ t.bound) ⊎ Slowest t P A target time

-- 10: the smallest p × I + a whose next(p, a) is outside P.
pub record Leaving (t : Table) (P A place : ℕ) : Type 0 where
  pub states : Known t.states P
  pub inputs : Known t.inputs A
  pub state : ℕ
  pub input : ℕ
  pub pair : Pairs P A state input
  pub outside : member P (next_of t state input) ≡ false
  pub is : place ≡ state * t.inputs + input
  pub smallest : (p a : ℕ) → Pairs P A p a → member P (next_of t p a) ≡ false → place ≤ p * t.inputs + a

-- What each answer says of P and A. It is given on a table with holds that passed its check, so that neither of the first refusals comes.
abbrev pub Means : Table → ℕ → ℕ → ReactionAnswer → Type 0
Means t P A (Ok r) = Reaction t P A r.time r.target
Means t P A (Err (why.Table refusal)) = ⊥
Means t P A (Err why.HasTimers) = ⊥
Means t P A (Err why.UnknownState) = Unknown t.states P
Means t P A (Err why.UnknownInput) = Known t.states P × Unknown t.inputs A
Means t P A (Err (why.LeavesStates place)) = Leaving t P A place
