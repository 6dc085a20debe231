-- What a calculated time has to cover so that no reaction is too late, in a table without timers. A set of states or of inputs is a test.
use Rattle.std.specs.Prelude.{◌≡◌, Bool, true, false, ℕ, ◌+◌, ◌-◌, ◌*◌, ◌<◌, ◌≤◌}
use Rattle.table.specs.declared.Table.{Table}
use Rattle.table.specs.Table.{hold_of, delays, next_of, region_of}

-- No timer holds in any state: every region is empty.
abbrev pub NoRegions : Table → Type 0
NoRegions t = (k : ℕ) → region_of t k ≡ 0

-- Weights that are large enough: E in every state, and hold + 2E - 1 where an input of A is delayed. Those of the calculator are.
pub record Weights (t : Table) (A : ℕ → Bool) (w : ℕ → ℕ) : Type 0 where
  pub plain : (q : ℕ) → t.bound ≤ w q
  pub delayed : (q a : ℕ) → A a ≡ true → 0 < hold_of t q → delays t q a ≡ true → hold_of t q + 2 * t.bound ≤ w q + 1

-- From state q, whatever inputs of A are polled, N is reached before the weights of the states on the way come to more than r.
pub data Reach (t : Table) (A N : ℕ → Bool) (w : ℕ → ℕ) : ℕ → ℕ → Type 0 where
  there : {r q : ℕ} → N q ≡ true → Reach t A N w r q
  via : (r q rest : ℕ) → w q + rest ≤ r → ((a : ℕ) → A a ≡ true → Reach t A N w rest (next_of t q a)) → Reach t A N w r q

-- The time c suffices, by any number of moves: N is not left again, and is reached from P with weights of at most c + 1 - E.
pub record Suffices (t : Table) (P A N : ℕ → Bool) (w : ℕ → ℕ) (c : ℕ) : Type 0 where
  pub no_regions : NoRegions t
  pub bound_positive : 1 ≤ t.bound
  pub weights : Weights t A w
  pub stays : (q a : ℕ) → N q ≡ true → A a ≡ true → N (next_of t q a) ≡ true
  pub reaches : (p : ℕ) → P p ≡ true → Reach t A N w (c + 1 - t.bound) p
  pub covers_bound : t.bound ≤ c

-- One move, as the calculators have it: N holds every next(p, a) and nothing outside P, and c is at least E, and at least E + the weight of
-- each state in P outside N, less 1.
pub record SufficesByOne (t : Table) (P A N : ℕ → Bool) (w : ℕ → ℕ) (c : ℕ) : Type 0 where
  pub no_regions : NoRegions t
  pub bound_positive : 1 ≤ t.bound
  pub weights : Weights t A w
  pub has : (p a : ℕ) → P p ≡ true → A a ≡ true → N (next_of t p a) ≡ true
  pub inside : (q : ℕ) → N q ≡ true → P q ≡ true
  pub covers_bound : t.bound ≤ c
  pub covers : (p : ℕ) → P p ≡ true → N p ≡ false → t.bound + w p ≤ c + 1
