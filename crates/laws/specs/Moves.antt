-- What the calculator for several moves tells, said without computing it; proofs/Moves and proofs/OneMove prove it.
use Rattle.std.specs.Prelude.{◌≡◌, true, List, ◌↔◌, ℕ, zero, suc, ◌+◌, ◌*◌, ◌<◌, ◌≤◌, length, get_or, take, Ok}
use Rattle.wire.specs.Reply.{Reply, gives, refuses}
use Rattle.sets.specs.Sets.{member}
use Rattle.table.specs.declared.Table.{Table}
use Rattle.table.specs.Table.{next_of, WellFormed}
use Rattle.table.specs.Check.{table_answer, table_in}
use Rattle.reaction.specs.Answer as reaction
use Rattle.reaction.specs.Reaction.{weight, react_of}
use Rattle.reaction.specs.Meaning.{Known, Pairs}
use Rattle.moves.specs.declared.Reaction.{Reaction}
use Rattle.moves.specs.Answer as moves
use Rattle.moves.specs.Moves.{moves_of, sums_after, path_after}
use Rattle.laws.specs.Paths.{states_in, Follows, sum_of, Path, LargestFrom, Largest, Worst}

-- q comes of a state of P by so many moves under A.
abbrev pub ComesBy : Table → (P A n q : ℕ) → Type 0
ComesBy t P A zero q = member P q ≡ true
ComesBy t P A (suc n) q = (p : ℕ) × ComesBy t P A n p × Follows t A p q

-- The time, the target, the sums and the path, these as they stand in the slices that were lent. No path has more than n states at all.
pub record Told (t : Table) (P A n : ℕ) (r : Reaction) (sums path : List ℕ) : Type 0 where
  pub table : WellFormed t
  pub no_timers : t.timers ≡ 0
  pub states : Known t.states P
  pub inputs : Known t.inputs A
  pub moves : n ≤ 32
  pub inside : (p a : ℕ) → Pairs P A p a → member P (next_of t p a) ≡ true
  pub target : (q : ℕ) → (member r.target q ≡ true) ↔ ComesBy t P A n q
  pub no_longer : (path : List ℕ) → Path t P A r.target path → length path ≤ n
  pub time : (sum : ℕ) × Largest t P A r.target (weight t A) n sum × (r.time ≡ t.bound + sum)
  pub each_sum : (row q : ℕ) → row < n → q < t.states → LargestFrom t P A r.target (weight t A) (row + 1) q (get_or sums (row * t.states + q) 0)
  pub worst : Worst t P A r.target (weight t A) n (take r.length path)
  pub path_sum : r.time ≡ t.bound + sum_of (weight t A) (states_in (take r.length path))

abbrev pub MovesTold : Type 0
MovesTold =
    (table : List ℕ) (P A n : ℕ) (sums path : List ℕ) (r : Reaction) → moves_of table P A n (length sums) (length path) ≡ Ok r →
    Told (table_in table) P A n r (sums_after table P A n sums (length path)) (path_after table P A n (length sums) path)

-- ---- One move

abbrev pub without_length : Reply → Reply
without_length (gives values) = gives (take 2 values)
without_length (refuses number place) = refuses number place

-- With room for a row of sums, one for each state of a table that passes, and for one byte, what is replied for one move is, but for the
-- length of the path, what the calculator of one move replies: the same time and target, or a refusal with the same number and place.
abbrev pub OneMove : Type 0
OneMove = (table : List ℕ) (P A sums path : ℕ) → (table_answer table ≡ Ok tt → (table_in table).states ≤ sums) → 1 ≤ path →
    without_length (moves.reply_of (moves_of table P A 1 sums path)) ≡ reaction.reply_of (react_of table P A)
