-- The sums are the largest of paths, and the path that is written is a worst one, as specs/Paths states it.
use mathlib.Core.Path.{◌≡◌, refl, sym, ◌∙◌}
use mathlib.Core.Bool.{Bool, true, false}
use mathlib.Core.List.{List, [], ◌∷◌}
use Prim.Native.Nat.{ℕ, zero, suc, ◌-◌, ◌*◌, ◌<◌, ◌≤◌}
use native.Mathlib.Nat.{le_antisymm}
use native.Mathlib.Omega.{arith}
use borrow.Author.Tests.{eqb-true, eqb-false}
use lib.ListN.{length, get_or}
use Rattle.std.specs.Prelude.{if◌then◌else◌}
use Rattle.wire.specs.Choice.{◌=?◌}
use Rattle.wire.proofs.Apart.{apart}
use Rattle.sets.specs.Sets.{member}
use Rattle.sets.proofs.Members.{largest_covers}
use Rattle.table.specs.declared.Table.{Table}
use Rattle.table.specs.Table.{next_of, WellFormed}
use Rattle.reaction.specs.Meaning.{Known}
use Rattle.reaction.proofs.Meaning.{AllExist}
use Rattle.reaction.specs.Reaction.{off_target}
use Rattle.moves.specs.Moves.{ahead, most_ahead, worst_input, sums_of, path_from, largest_sum, worst_start, worst_path}
use Rattle.laws.specs.Paths.{states_in, Begins, sum_of, OnPath, Follows, Path, PathOf, LargestFrom, Largest, ByTurns, SmallestInputs, Worst}
use Rattle.laws.specs.Paths.{SumsAreLargest, LargestOfAll, WrittenIsWorst}
use Rattle.moves.proofs.Smallest.{IsWorst, worst_found}
use Rattle.laws.proofs.Rounds.{exists, next_exists, tested, passed, before, on_path, off_path, has_sum, ahead_most, none_ahead}

begins_states : {row : List ℕ} {q : ℕ} → Begins row q → Begins (states_in row) q
begins_states {row} {q} b = rw b.1 (go b.0)
  where
    go : (rest : List ℕ) → Begins (states_in (q ∷ rest)) q
    go [] = ([], refl)
    go (a ∷ rest) = (states_in rest, refl)

module _ {t : Table} {P A : ℕ} (all : AllExist t P A) (N : ℕ) (w : ℕ → ℕ) (positive : (q : ℕ) → 0 < w q) where
  -- ---- Paths, state by state

  path_on : {q p : ℕ} {path : List ℕ} → OnPath P N q → Follows t A q p → Begins path p → Path t P A N path → Path t P A N (q ∷ path)
  path_on on follows b is = rw b.1 (on, follows, rw b.1 at is)

  first_on : {q : ℕ} {path : List ℕ} → Begins path q → Path t P A N path → OnPath P N q
  first_on {q} b is = go b.0 (rw b.1 at is)
    where
      go : (rest : List ℕ) → Path t P A N (q ∷ rest) → OnPath P N q
      go [] on = on
      go (p ∷ rest) is = is.0

  -- ---- No path has a larger sum

  none_larger : (k q : ℕ) (rest : List ℕ) → PathOf t P A N k (q ∷ rest) → sum_of w (q ∷ rest) ≤ get_or (sums_of t P A N w k) q 0
  unfolding sum_of
  none_larger zero q rest is = absurd (let z : ⊥ = omega (arith, is.1) in z)
  none_larger (suc k) q [] is = rw (on_path all N w k q is.0) (omega arith)
  none_larger (suc k) q (p ∷ rest) is =
      let on = is.0.0 in
      let follows = is.0.1 in
      let l = none_larger k p rest (is.0.2, omega (arith, is.1)) in
      let m = rw follows.is at (ahead_most all N w k q follows.input follows.is_in) in
      rw (on_path all N w k q on) (omega arith)

  bounded : (k q : ℕ) (path : List ℕ) → Begins path q → PathOf t P A N k path → sum_of w path ≤ get_or (sums_of t P A N w k) q 0
  bounded k q path b is = rw b.1 (none_larger k q b.0 (rw b.1 at is))

  -- ---- What is written from a state on

  record From (k q : ℕ) (row : List ℕ) : Type 0 where
    begins : Begins row q
    by_turns : ByTurns t A row
    is_path : PathOf t P A N (suc k) (states_in row)
    sum : sum_of w (states_in row) ≡ get_or (sums_of t P A N w (suc k)) q 0
    inputs : SmallestInputs t P A N w (suc k) row
    bytes : length row ≡ 2 * length (states_in row) - 1

  stops : (k q : ℕ) → OnPath P N q → most_ahead t P A N (sums_of t P A N w k) q ≡ 0 → From k q (q ∷ [])
  unfolding sum_of
  stops k q on none = record {
    begins = ([], refl);
    by_turns = tt;
    is_path = (on, omega arith);
    sum = rw (on_path all N w k q on) (omega arith);
    inputs = tt;
    bytes = refl;
  }

  module _ (k q : ℕ) (on : OnPath P N q) (a : ℕ) (worst : IsWorst t.inputs (member A) (ahead t P A N (sums_of t P A N w (suc k)) q) a) where
    keeps : {rest : List ℕ} → From k (next_of t q a) rest → (b : ℕ) → member A b ≡ true → (path : List ℕ) → Begins path (next_of t q b) →
        PathOf t P A N (suc k) path → sum_of w path ≡ sum_of w (states_in rest) → a ≤ b
    keeps from b m path begins is same =
        let l = bounded (suc k) (next_of t q b) path begins is in
        let u = ahead_most all N w (suc k) q b m in
        worst.smallest b m (le_antisymm u (omega (arith, from.sum, worst.is)))

    goes_on : {rest : List ℕ} → From k (next_of t q a) rest → From (suc k) q (q ∷ a ∷ rest)
    unfolding sum_of
    goes_on {rest} from =
        let follows : Follows t A q (next_of t q a) = record { input = a; is_in = worst.passes; is = refl } in
        let states = begins_states from.begins in
        let some : 1 ≤ length (states_in rest) = rw states.1 (omega arith) in
        let fewer : suc (suc k) - 1 ≡ suc k = omega arith in
        record {
          begins = (a ∷ rest, refl);
          by_turns = (worst.passes, from.begins, from.by_turns);
          is_path = (path_on on follows states from.is_path.0, omega (arith, from.is_path.1));
          sum = rw (on_path all N w (suc k) q on, from.sum, worst.is);
          inputs = rw fewer (keeps from, from.inputs);
          bytes = omega (arith, from.bytes);
        }

  path_from_lem : (k q : ℕ) → OnPath P N q → From k q (path_from t P A N w k q)
  unfolding path_from
  path_from_lem zero q on = stops zero q on (none_ahead all N w q (exists all N on))
  path_from_lem (suc k) q on = go (most_ahead t P A N (sums_of t P A N w (suc k)) q =? 0) refl (path_from_lem k)
    where
      go : (b : Bool) → (most_ahead t P A N (sums_of t P A N w (suc k)) q =? 0) ≡ b → ((p : ℕ) → OnPath P N p → From k p (path_from t P A N w k p)) →
          From (suc k) q
          (if b then q ∷ []
          else q ∷ worst_input t P A N (sums_of t P A N w (suc k)) q ∷ path_from t P A N w k (next_of t q (worst_input t P A N (sums_of t P A N w (suc k)) q)))
      go true e r = stops (suc k) q on (eqb-true _ 0 e)
      go false e r =
          let a = worst_input t P A N (sums_of t P A N w (suc k)) q in
          let some = eqb-false (most_ahead t P A N (sums_of t P A N w (suc k)) q) 0 e in
          let worst = worst_found t.inputs (member A) (ahead t P A N (sums_of t P A N w (suc k)) q) (omega arith) in
          let p_on = has_sum all N w (suc k) (next_of t q a) (next_exists all N q a (exists all N on) worst.passes) (omega (arith, worst.is)) in
          goes_on k q on a worst (r (next_of t q a) p_on)

  sums_largest : (k q : ℕ) → q < t.states → LargestFrom t P A N w k q (get_or (sums_of t P A N w k) q 0)
  sums_largest k q l = record {
    none_larger = bounded k q;
    some = some k;
    otherwise = λ off. go off (off_target P N q) refl;
  }
    where
      some : (k : ℕ) → 0 < k → OnPath P N q →
          (path : List ℕ) × Begins path q × PathOf t P A N k path × (sum_of w path ≡ get_or (sums_of t P A N w k) q 0)
      some zero h on = absurd (let z : ⊥ = omega arith in z)
      some (suc k) h on =
          let from = path_from_lem k q on in
          (states_in (path_from t P A N w k q), begins_states from.begins, from.is_path, from.sum)

      go : (OnPath P N q → ⊥) → (b : Bool) → off_target P N q ≡ b → get_or (sums_of t P A N w k) q 0 ≡ 0
      go off true e = absurd (off (passed all N q e))
      go off false e = off_path all N w k q l e

  -- ---- Of all paths

  pub at_most : (n q : ℕ) → OnPath P N q → get_or (sums_of t P A N w n) q 0 ≤ largest_sum t P A N w n
  unfolding largest_sum
  at_most n q on = largest_covers t.states (off_target P N) (λ q. get_or (sums_of t P A N w n) q 0) q (exists all N on) (tested all N on)

  covered : (n : ℕ) (path : List ℕ) → PathOf t P A N n path → sum_of w path ≤ largest_sum t P A N w n
  unfolding sum_of
  covered n [] is = omega arith
  covered n (q ∷ rest) is =
      let begins : Begins (q ∷ rest) q = (rest, refl) in
      omega (arith, bounded n q (q ∷ rest) begins is, at_most n q (first_on begins is.0))

  pub only_empty : (path : List ℕ) → sum_of w path ≡ 0 → path ≡ []
  unfolding sum_of
  only_empty [] e = refl
  only_empty (q ∷ rest) e = absurd (let z : ⊥ = omega (arith, positive q) in z)

  has_largest : (n : ℕ) (row : List ℕ) → sum_of w (states_in row) ≡ largest_sum t P A N w n → PathOf t P A N n (states_in row) →
      Largest t P A N w n (sum_of w (states_in row))
  has_largest n row sum is = record { none_larger = λ path p. rw sum (covered n path p); some = (states_in row, is, refl) }

  abbrev Written : ℕ → List ℕ → Type 0
  Written n row = Worst t P A N w n row × (sum_of w (states_in row) ≡ largest_sum t P A N w n)

  nothing : (n : ℕ) → largest_sum t P A N w n ≡ 0 → Written n []
  unfolding sum_of
  nothing n none = (
    record {
      by_turns = tt;
      is_path = (tt, omega arith);
      largest = has_largest n [] (sym none) (tt, omega arith);
      smallest_state = λ q p path begins. apart (cc begins.1);
      smallest_inputs = tt;
      bytes = refl;
      short = omega arith;
      none = (λ _ path is. omega (arith, covered n path is), λ _. refl);
      no_path = λ _ path is. only_empty path (omega (arith, covered n path is));
    },
    sym none,
  )

  module _ (k q : ℕ) (worst : IsWorst t.states (off_target P N) (λ q. get_or (sums_of t P A N w (suc k)) q 0) q)
      (some : 0 < largest_sum t P A N w (suc k)) {row : List ℕ} (from : From k q row) where
    whole : sum_of w (states_in row) ≡ largest_sum t P A N w (suc k)
    unfolding largest_sum
    whole = from.sum ∙ worst.is

    first : (q' p : ℕ) (path : List ℕ) → Begins row q' → Begins path p → PathOf t P A N (suc k) path →
        sum_of w path ≡ sum_of w (states_in row) → q' ≤ p
    unfolding largest_sum
    first q' p path begins path_begins is same =
        let e : q' ≡ q = cc (begins.1, from.begins.1) in
        let on = first_on path_begins is.0 in
        let l = bounded (suc k) p path path_begins is in
        let u = at_most (suc k) p on in
        rw e (worst.smallest p (tested all N on) (le_antisymm u (omega (arith, whole))))

    something : Written (suc k) row
    something = (
      record {
        by_turns = from.by_turns;
        is_path = from.is_path;
        largest = has_largest (suc k) row whole from.is_path;
        smallest_state = first;
        smallest_inputs = from.inputs;
        bytes = from.bytes;
        short = omega (arith, from.bytes, from.is_path.1);
        none = (
          λ empty. apart (cc (empty, from.begins.1)),
          λ all_zero. absurd (let z : ⊥ = omega (arith, whole, all_zero (states_in row) from.is_path) in z),
        );
        no_path = λ empty. apart (cc (empty, from.begins.1));
      },
      whole,
    )

  from_worst : (n : ℕ) → 0 < largest_sum t P A N w n → Written n (path_from t P A N w (n - 1) (worst_start t P A N w n))
  unfolding largest_sum worst_start
  from_worst zero some =
      let worst = worst_found t.states (off_target P N) (λ q. get_or (sums_of t P A N w 0) q 0) some in
      absurd (let z : ⊥ = omega (arith, worst.is, before all N w _ worst.below) in z)
  from_worst (suc k) some =
      let worst = worst_found t.states (off_target P N) (λ q. get_or (sums_of t P A N w (suc k)) q 0) some in
      let follow : suc k - 1 ≡ k = omega arith in
      rw follow (something k _ worst some (path_from_lem k _ (passed all N _ worst.passes)))

  is_written : (n : ℕ) → Written n (worst_path t P A N w n)
  unfolding worst_path
  is_written n = go (largest_sum t P A N w n =? 0) refl
    where
      go : (b : Bool) → (largest_sum t P A N w n =? 0) ≡ b → Written n (if b then [] else path_from t P A N w (n - 1) (worst_start t P A N w n))
      go true e = nothing n (eqb-true _ 0 e)
      go false e = from_worst n (let m = eqb-false (largest_sum t P A N w n) 0 e in omega arith)

  largest_of_all : (n : ℕ) → Largest t P A N w n (largest_sum t P A N w n)
  largest_of_all n = let written = is_written n in rw written.1 at written.0.largest

-- ---- The theorems

abbrev known : {t : Table} {P A : ℕ} → WellFormed t → Known t.states P → Known t.inputs A → AllExist t P A
known table states inputs = record { table = table; states = states; inputs = inputs }

pub sums_are_largest : SumsAreLargest
sums_are_largest t table P A N w positive states inputs = sums_largest (known table states inputs) N w positive

pub largest_is_of_all : LargestOfAll
largest_is_of_all t table P A N w positive states inputs = largest_of_all (known table states inputs) N w positive

pub written_is_worst : WrittenIsWorst
written_is_worst t table P A N w positive states inputs = is_written (known table states inputs) N w positive
