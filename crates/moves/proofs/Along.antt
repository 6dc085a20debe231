-- The path along rows, step by step, and how it stands in a buffer.
use mathlib.Core.Path.{◌≡◌, refl, sym, ap, ◌∙◌}
use mathlib.Core.Bool.{Bool, true, false}
use mathlib.Core.List.{List, [], ◌∷◌}
use Prim.Native.Nat.{ℕ, zero, suc, ◌+◌, ◌-◌, ◌*◌, ◌<◌, ◌≤◌}
use native.Mathlib.Nat.{suc-mul, zero-add}
use native.Mathlib.Omega.{arith}
use borrow.Author.Tests.{eq-eqb, ne_eqb}
use lib.ListN.{length, set}
use lib.Seq.{sets-eq}
use Rattle.std.specs.Prelude.{if◌then◌else◌}
use Rattle.wire.specs.Choice.{◌=?◌}
use Rattle.wire.specs.Encode.{placed_in}
use Rattle.wire.proofs.Placed.{placed_after}
use Rattle.sets.specs.Sets.{member, largest}
use Rattle.table.specs.declared.Table.{Table}
use Rattle.table.specs.Table.{WellFormed, next_of}
use Rattle.table.specs.Check.{table_in}
use Rattle.table.proofs.WellFormed.{well_formed}
use Rattle.reaction.specs.declared.question.Question.{Question}
use Rattle.moves.specs.Moves.{worst}
use Rattle.moves.specs.Walks.{Way, way_of, WorstMember, ahead_stored, path_along, path_after_input, whole_path_along}
use Rattle.moves.proofs.Worsts.{is_largest, is_worst}

-- What a path of a question goes along.
module _ (question : Question) where
  abbrev pub table_of : Table
  table_of = table_in question.held.table.bytes.now

  good : WellFormed table_of
  good = well_formed _ question.held.table.passes

  pub few_states : question.held.layout.states ≤ 32
  few_states = omega (arith, question.held.laid.states, good.states)

  pub few_inputs : question.held.layout.inputs ≤ 32
  few_inputs = omega (arith, question.held.laid.inputs, good.inputs)

  -- A state is one of the table's, and an input one of the question's.
  pub real : (q : ℕ) → q < question.held.layout.states → q < table_of.states
  real q low = omega (arith, question.held.laid.states)

  pub known_inputs : (a : ℕ) → member question.inputs a ≡ true → a < question.held.layout.inputs
  known_inputs a m = omega (arith, question.inputs_known a m, question.held.laid.inputs)

  -- A next state is one of the way's.
  pub goes_to : (q a : ℕ) → q < question.held.layout.states → member question.inputs a ≡ true → next_of table_of q a < question.held.layout.states
  goes_to q a low m = omega (arith, question.held.laid.states, good.next q a (real q low) (question.inputs_known a m))

module _ (question : Question) (sums : List ℕ) (q : ℕ) where
  abbrev way : Way
  way = way_of question

  abbrev next : ℕ → ℕ → ℕ
  next = next_of (table_of question)

  pub none_left : (left : ℕ) → left ≡ 0 → q ∷ [] ≡ path_along next way sums left q
  unfolding path_along
  none_left left e = rw e

  module _ (left : ℕ) (some : 0 < left) {sum at : ℕ} (found : WorstMember way.inputs (ahead_stored next way sums ((left - 1) * way.states) q) sum at) where
    abbrev ahead : ℕ → ℕ
    ahead = ahead_stored next way sums ((left - 1) * way.states) q

    step : path_along next way sums left q ≡
        (if largest way.width (member way.inputs) ahead =? 0 then q ∷ []
        else q ∷ path_after_input next way sums left q (worst way.width (member way.inputs) ahead))
    unfolding path_along
    step = let e : left ≡ suc (left - 1) = omega arith in ap (λ k. path_along next way sums k q) e

    pub none_ahead : sum ≡ 0 → q ∷ [] ≡ path_along next way sums left q
    none_ahead e = sym (step ∙ rw (eq-eqb (largest way.width (member way.inputs) ahead) 0 (sym (is_largest (known_inputs question) found) ∙ e)))

    pub goes_on : (sum ≡ 0 → ⊥) → q ∷ path_after_input next way sums left q at ≡ path_along next way sums left q
    goes_on other =
        let l = is_largest (known_inputs question) found in
        let w = is_worst (known_inputs question) found (omega arith) in
        sym (step ∙ rw (ne_eqb (largest way.width (member way.inputs) ahead) 0 (λ z. other (l ∙ z)), ← w))

pub path_length : (next : ℕ → ℕ → ℕ) (way : Way) (sums : List ℕ) (left q : ℕ) → length (path_along next way sums left q) ≤ left + left + 1
unfolding path_along
path_length next way sums zero q = omega arith
path_length next way sums (suc k) q = go (largest way.width (member way.inputs) (ahead_stored next way sums (k * way.states) q) =? 0) (path_length next way sums k)
  where
    go : (b : Bool) → ((p : ℕ) → length (path_along next way sums k p) ≤ k + k + 1) →
        length (if b then q ∷ [] else q ∷ worst way.width (member way.inputs) (ahead_stored next way sums (k * way.states) q) ∷ path_along next way sums k (next q (worst way.width (member way.inputs) (ahead_stored next way sums (k * way.states) q)))) ≤
        suc k + suc k + 1
    go true r = omega arith
    go false r = omega (arith, r (next q (worst way.width (member way.inputs) (ahead_stored next way sums (k * way.states) q))))

-- ---- In a buffer

module _ (l : List ℕ) (at v : ℕ) where
  put : at < length l → set l at v ≡ placed_in l at (v ∷ [])
  put room = sets-eq (v ∷ []) l at (omega arith)

  pub put_last : at < length l → {path : List ℕ} → v ∷ [] ≡ path → (at + 1 ≡ at + length path) × (set l at v ≡ placed_in l at path)
  put_last room e = rw (← e) (refl, put room)

  pub put_first : {rest path : List ℕ} → v ∷ rest ≡ path → at + 1 + length rest ≤ length l →
      {end : ℕ} {new : List ℕ} → end ≡ at + 1 + length rest → new ≡ placed_in (set l at v) (at + 1) rest → (end ≡ at + length path) × (new ≡ placed_in l at path)
  put_first {rest} e room is holds =
      rw (← e) (is ∙ omega arith, holds ∙ ap (λ m. placed_in m (at + 1) rest) (put (omega arith)) ∙ placed_after l at (v ∷ []) rest (omega arith))

pub one_row_less : (left Q : ℕ) → 0 < left → left * Q ≡ (left - 1) * Q + Q
one_row_less left Q some = let e : left ≡ suc (left - 1) = omega arith in ap (λ n. n * Q) e ∙ suc-mul (left - 1) Q

-- ---- The whole path

module _ (next : ℕ → ℕ → ℕ) (way : Way) (sums : List ℕ) (follow sum q : ℕ) where
  pub no_path : (l : List ℕ) → sum ≡ 0 →
      (0 ≡ length (whole_path_along next way sums follow sum q)) × (l ≡ placed_in l 0 (whole_path_along next way sums follow sum q))
  unfolding whole_path_along
  no_path l e = rw (eq-eqb sum 0 e) (refl, refl)

  pub whole_path : (sum ≡ 0 → ⊥) → (l : List ℕ) {new : List ℕ} {end : ℕ} →
      end ≡ 0 + length (path_along next way sums follow q) → new ≡ placed_in l 0 (path_along next way sums follow q) →
      (end ≡ length (whole_path_along next way sums follow sum q)) × (new ≡ placed_in l 0 (whole_path_along next way sums follow sum q))
  unfolding whole_path_along
  whole_path other l is holds = rw (ne_eqb sum 0 other) (is ∙ zero-add (length (path_along next way sums follow q)), holds)
