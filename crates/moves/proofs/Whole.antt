-- What the inner functions find, over arrays and slices, is what the definitions say of a table.
use mathlib.Core.Path.{◌≡◌, refl, sym, ap, ◌∙◌}
use mathlib.Core.Bool.{Bool, true, false}
use mathlib.Core.List.{List, [], ◌∷◌, ◌++◌, append_assoc, append-nil}
use mathlib.Core.Logic.{◌⊎◌, inl, inr}
use Prim.Native.Nat.{ℕ, zero, suc, ◌+◌, ◌-◌, ◌*◌, ◌<◌, ◌≤◌}
use native.Mathlib.Nat.{le_antisymm, mul-le-mul_right, zero-mul, suc-mul, add-zero, zero-add, add-suc}
use native.Mathlib.Numerals.{add-one}
use native.Mathlib.Omega.{arith}
use borrow.Author.Tests.{ne_eqb, eqb-true, eqb-false}
use lib.Arith.{digits_div, digits_mod, digits_lt, le-zero}
use lib.ListN.{length, get_or, drop, get_or-append}
use Rattle.std.specs.Prelude.{if◌then◌else◌}
use Rattle.wire.specs.Choice.{◌=?◌, ◌and◌}
use Rattle.wire.specs.Encode.{placed_in}
use Rattle.wire.proofs.Choice.{never, both}
use Rattle.sets.specs.Sets.{member, some, largest, Difference}
use Rattle.sets.proofs.Bits.{none_in_empty}
use Rattle.sets.proofs.Members.{largest_covers, largest_reached, Reaching}
use Rattle.table.specs.declared.Table.{Table}
use Rattle.table.specs.Table.{next_of, hold_of, delays}
use Rattle.table.specs.Entries.{values}
use Rattle.table.proofs.Values.{get_or-values, get_or-zeros}
use Rattle.reaction.specs.Reaction.{first_from, off_target, weight}
use Rattle.reaction.proofs.Meaning.{AllExist}
use Rattle.reaction.proofs.Findings.{same_weight, weight_at_most, weight_at_least}
use Rattle.moves.specs.Moves.{next_times, worst, round, sums_of, rows, path_from, largest_sum, worst_start, worst_path, reaction_over, sums_over, path_over}
use Rattle.moves.specs.Walks.{Way, ImagesAmong, HasImages, HasWeights, WorstMember, ahead_stored, round_stored, row_stored, sum_stored, path_along, whole_path_along, heaviest}
use Rattle.moves.proofs.Rows.{same_largest, largest_at_most, row_at_most}
use Rattle.moves.proofs.Worsts.{is_largest, is_worst, worst_in}
use Rattle.moves.proofs.Smallest.{worst_found}
use Rattle.moves.proofs.AllRows.{length-rows, row_at}

-- ---- Lists and numbers that agree place by place

same_values : {f g : ℕ → ℕ} (n : ℕ) → ((k : ℕ) → k < n → f k ≡ g k) → values f n ≡ values g n
unfolding values
same_values zero each = refl
same_values (suc n) each = rw (same_values n (λ k h. each k (omega arith)), each n (omega arith))

no_values : (f : ℕ → ℕ) {n : ℕ} → n ≡ 0 → values f n ≡ []
unfolding values
no_values f e = rw e

more_values : (f : ℕ → ℕ) (m n : ℕ) → values f (m + n) ≡ values f m ++ values (λ k. f (m + k)) n
unfolding values
more_values f m zero = rw (add-zero m) (sym (append-nil (values f m)))
more_values f m (suc n) = rw (add-suc m n, more_values f m n) (append_assoc (values f m) (values (λ k. f (m + k)) n) (f (m + n) ∷ []))

same_first : {test other : ℕ → Bool} → ((i : ℕ) → test i ≡ other i) → (n i : ℕ) → first_from test n i ≡ first_from other n i
unfolding first_from
same_first each zero i = refl
same_first each (suc n) i = rw (each i, same_first each n (i + 1))

same_tests : {test other : ℕ → Bool} → ((i : ℕ) → test i ≡ other i) → (n : ℕ) (f : ℕ → ℕ) → largest n test f ≡ largest n other f
unfolding largest
same_tests each zero f = refl
same_tests each (suc n) f = rw (each n, same_tests each n f)

same_worst : {test other : ℕ → Bool} {f g : ℕ → ℕ} → ((i : ℕ) → test i ≡ other i) → ((i : ℕ) → other i ≡ true → f i ≡ g i) → (n : ℕ) →
    (largest n test f ≡ largest n other g) × (worst n test f ≡ worst n other g)
unfolding worst
same_worst {test} {other} {f} {g} tests each n = (most, same_first (λ i. rw (tests i) (go i (other i) refl)) n 0)
  where
    most : largest n test f ≡ largest n other g
    most = same_tests tests n f ∙ same_largest n other f g each

    go : (i : ℕ) → (b : Bool) → other i ≡ b → (b and (f i =? largest n test f)) ≡ (b and (g i =? largest n other g))
    go i false e = refl
    go i true e = rw (each i e, most)

-- ---- The rows

module _ {t : Table} {P A : ℕ} (all : AllExist t P A) {images : List ℕ} (of : HasImages (next_of t) P A images) where
  -- An image has no members but states.
  pub among : ImagesAmong images t.states
  among = record { states = all.table.states; below = λ q p low m. go q p low m (member P q) refl }
    where
      go : (q p : ℕ) → q < t.states → member (get_or images q 0) p ≡ true → (b : Bool) → member P q ≡ b → p < t.states
      go q p low m true h =
          let c = (of.each q h).only p m in
          omega (arith, c.is, all.table.next c.state c.input (omega (arith, c.pair.0)) (all.inputs c.input c.pair.1))
      go q p low m false h = never (sym (none_in_empty p) ∙ rw (of.others q h) at m)

  -- The largest over its image is the largest over the inputs.
  same_most : (f : ℕ → ℕ) (q : ℕ) → member P q ≡ true → largest t.states (member (get_or images q 0)) f ≡ largest t.inputs (member A) (λ a. f (next_of t q a))
  same_most f q h = le_antisymm (go (largest_reached t.states (member (get_or images q 0)) f)) (back (largest_reached t.inputs (member A) (λ a. f (next_of t q a))))
    where
      go : {x : ℕ} → (x ≡ 0) ⊎ Reaching t.states (member (get_or images q 0)) f x → x ≤ largest t.inputs (member A) (λ a. f (next_of t q a))
      go (inl z) = omega arith
      go (inr r) =
          let c = (of.each q h).only r.at r.passes in
          let to : next_of t q c.input ≡ r.at = rw c.pair.0 at c.is in
          rw (r.is, ← to) (largest_covers t.inputs (member A) (λ a. f (next_of t q a)) c.input (all.inputs c.input c.pair.1) c.pair.1)

      back : {x : ℕ} → (x ≡ 0) ⊎ Reaching t.inputs (member A) (λ a. f (next_of t q a)) x → x ≤ largest t.states (member (get_or images q 0)) f
      back (inl z) = omega arith
      back (inr r) =
          let in_image = (of.each q h).has q r.at (refl, r.passes) in
          rw r.is (largest_covers t.states (member (get_or images q 0)) f (next_of t q r.at) (all.table.next q r.at (all.states q h) (all.inputs r.at r.passes)) in_image)

module _ {t : Table} {P A : ℕ} (all : AllExist t P A) {images : List ℕ} (of : HasImages (next_of t) P A images)
    (N outside : ℕ) (rest : Difference P N outside) (weights : List ℕ) (weighs : HasWeights t outside A weights) where
  abbrev weigh : ℕ → ℕ
  weigh q = get_or weights q 0

  weighed : (q : ℕ) → weigh q ≡ (if off_target P N q then weight t A q else 0)
  weighed q = go (member outside q) refl
    where
      go : (b : Bool) → member outside q ≡ b → weigh q ≡ (if off_target P N q then weight t A q else 0)
      go true m = rw (sym (rest q) ∙ m) (weighs.each q m ∙ same_weight all q)
      go false m = rw (sym (rest q) ∙ m) (weighs.others q m)

  abbrev delayed : ℕ → Bool
  delayed q = some t.inputs (λ a. member A a and delays t q a)

  some_weight : (q : ℕ) → 1 ≤ weight t A q
  some_weight q = omega (arith, all.table.bound, weight_at_least (hold_of t q) t.bound (delayed q))

  pub light : (q : ℕ) → weigh q ≤ heaviest
  light q = rw (weighed q) (go (off_target P N q) refl)
    where
      go : (b : Bool) → off_target P N q ≡ b → (if b then weight t A q else 0) ≤ heaviest
      go true e =
          let hold = all.table.hold q (all.states q (both (member P q) _ e).0) in
          omega (arith, weight_at_most (hold_of t q) t.bound (delayed q), hold, all.table.bound)
      go false e = omega arith

  rounds_agree : (row : List ℕ) → round_stored images t.states weigh row ≡ round t P A N (weight t A) row
  unfolding round_stored round
  rounds_agree row = same_values t.states (λ q h. rw (weighed q) (go q (off_target P N q) refl (some_weight q)))
    where
      go : (q : ℕ) → (b : Bool) → off_target P N q ≡ b → 1 ≤ weight t A q →
          (if (if b then weight t A q else 0) =? 0 then 0 else (if b then weight t A q else 0) + largest t.states (member (get_or images q 0)) (λ p. get_or row p 0)) ≡
          (if b then weight t A q + largest t.inputs (member A) (λ a. get_or row (next_of t q a) 0) else 0)
      go q true e l =
          rw (ne_eqb (weight t A q) 0 (λ z. omega arith))
          (ap (λ m. weight t A q + m) (same_most all of (λ p. get_or row p 0) q (both (member P q) _ e).0))
      go q false e l = refl

  pub rows_agree : (k : ℕ) → row_stored images t.states weigh k ≡ sums_of t P A N (weight t A) k
  unfolding row_stored sums_of
  rows_agree zero = refl
  rows_agree (suc k) = rounds_agree (row_stored images t.states weigh k) ∙ ap (round t P A N (weight t A)) (rows_agree k)

  place_agrees : (r q : ℕ) → q < t.states → sum_stored images t.states weigh (r * t.states + q) ≡ get_or (sums_of t P A N (weight t A) (suc r)) q 0
  place_agrees r q low = rw (digits_div r low, digits_mod r low, add-one r, rows_agree (suc r))

  -- A row is the list of its numbers.
  row_listed : (n : ℕ) → sums_of t P A N (weight t A) (suc n) ≡ values (λ q. get_or (sums_of t P A N (weight t A) (suc n)) q 0) t.states
  unfolding sums_of round
  row_listed n =
      same_values t.states
      (λ q low. sym (get_or-values (λ q. if off_target P N q then weight t A q + largest t.inputs (member A) (λ a. get_or (sums_of t P A N (weight t A) n) (next_of t q a) 0) else 0) t.states q low))

  pub all_rows : (n : ℕ) → values (sum_stored images t.states weigh) (n * t.states) ≡ rows t P A N (weight t A) n
  unfolding rows
  all_rows zero = no_values (sum_stored images t.states weigh) (zero-mul t.states)
  all_rows (suc n) =
      let row : values (λ q. sum_stored images t.states weigh (n * t.states + q)) t.states ≡ sums_of t P A N (weight t A) (suc n) =
      same_values t.states (place_agrees n) ∙ sym (row_listed n)
      in
      ap (values (sum_stored images t.states weigh)) (suc-mul n t.states)
      ∙ more_values (sum_stored images t.states weigh) (n * t.states) t.states
      ∙ rw (all_rows n, row)

  sums_light : (k q : ℕ) → q < t.states → get_or (sums_of t P A N (weight t A) k) q 0 ≤ k * heaviest
  sums_light k q low = rw (← rows_agree k) (row_at_most (among all of) weigh light k q low)

  pub largest_light : (n : ℕ) → n ≤ 32 → largest_sum t P A N (weight t A) n ≤ 32 * heaviest
  unfolding largest_sum
  largest_light n few =
      let m : n * heaviest ≤ 32 * heaviest = mul-le-mul_right heaviest few in
      let l = largest_at_most t.states (off_target P N) (λ q. get_or (sums_of t P A N (weight t A) n) q 0) (n * heaviest)
      (λ q on. sums_light n q (all.states q (both (member P q) _ on).0)) in
      omega arith

-- ---- The path

module _ {t : Table} {P A : ℕ} (all : AllExist t P A) (N n : ℕ) (after : List ℕ) where
  abbrev way : Way
  way = record { width = t.inputs; inputs = A; states = t.states }

  -- The slice has the rows in front.
  module _ (behind : List ℕ) (holds : after ≡ rows t P A N (weight t A) n ++ behind) where
    place_has : (r q : ℕ) → r < n → q < t.states → get_or after (r * t.states + q) 0 ≡ get_or (sums_of t P A N (weight t A) (r + 1)) q 0
    place_has r q row low =
        ap (λ l. get_or l (r * t.states + q) 0) holds
        ∙ get_or-append (rows t P A N (weight t A) n) behind 0 (r * t.states + q) (rw (length-rows t P A N (weight t A) n) (digits_lt row low))
        ∙ row_at t P A N (weight t A) n r q row low

    path_agrees : (left q : ℕ) → left < n → q < t.states → path_along (next_of t) way after left q ≡ path_from t P A N (weight t A) left q
    unfolding path_along path_from
    path_agrees zero q few low = refl
    path_agrees (suc k) q few low =
        rw (agree.0, agree.1) (go (largest t.inputs (member A) ahead =? 0) refl (path_agrees k))
      where
        ahead : ℕ → ℕ
        ahead a = get_or (sums_of t P A N (weight t A) (suc k)) (next_of t q a) 0

        agree : (largest t.inputs (member A) (ahead_stored (next_of t) way after (k * t.states) q) ≡ largest t.inputs (member A) ahead) ×
            (worst t.inputs (member A) (ahead_stored (next_of t) way after (k * t.states) q) ≡ worst t.inputs (member A) ahead)
        agree =
            same_worst (λ i. refl)
            (λ a m. rw (← add-one k) (place_has k (next_of t q a) (omega arith) (all.table.next q a low (all.inputs a m)))) t.inputs

        input : ℕ
        input = worst t.inputs (member A) ahead

        go : (b : Bool) → (largest t.inputs (member A) ahead =? 0) ≡ b →
            ((p : ℕ) → k < n → p < t.states → path_along (next_of t) way after k p ≡ path_from t P A N (weight t A) k p) →
            (if b then q ∷ [] else q ∷ input ∷ path_along (next_of t) way after k (next_of t q input)) ≡
            (if b then q ∷ [] else q ∷ input ∷ path_from t P A N (weight t A) k (next_of t q input))
        go true e more = refl
        go false e more =
            let other = eqb-false (largest t.inputs (member A) ahead) 0 e in
            let found = worst_found t.inputs (member A) ahead (omega arith) in
            ap (λ rest. q ∷ input ∷ rest) (more (next_of t q input) (omega arith) (all.table.next q input low found.below))

    -- The worst start, which was looked for in the last row.
    module _ (outside : ℕ) (rest : Difference P N outside) (some : 0 < n) {sum at : ℕ}
        (found : WorstMember outside (λ q. get_or after ((n - 1) * t.states + q) 0) sum at) where
      in_states : (q : ℕ) → member outside q ≡ true → q < t.states
      in_states q m = all.states q (both (member P q) _ (sym (rest q) ∙ m)).0

      last_row : (q : ℕ) → off_target P N q ≡ true → get_or after ((n - 1) * t.states + q) 0 ≡ get_or (sums_of t P A N (weight t A) n) q 0
      last_row q on =
          let e : n - 1 + 1 ≡ n = omega arith in
          rw e at (place_has (n - 1) q (omega arith) (in_states q (rest q ∙ on)))

      agree : (largest t.states (member outside) (λ q. get_or after ((n - 1) * t.states + q) 0) ≡ largest_sum t P A N (weight t A) n) ×
          (worst t.states (member outside) (λ q. get_or after ((n - 1) * t.states + q) 0) ≡ worst_start t P A N (weight t A) n)
      unfolding largest_sum worst_start
      agree = same_worst rest last_row t.states

      pub sum_is : sum ≡ largest_sum t P A N (weight t A) n
      sum_is = is_largest in_states found ∙ agree.0

      pub begins : (sum ≡ 0) ⊎ (at < t.states)
      begins = go (sum =? 0) refl
        where
          go : (b : Bool) → (sum =? 0) ≡ b → (sum ≡ 0) ⊎ (at < t.states)
          go true e = inl (eqb-true sum 0 e)
          go false e = inr (in_states at (worst_in found (eqb-false sum 0 e)))

      pub whole_is : (along : Way) → along.width ≡ t.inputs → along.inputs ≡ A → along.states ≡ t.states →
          whole_path_along (next_of t) along after (n - 1) sum at ≡ worst_path t P A N (weight t A) n
      unfolding whole_path_along worst_path
      whole_is along width inputs states = rw (← sum_is) (go (sum =? 0) refl)
        where
          path : (q : ℕ) → path_along (next_of t) along after (n - 1) q ≡ path_along (next_of t) way after (n - 1) q
          path q = rw (← width, ← inputs, ← states) refl

          go : (b : Bool) → (sum =? 0) ≡ b → (if b then [] else path_along (next_of t) along after (n - 1) at) ≡ (if b then [] else path_from t P A N (weight t A) (n - 1) (worst_start t P A N (weight t A) n))
          go true e = refl
          go false e =
              let other = eqb-false sum 0 e in
              path at
              ∙ path_agrees (n - 1) at (omega arith) (in_states at (worst_in found other))
              ∙ ap (path_from t P A N (weight t A) (n - 1)) (is_worst in_states found (omega arith) ∙ agree.1)

-- ---- The answer, and what is written

nothing : (t : Table) (P A N : ℕ) → largest_sum t P A N (weight t A) 0 ≡ 0
unfolding largest_sum sums_of
nothing t P A N = le-zero (largest_at_most t.states (off_target P N) _ 0 (λ q on. rw (get_or-zeros t.states q) (omega arith)))

module _ (t : Table) (P A n : ℕ) where
  pub no_moves : {E : ℕ} → E ≡ t.bound → n ≡ 0 → (sums path : List ℕ) →
      (record { time = E; target = P; length = 0 } ≡ reaction_over t P A n) × (sums ≡ sums_over t P A n sums) × (path ≡ path_over t P A n path)
  unfolding reaction_over sums_over path_over next_times rows worst_path
  no_moves bound e sums path = rw (bound, e, none, zero-mul t.states) (ap (λ time. record { time = time; target = P; length = 0 }) (sym (add-zero t.bound)), refl, refl)
    where
      none : largest_sum t P A P (weight t A) 0 ≡ 0
      none = nothing t P A P

  module _ (N : ℕ) (target : N ≡ next_times t P A n) where
    pub reaction_is : {E sum size : ℕ} → E ≡ t.bound → sum ≡ largest_sum t P A N (weight t A) n → size ≡ length (worst_path t P A N (weight t A) n) →
        record { time = E + sum; target = N; length = size } ≡ reaction_over t P A n
    unfolding reaction_over
    reaction_is bound e f = rw (bound, e, f, target)

    pub sums_are : (before : List ℕ) {after : List ℕ} → after ≡ rows t P A N (weight t A) n ++ drop (n * t.states) before → after ≡ sums_over t P A n before
    unfolding sums_over
    sums_are before e = e ∙ rw target

    pub path_is : (before : List ℕ) {after written : List ℕ} → written ≡ worst_path t P A N (weight t A) n → after ≡ placed_in before 0 written → after ≡ path_over t P A n before
    unfolding path_over
    path_is before {after} {written} e f = f ∙ rw (zero-add (length written), e, target)
