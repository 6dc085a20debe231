-- The rows of sums: what each number is, how it comes from the row before, and how large it gets.
use mathlib.Core.Path.{◌≡◌, refl, sym, ap, ◌∙◌}
use mathlib.Core.Bool.{Bool, true, false}
use mathlib.Core.List.{List}
use mathlib.Core.Logic.{◌⊎◌, inl, inr, ⊎_elim}
use Prim.Native.Nat.{ℕ, zero, suc, ◌+◌, ◌-◌, ◌*◌, ◌/◌, ◌%◌, ◌<◌, ◌≤◌, max}
use native.Mathlib.Nat.{mod-lt, div-eq_of_lt, div-add-mod', div-lt_iff_lt-mul, le-div_iff_mul-le, suc-mul, mul-le-mul_right}
use native.Mathlib.Omega.{arith}
use native.Mathlib.Numerals.{add-one}
use borrow.Author.Tests.{eq-eqb, ne_eqb, lt-ltb, le-ltb, ltb-true, ltb-false}
use lib.Arith.{digits_div, digits_mod, le-zero}
use lib.ListN.{length, get_or, drop, get_or-append}
use Rattle.std.specs.Prelude.{if◌then◌else◌}
use Rattle.wire.specs.Choice.{◌<?◌, ◌=?◌}
use Rattle.sets.specs.Sets.{member, largest}
use Rattle.sets.proofs.Members.{largest_reached, Reaching}
use Rattle.table.specs.Entries.{values}
use Rattle.table.proofs.Values.{length-values, get_or-values, get_or-zeros, Filling}
use Rattle.moves.specs.Walks.{PlaceForEach, ImagesAmong, WorstMember, round_stored, row_stored, sum_stored, sum_from_stored, heaviest, SumsFit}
use Rattle.moves.proofs.Worsts.{is_largest}

-- ---- The largest of several numbers

pub same_largest : (n : ℕ) (test : ℕ → Bool) (f g : ℕ → ℕ) → ((i : ℕ) → test i ≡ true → f i ≡ g i) → largest n test f ≡ largest n test g
unfolding largest
same_largest zero test f g same = refl
same_largest (suc n) test f g same = rw (same_largest n test f g same) (ap (max (largest n test g)) (go (test n) refl))
  where
    go : (b : Bool) → test n ≡ b → (if b then f n else 0) ≡ (if b then g n else 0)
    go true e = same n e
    go false e = refl

pub largest_at_most : (n : ℕ) (test : ℕ → Bool) (f : ℕ → ℕ) (m : ℕ) → ((i : ℕ) → test i ≡ true → f i ≤ m) → largest n test f ≤ m
largest_at_most n test f m each = go (largest_reached n test f)
  where
    go : {x : ℕ} → (x ≡ 0) ⊎ Reaching n test f x → x ≤ m
    go (inl z) = omega arith
    go (inr r) = rw r.is (each r.at r.passes)

-- ---- Places in rows

module _ (Q k : ℕ) (some : 1 ≤ Q) where
  pub in_row : k % Q < Q
  in_row = mod-lt k some

  one_row : Q ≤ k → 1 ≤ k / Q
  one_row h = (le-div_iff_mul-le some).1 (omega arith)

  whole : Q ≤ k → (k / Q) * Q ≡ (k / Q - 1) * Q + Q
  whole h =
      let e : k / Q ≡ suc (k / Q - 1) = omega (arith, one_row h) in
      ap (λ r. r * Q) e ∙ suc-mul (k / Q - 1) Q

  pub row_before : Q ≤ k → Q ≤ k - k % Q
  row_before h = omega (arith, div-add-mod' k Q, whole h)

  -- The row before begins there.
  pub row_starts : Q ≤ k → k - k % Q - Q ≡ (k / Q - 1) * Q
  row_starts h = omega (arith, div-add-mod' k Q, whole h)

module _ {images : List ℕ} {Q : ℕ} (among : ImagesAmong images Q) where
  -- A place in the row before stands before place k.
  early : (k : ℕ) → Q ≤ k → (p : ℕ) → member (get_or images (k % Q) 0) p ≡ true → k - k % Q - Q + p < k
  early k high p m = omega (arith, among.below (k % Q) p (in_row Q k among.states.0) m, row_before Q k among.states.0 high)

  pub place_for_each : (sums : List ℕ) (k : ℕ) → Q ≤ k → k < length sums → PlaceForEach (get_or images (k % Q) 0) (k - k % Q - Q) sums
  place_for_each sums k high low p m = omega (arith, early k high p m)

module _ {images : List ℕ} {Q : ℕ} (among : ImagesAmong images Q) (weigh : ℕ → ℕ) where
  abbrev most : ℕ → (ℕ → ℕ) → ℕ
  most q = largest Q (member (get_or images q 0))

  -- ---- What a number is

  row_value : (k q : ℕ) → q < Q → get_or (row_stored images Q weigh (suc k)) q 0 ≡
      (if weigh q =? 0 then 0 else weigh q + most q (λ p. get_or (row_stored images Q weigh k) p 0))
  unfolding row_stored round_stored
  row_value k q low = get_or-values (λ q. if weigh q =? 0 then 0 else weigh q + most q (λ p. get_or (row_stored images Q weigh k) p 0)) Q q low

  -- In the first row a state has its weight.
  nothing_ahead : (q : ℕ) → most q (λ p. get_or (row_stored images Q weigh 0) p 0) ≡ 0
  unfolding row_stored
  nothing_ahead q = le-zero (largest_at_most Q (member (get_or images q 0)) _ 0 (λ p m. rw (get_or-zeros Q p) (omega arith)))

  -- ---- How large it gets

  module _ (light : (q : ℕ) → weigh q ≤ heaviest) where
    pub row_at_most : (k q : ℕ) → q < Q → get_or (row_stored images Q weigh k) q 0 ≤ k * heaviest
    unfolding row_stored
    row_at_most zero q low = rw (get_or-zeros Q q) (omega arith)
    row_at_most (suc k) q low = rw (row_value k q low) (go (weigh q =? 0) (largest_at_most Q (member (get_or images q 0)) _ (k * heaviest)
        (λ p m. row_at_most k p (among.below q p low m))))
      where
        go : (b : Bool) → most q (λ p. get_or (row_stored images Q weigh k) p 0) ≤ k * heaviest →
            (if b then 0 else weigh q + most q (λ p. get_or (row_stored images Q weigh k) p 0)) ≤ suc k * heaviest
        go true l = omega arith
        go false l = omega (arith, light q)

  -- ---- How a number comes from those before it

  pub no_weight : (sums : List ℕ) (k : ℕ) → weigh (k % Q) ≡ 0 → 0 ≡ sum_from_stored images Q weigh sums k
  unfolding sum_from_stored
  no_weight sums k e = rw (eq-eqb (weigh (k % Q)) 0 e)

  pub in_first_row : (sums : List ℕ) (k : ℕ) → (weigh (k % Q) ≡ 0 → ⊥) → k < Q → weigh (k % Q) ≡ sum_from_stored images Q weigh sums k
  unfolding sum_from_stored
  in_first_row sums k some low = rw (ne_eqb (weigh (k % Q)) 0 some, lt-ltb k Q low)

  pub in_later_row : (sums : List ℕ) (k : ℕ) → (weigh (k % Q) ≡ 0 → ⊥) → Q ≤ k →
      {sum at : ℕ} → WorstMember (get_or images (k % Q) 0) (λ p. get_or sums (k - k % Q - Q + p) 0) sum at → weigh (k % Q) + sum ≡ sum_from_stored images Q weigh sums k
  unfolding sum_from_stored
  in_later_row sums k some high found =
      rw (ne_eqb (weigh (k % Q)) 0 some, le-ltb k Q high)
      (ap (λ x. weigh (k % Q) + x) (is_largest (λ p. among.below (k % Q) p (in_row Q k among.states.0)) found))

  -- ---- The loop that fills the rows

  module _ {n k : ℕ} {before after : List ℕ} (inv : Filling (sum_stored images Q weigh) n before after k) where
    filled_so_far : (j : ℕ) → j < k → get_or after j 0 ≡ sum_stored images Q weigh j
    filled_so_far j low =
        ap (λ l. get_or l j 0) inv.is
        ∙ get_or-append (values (sum_stored images Q weigh) k) (drop k before) 0 j (rw length-values low)
        ∙ get_or-values (sum_stored images Q weigh) k j low

    pub fit : (moves : ℕ) → moves ≤ 32 → n ≡ moves * Q → ((q : ℕ) → weigh q ≤ heaviest) → SumsFit weigh after k
    fit moves few e light = record {
      each_weight = light;
      each_sum = λ j low.
          let below : j < moves * Q = omega (arith, inv.low) in
          let r : j / Q < moves = (div-lt_iff_lt-mul among.states.0).1 below in
          let l = row_at_most light (j / Q + 1) (j % Q) (in_row Q j among.states.0) in
          let s : j / Q + 1 ≤ 32 = omega arith in
          let m : (j / Q + 1) * heaviest ≤ 32 * heaviest = mul-le-mul_right heaviest s in
          rw (filled_so_far j low) (omega arith);
    }

    -- What the slice has for the members of the image is what the row before has.
    row_ahead : (high : Q ≤ k) (p : ℕ) → member (get_or images (k % Q) 0) p ≡ true →
        get_or after (k - k % Q - Q + p) 0 ≡ get_or (row_stored images Q weigh (k / Q)) p 0
    row_ahead high p m =
        let some = among.states.0 in
        let to : p < Q = among.below (k % Q) p (in_row Q k some) m in
        let starts = row_starts Q k some high in
        let row : k / Q - 1 + 1 ≡ k / Q = omega (arith, one_row Q k some high) in
        ap (λ j. get_or after (j + p) 0) starts
        ∙ filled_so_far ((k / Q - 1) * Q + p) (omega (arith, starts, early among k high p m))
        ∙ rw (digits_div (k / Q - 1) to, digits_mod (k / Q - 1) to, row)

    pub next_sum : sum_from_stored images Q weigh after k ≡ sum_stored images Q weigh k
    unfolding sum_from_stored
    next_sum = go (weigh (k % Q) =? 0) refl (k <? Q) refl
      where
        low : k % Q < Q
        low = in_row Q k among.states.0

        value : (r : ℕ) → k / Q ≡ r → (b : Bool) → (weigh (k % Q) =? 0) ≡ b →
            (if b then 0 else weigh (k % Q) + most (k % Q) (λ p. get_or (row_stored images Q weigh r) p 0)) ≡ sum_stored images Q weigh k
        value r e b f = sym (rw (e, add-one r, row_value r (k % Q) low, f))

        go : (b : Bool) → (weigh (k % Q) =? 0) ≡ b → (c : Bool) → (k <? Q) ≡ c →
            (if b then 0 else if c then weigh (k % Q) else weigh (k % Q) + most (k % Q) (λ p. get_or after (k - k % Q - Q + p) 0)) ≡ sum_stored images Q weigh k
        go true e c f = value (k / Q) refl true e
        go false e true f =
            let first = value 0 (div-eq_of_lt (ltb-true k Q f)) false e in
            let none : weigh (k % Q) ≡ weigh (k % Q) + most (k % Q) (λ p. get_or (row_stored images Q weigh 0) p 0) = omega (arith, nothing_ahead (k % Q)) in
            none ∙ first
        go false e false f =
            ap (λ x. weigh (k % Q) + x) (same_largest Q (member (get_or images (k % Q) 0)) _ _ (row_ahead (ltb-false k Q f)))
            ∙ value (k / Q) refl false e

  -- The sum ahead is small enough to be added.
  pub worst_fits : {sums : List ℕ} {k : ℕ} → SumsFit weigh sums k → Q ≤ k →
      {sum at : ℕ} → WorstMember (get_or images (k % Q) 0) (λ p. get_or sums (k - k % Q - Q + p) 0) sum at → sum ≤ 32 * heaviest
  worst_fits {sums} {k} fits high {sum} {at} found =
      ⊎_elim (λ z. omega arith)
      (λ r. let l = fits.each_sum (k - k % Q - Q + at) (early among k high at r.0) in omega (arith, r.1))
      found.reached
