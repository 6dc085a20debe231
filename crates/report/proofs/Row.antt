-- The numbers that one journal adds, as they stand in a host's report: so much more in the tally is so much more at one place.
use Rattle.std.proofs.Common.{◌≡◌, ℕ, suc, ◌+◌, ◌*◌, ◌%◌, ◌^◌, ◌<◌, ◌≤◌, List, [], ◌∷◌, ◌++◌, length, get_or, take, sym, refl, ap, ◌∙◌, mul-le-mul, arith, length-append, length-take-le}
use Rattle.table.specs.declared.Table.{Table}
use Rattle.table.specs.Entries.{zeros}
use Rattle.tally.specs.declared.Tally.{Tally}
use Rattle.tally.specs.Tally.{no_tally}
use Rattle.tally.specs.Sums.{summed}
use Rattle.tally.specs.Counting.{more, more_sum, with_slots, with_entry, Sized, Spends, EntersNow}
use Rattle.tally.proofs.Places.{length-more}
use Rattle.tally.proofs.More.{more_front, more_behind, take-more, summed-length, summed-more, Nothing, nothing_more, zeros_taken, nothing_added}
use Rattle.report.specs.declared.host.Row.{Row}
use Rattle.report.specs.Rows.{places_of, row_of, slots_of, RowFits, row_with}

module _ (t : Table) (few : t.states ≤ 32) (rows : t.states * t.inputs ≤ 1024) (dwell pairs entries : List ℕ)
    (sized : Sized (record { dwell = dwell; pairs = pairs; entries = entries })) where
  abbrev D : List ℕ
  D = take t.states dwell

  abbrev P : List ℕ
  P = take (t.states * t.inputs) pairs

  abbrev N : List ℕ
  N = take t.states entries

  abbrev row : List ℕ
  row = slots_of t (record { dwell = dwell; pairs = pairs; entries = entries })

  long_dwell : length D ≡ t.states
  long_dwell = length-take-le t.states dwell (omega (arith, few, sized.dwell))

  long_pairs : length P ≡ t.states * t.inputs
  long_pairs = length-take-le (t.states * t.inputs) pairs (omega (arith, rows, sized.pairs))

  long_entries : length N ≡ t.states
  long_entries = length-take-le t.states entries (omega (arith, few, sized.entries))

  row-length : length row ≡ places_of t
  unfolding slots_of
  row-length = omega (arith, length-append D (P ++ N), length-append P N, long_dwell, long_pairs, long_entries)

  row_dwell : (q n : ℕ) → q < t.states → slots_of t (record { dwell = more dwell q n; pairs = pairs; entries = entries }) ≡ more row (1 + q) n
  unfolding slots_of
  row_dwell q n low =
      let e : 1 + q ≡ suc q = omega arith in
      let inside : q < length D = rw long_dwell low in
      rw (e, take-more t.states dwell q n low) (ap (λ l. 0 ∷ l) (sym (more_front D (P ++ N) q n inside)))

  row_pairs : (k n : ℕ) → k < t.states * t.inputs → slots_of t (record { dwell = dwell; pairs = more pairs k n; entries = entries }) ≡ more row (1 + t.states + k) n
  unfolding slots_of
  row_pairs k n low =
      let inside : k < length P = rw long_pairs low in
      let place : 1 + t.states + k ≡ length (0 ∷ D) + k = omega (arith, long_dwell) in
      rw (take-more (t.states * t.inputs) pairs k n low) (
      ap (λ l. 0 ∷ D ++ l) (sym (more_front P N k n inside)) ∙ sym (more_behind (0 ∷ D) (P ++ N) (1 + t.states + k) k n place)
      )

  row_entries : (q n : ℕ) → q < t.states →
      slots_of t (record { dwell = dwell; pairs = pairs; entries = more entries q n }) ≡ more row (1 + t.states + t.states * t.inputs + q) n
  unfolding slots_of
  row_entries q n low =
      let behind : t.states * t.inputs + q ≡ length P + q = omega (arith, long_pairs) in
      let place : 1 + t.states + t.states * t.inputs + q ≡ length (0 ∷ D) + (t.states * t.inputs + q) = omega (arith, long_dwell) in
      rw (take-more t.states entries q n low) (
      ap (λ l. 0 ∷ D ++ l) (sym (more_behind P N (t.states * t.inputs + q) q n behind))
      ∙ sym (more_behind (0 ∷ D) (P ++ N) (1 + t.states + t.states * t.inputs + q) (t.states * t.inputs + q) n place)
      )

-- ---- Added to the sums

module _ (t : Table) (few : t.states ≤ 32) (few_inputs : t.inputs ≤ 32) (y : Tally) (sized : Sized y) (first : List ℕ) (room : places_of t ≤ length first) where
  rows : t.states * t.inputs ≤ 1024
  rows = mul-le-mul few few_inputs

  long : length (slots_of t y) ≡ places_of t
  long = row-length t few rows y.dwell y.pairs y.entries sized

  slots_added : (q k n : ℕ) → q < t.states → k < t.states * t.inputs →
      more_sum (more_sum (summed first (slots_of t y)) (1 + q) n) (1 + t.states + k) n ≡ summed first (slots_of t (with_slots y q k n))
  slots_added q k n low pair_low =
      let half : Tally = record { dwell = more y.dwell q n; pairs = y.pairs; entries = y.entries } in
      let half_sized : Sized half = record { dwell = length-more y.dwell q n ∙ sized.dwell; pairs = sized.pairs; entries = sized.entries } in
      let long' = row-length t few rows half.dwell y.pairs y.entries half_sized in
      let one : more_sum (summed first (slots_of t y)) (1 + q) n ≡ summed first (slots_of t half) =
      sym (summed-more first _ (1 + q) n (omega (arith, long, low)) (omega (arith, long, room)))
      ∙ ap (summed first) (sym (row_dwell t few rows y.dwell y.pairs y.entries sized q n low))
      in
      ap (λ l. more_sum l (1 + t.states + k) n) one
      ∙ sym (summed-more first _ (1 + t.states + k) n (omega (arith, long', pair_low)) (omega (arith, long', room)))
      ∙ ap (summed first) (sym (row_pairs t few rows half.dwell y.pairs y.entries half_sized k n pair_low))

  entry_added : (q : ℕ) → q < t.states →
      more_sum (summed first (slots_of t y)) (1 + t.states + t.states * t.inputs + q) 1 ≡ summed first (slots_of t (with_entry y q))
  entry_added q low =
      sym (summed-more first _ (1 + t.states + t.states * t.inputs + q) 1 (omega (arith, long, low)) (omega (arith, long, room)))
      ∙ ap (summed first) (sym (row_entries t few rows y.dwell y.pairs y.entries sized q 1 low))

-- ---- The row as a counter

abbrev pub row_as : Row → List ℕ → Row
row_as row l = record row { numbers = record row.numbers { now = l } }

module _ (t : Table) (first : Row) (y : Tally) (now : Row) where
  pub state_place : (q k n : ℕ) → Spends RowFits row_with t first y now q k n → 1 + q < length now.numbers.now
  state_place q k n on = rw on.is (omega (arith, on.state_low, on.room.0, summed-length first.numbers.now (slots_of t y)))

  pub pair_place : (q k n : ℕ) → Spends RowFits row_with t first y now q k n → now.pairs + k < length now.numbers.now
  pair_place q k n on = rw on.is (omega (arith, on.pair_low, on.room.0, on.room.1, summed-length first.numbers.now (slots_of t y)))

  pub entry_place : (q : ℕ) → EntersNow RowFits row_with t first y now q → now.entries + q < length now.numbers.now
  entry_place q on = rw on.is (omega (arith, on.state_low, on.room.0, on.room.2, summed-length first.numbers.now (slots_of t y)))

  pub row_spent : (q k n : ℕ) → Spends RowFits row_with t first y now q k n →
      row_as now (more_sum (more_sum now.numbers.now (1 + q) n) (now.pairs + k) n) ≡ row_with t first (with_slots y q k n)
  row_spent q k n on =
      let place : first.pairs + k ≡ 1 + t.states + k = ap (λ p. p + k) on.room.1 in
      rw (on.is, place) (ap (row_as first) (slots_added t on.few_states on.few_inputs y on.sized first.numbers.now on.room.0 q k n on.state_low on.pair_low))

  pub row_entered : (q : ℕ) → EntersNow RowFits row_with t first y now q →
      row_as now (more_sum now.numbers.now (now.entries + q) 1) ≡ row_with t first (with_entry y q)
  row_entered q on =
      let place : first.entries + q ≡ 1 + t.states + t.states * t.inputs + q = ap (λ p. p + q) on.room.2 in
      rw (on.is, place) (ap (row_as first) (entry_added t on.few_states on.few_inputs y on.sized first.numbers.now on.room.0 q on.state_low))

-- ---- The beginning, and with the journal itself

pub row_begins : (t : Table) (row : Row) → ((k : ℕ) → get_or row.numbers.now k 0 < 2 ^ 64) → row ≡ row_with t row no_tally
unfolding slots_of
row_begins t row small =
    let none = zeros_taken t.states 32 in
    let parts : Nothing (take t.states (zeros 32) ++ (take (t.states * t.inputs) (zeros 1024) ++ take t.states (zeros 32))) =
    nothing_more (take t.states (zeros 32)) _ none (nothing_more (take (t.states * t.inputs) (zeros 1024)) _ (zeros_taken (t.states * t.inputs) 1024) none)
    in
    ap (row_as row) (sym (nothing_added row.numbers.now (0 ∷ take t.states (zeros 32) ++ (take (t.states * t.inputs) (zeros 1024) ++ take t.states (zeros 32))) small (refl, parts)))

pub one_journal : (t : Table) (y : Tally) (first : List ℕ) → summed (more_sum first 0 1) (slots_of t y) ≡ summed first (row_of t y)
unfolding slots_of row_of summed
one_journal t y [] = refl
one_journal t y (sum ∷ sums) =
    let rest = take t.states y.dwell ++ (take (t.states * t.inputs) y.pairs ++ take t.states y.entries) in
    let once : ((sum + 1) % 2 ^ 64 + 0) % 2 ^ 64 ≡ (sum + 1) % 2 ^ 64 = omega arith in
    ap (λ n. n ∷ summed sums rest) once
