-- What is counted record by record is the tally, which is defined by slots.
use Rattle.std.proofs.Common.{◌≡◌, ℕ, ◌/◌, ◌%◌, ◌<◌, List, length, get_or, sym, ap, ◌∙◌, arith, ext_get_or}
use lib.ListN.{length-replicate, get_or-replicate}
use Rattle.wire.specs.Choice.{◌=?◌, ◌and◌}
use Rattle.table.specs.declared.Table.{Table}
use Rattle.table.specs.Table.{WellFormed}
use Rattle.table.specs.Entries.{values, zeros}
use Rattle.table.proofs.Values.{length-values, get_or-values}
use Rattle.records.specs.declared.Record.{Record}
use Rattle.machine.specs.declared.Machine.{Machine}
use Rattle.machine.specs.Machine.{start}
use Rattle.machine.specs.Run.{Runs}
use Rattle.machine.proofs.Steps.{start_fits}
use Rattle.tally.specs.declared.Tally.{Tally}
use Rattle.tally.specs.Tally.{dwell_in, slots_with, entries_into, tally_of}
use Rattle.tally.specs.Counting.{begun, counted, Sized}
use Rattle.tally.specs.Totals.{InTable}
use Rattle.tally.proofs.Stretches.{all_spent}
use Rattle.tally.proofs.Places.{Within, within, length-more, counted_sized, more_at, dwell_at, pairs_at, entries_at}

length-zeros : (n : ℕ) → length (zeros n) ≡ n
length-zeros n = length-replicate {A = ℕ} n 0

zero_at : (n k : ℕ) → k < n → get_or (zeros n) k 0 ≡ 0
zero_at n k h = get_or-replicate {A = ℕ} n k 0 0 h

-- A list of n places is f 0, .., f (n - 1) if each place has its f.
are_values : (f : ℕ → ℕ) (n : ℕ) (array : List ℕ) → length array ≡ n → ((k : ℕ) → k < n → get_or array k 0 ≡ f k) → array ≡ values f n
are_values f n array size each = ext_get_or 0 array (values f n) (size ∙ sym (length-values f n)) (λ k h.
    let low : k < n = rw size at h in
    each k low ∙ sym (get_or-values f n k low))

tally_same : (x y : Tally) → x.dwell ≡ y.dwell → x.pairs ≡ y.pairs → x.entries ≡ y.entries → x ≡ y
tally_same x y dwell pairs entries =
    ap (λ d. record { dwell = d; pairs = x.pairs; entries = x.entries }) dwell
    ∙ ap (λ p. record { dwell = y.dwell; pairs = p; entries = x.entries }) pairs
    ∙ ap (λ e. record { dwell = y.dwell; pairs = y.pairs; entries = e }) entries

begun_sized : (t : Table) → Sized (begun t)
begun_sized t = record {
  dwell = length-zeros 32;
  pairs = length-zeros 1024;
  entries = length-more (zeros 32) t.initial 1 ∙ length-zeros 32;
}

module _ (t : Table) (good : WellFormed t) (input : ℕ) (opens : input < t.inputs) (rs : List Record) (last : Machine)
    (run : Runs t (start t.initial input) rs last) (in_table : InTable t rs) where
  inside : Within t t.initial input rs
  inside = within t good rs (start t.initial input) last (start_fits t input good opens) in_table run

  dwell_counted : (k : ℕ) → k < 32 → get_or (counted t input rs).dwell k 0 ≡ dwell_in t input rs last.time k
  unfolding counted dwell_in
  dwell_counted k low =
      let counts = dwell_at t good k rs t.initial input 0 inside (begun t) (begun_sized t) in
      let slots = all_spent t (λ p b. p =? k) input rs last run in
      omega (arith, counts, slots, zero_at 32 k low)

  pairs_counted : (k : ℕ) → k < 1024 → get_or (counted t input rs).pairs k 0 ≡ slots_with t input rs last.time (k / t.inputs) (k % t.inputs)
  unfolding counted slots_with
  pairs_counted k low =
      let counts = pairs_at t good k rs t.initial input 0 inside (begun t) (begun_sized t) in
      let slots = all_spent t (λ p b. (p =? k / t.inputs) and (b =? k % t.inputs)) input rs last run in
      omega (arith, counts, slots, zero_at 1024 k low)

  entries_counted : (k : ℕ) → k < 32 → get_or (counted t input rs).entries k 0 ≡ entries_into t rs k
  unfolding counted entries_into
  entries_counted k low =
      let room : t.initial < length (zeros 32) = rw (length-zeros 32) (omega (arith, good.initial, good.states.1)) in
      let first = more_at (zeros 32) t.initial 1 k room in
      let counts = entries_at t good k rs t.initial input 0 inside (begun t) (begun_sized t) in
      omega (arith, counts, first, zero_at 32 k low)

counted_all_sized : (t : Table) (input : ℕ) (rs : List Record) → Sized (counted t input rs)
unfolding counted
counted_all_sized t input rs = counted_sized t.inputs rs t.initial input 0 (begun t) (begun_sized t)

pub counted_is_tally : (t : Table) → WellFormed t → (input : ℕ) → input < t.inputs → (rs : List Record) (last : Machine) →
    Runs t (start t.initial input) rs last → InTable t rs → counted t input rs ≡ tally_of t input rs last.time
unfolding tally_of
counted_is_tally t good input opens rs last run in_table =
    let sized = counted_all_sized t input rs in
    tally_same (counted t input rs) _
    (are_values _ 32 _ sized.dwell (dwell_counted t good input opens rs last run in_table))
    (are_values _ 1024 _ sized.pairs (pairs_counted t good input opens rs last run in_table))
    (are_values _ 32 _ sized.entries (entries_counted t good input opens rs last run in_table))
