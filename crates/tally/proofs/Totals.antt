-- What the numbers of a tally sum to, and how large they are, as specs/Totals states it.
use Rattle.std.proofs.Common.{◌≡◌, ℕ, zero, suc, ◌+◌, ◌*◌, ◌/◌, ◌%◌, ◌<◌, ◌≤◌, Bool, true, false, not, ◌⊎◌, List, [], ◌∷◌, get_or, sym, refl, ◌∙◌, inl, inr, ⊎_elim, le_of_suc-le-suc, not-suc-le-zero, mul-le-mul, eq-or-lt_of_le, le-div_iff_mul-le, arith, eq-eqb, ne_eqb, eqb-true}
use borrow.Author.Tests.{eqb-false}
use lib.Arith.{digits_lt, digits_div, digits_mod}
use lib.ListN.{get_or-eq_default}
use Rattle.std.specs.Prelude.{if◌then◌else◌}
use Rattle.wire.specs.Choice.{◌=?◌, ◌and◌}
use Rattle.table.specs.declared.Table.{Table}
use Rattle.table.specs.Table.{WellFormed}
use Rattle.table.specs.Entries.{values, total}
use Rattle.table.proofs.Values.{length-values, get_or-values, total_none, total-add}
use Rattle.records.specs.declared.Record.{Record}
use Rattle.records.specs.Record.{time_of, latest}
use Rattle.machine.specs.declared.Machine.{Machine}
use Rattle.machine.specs.Machine.{start, after}
use Rattle.machine.specs.Run.{Runs, state_from, moves_from}
use Rattle.machine.specs.Lent.{Underway}
use Rattle.machine.proofs.Steps.{start_fits, fits_after}
use Rattle.runs.specs.Slots.{slot, state_at, input_at}
use Rattle.runs.proofs.Records.{split, not_both}
use Rattle.runs.proofs.Slots.{slot_before, slot-after}
use Rattle.tally.specs.Tally.{slots_before, dwell_in, slots_with, moves_into, entries_into, tally_of}
use Rattle.tally.specs.Totals.{InTable, AcceptedRecords}
use Rattle.tally.specs.Totals.{DwellSumsToEnd, PairsSumToDwell, EntriesSumToMoves, TallyIsSmall, PlacesOfTally, RestIsZero}
use Rattle.tally.proofs.Places.{Within, within}
use Rattle.tally.proofs.Moves.{moves_in_time}

-- ---- Sums

module _ (f : ℕ → ℕ) where
  -- All but one are 0.
  total_one : (s n : ℕ) → s < n → ((k : ℕ) → (s ≡ k → ⊥) → f k ≡ 0) → total f n ≡ f s
  unfolding total
  total_one s zero low others = absurd (not-suc-le-zero low)
  total_one s (suc n) low others = go (eq-or-lt_of_le (le_of_suc-le-suc low)) (λ l. total_one s n l others)
    where
      go : (s ≡ n) ⊎ (s < n) → (s < n → total f n ≡ f s) → total f n + f n ≡ f s
      go (inl e) rest = rw (e, total_none f n (λ k h. others k (λ x. absurd (omega arith)))) (omega arith)
      go (inr l) rest = omega (arith, rest l, others n (λ x. absurd (omega arith)))

-- ---- Slots

at_most_one : (b : Bool) → (if b then 1 else 0) ≤ 1
at_most_one true = omega arith
at_most_one false = omega arith

one_slot : (b : Bool) (s n : ℕ) → s < n → total (λ a. if b and (s =? a) then 1 else 0) n ≡ (if b then 1 else 0)
one_slot true s n low =
    total_one (λ a. if s =? a then 1 else 0) s n low (λ k differs. rw (ne_eqb s k differs)) ∙ rw (eq-eqb s s refl)
one_slot false s n low = total_none (λ a. 0) n (λ k h. refl)

-- Each slot that passes is counted at one number, which is below n.
each_once : (passes : ℕ → Bool) (s : ℕ → ℕ) (n : ℕ) → ((k : ℕ) → s k < n) → (T : ℕ) →
    total (λ a. slots_before T (λ k. passes k and (s k =? a))) n ≡ slots_before T passes
unfolding slots_before
each_once passes s n low zero = total_none (λ a. 0) n (λ k h. refl)
each_once passes s n low (suc T) =
    total-add (λ a. slots_before T (λ k. passes k and (s k =? a))) (λ a. if passes T and (s T =? a) then 1 else 0) n
    ∙ rw (each_once passes s n low T, one_slot (passes T) (s T) n (low T))

all_slots : (T : ℕ) → slots_before T (λ k. true) ≡ T
unfolding slots_before
all_slots zero = refl
all_slots (suc T) = omega (arith, all_slots T)

few_slots : (T : ℕ) (passes : ℕ → Bool) → slots_before T passes ≤ T
unfolding slots_before
few_slots zero passes = omega arith
few_slots (suc T) passes = omega (arith, few_slots T passes, at_most_one (passes T))

-- ---- Every machine of the run fits its table

module _ (t : Table) (good : WellFormed t) where
  slot_fits : (k : ℕ) (rs : List Record) (m last : Machine) → Underway t m → InTable t rs → Runs t m rs last → Underway t (slot t m rs k)
  slot_fits k [] m last fits in_the_table run = unfold slot in fits
  slot_fits k (r ∷ rs) m last fits in_the_table run = ⊎_elim
      (λ now. rw (slot-after t k rs r m now) (slot_fits k rs (after t m r) last (fits_after t m r good fits in_the_table.0) in_the_table.1 run.1))
      (λ past. rw (slot_before t k rs r m m last run past) fits)
      (split (time_of r) k)

  last_fits : (rs : List Record) (m last : Machine) → Underway t m → InTable t rs → Runs t m rs last → Underway t last
  last_fits [] m last fits in_the_table run = rw (← run) fits
  last_fits (r ∷ rs) m last fits in_the_table run = last_fits rs (after t m r) last (fits_after t m r good fits in_the_table.0) in_the_table.1 run.1

module _ (t : Table) (input : ℕ) (rs : List Record) (T : ℕ) (is : AcceptedRecords t input rs T) where
  fits_first : Underway t (start t.initial input)
  fits_first = start_fits t input is.well_formed is.opens

  shown_fits : (k : ℕ) → Underway t (slot t (start t.initial input) rs k)
  shown_fits k = slot_fits t is.well_formed k rs _ is.accepted.last fits_first is.in_the_table is.accepted.runs

  inside_table : Within t t.initial input rs
  inside_table = within t is.well_formed rs _ is.accepted.last fits_first is.in_the_table is.accepted.runs

  in_time : T ≤ latest
  in_time = rw (← is.accepted.ends) (last_fits t is.well_formed rs _ is.accepted.last fits_first is.in_the_table is.accepted.runs).time

pub dwell_sums_to_end : DwellSumsToEnd
unfolding dwell_in
dwell_sums_to_end t input rs T is =
    each_once (λ k. true) (state_at t input rs) t.states (λ k. (shown_fits t input rs T is k).state) T ∙ all_slots T

pub pairs_sum_to_dwell : PairsSumToDwell
unfolding dwell_in slots_with
pairs_sum_to_dwell t input rs T is q =
    each_once (λ k. state_at t input rs k =? q) (input_at t input rs) t.inputs (λ k. (shown_fits t input rs T is k).input) T

-- ---- Entries

one_entry : (s p n : ℕ) → s < n → total (λ q. if (s =? q) and not (p =? q) then 1 else 0) n ≡ (if s =? p then 0 else 1)
one_entry s p n low =
    total_one (λ q. if (s =? q) and not (p =? q) then 1 else 0) s n low (λ k differs. rw (ne_eqb s k differs))
    ∙ rw (eq-eqb s s refl) (go (s =? p) refl)
  where
    go : (b : Bool) → (s =? p) ≡ b → ◌≡◌ {A = ℕ} (if not (p =? s) then 1 else 0) (if b then 0 else 1)
    go true e = rw (eq-eqb p s (sym (eqb-true s p e)))
    go false e = rw (ne_eqb p s (λ x. eqb-false s p e (sym x)))

entries_from : (t : Table) (rs : List Record) (p a : ℕ) → Within t p a rs → total (λ q. moves_into q p rs) t.states ≡ moves_from p rs
unfolding moves_into moves_from
entries_from t [] p a inside = total_none (λ q. 0) t.states (λ k h. refl)
entries_from t (r ∷ rs) p a (state, present, next, others) =
    total-add (λ q. if (state_from p r =? q) and not (p =? q) then 1 else 0) (λ q. moves_into q (state_from p r) rs) t.states
    ∙ rw (one_entry (state_from p r) p t.states next, entries_from t rs (state_from p r) _ others)

pub entries_sum_to_moves : EntriesSumToMoves
unfolding entries_into
entries_sum_to_moves t input rs T is =
    total-add (λ q. if t.initial =? q then 1 else 0) (λ q. moves_into q t.initial rs) t.states
    ∙ rw (one_slot true t.initial t.states is.well_formed.initial, entries_from t rs t.initial input (inside_table t input rs T is)) (omega arith)

-- ---- How large they are

module _ (q : ℕ) where
  entry_is_move : (s p : ℕ) → (if (s =? q) and not (p =? q) then 1 else 0) ≤ (if s =? p then 0 else 1)
  entry_is_move s p = go (s =? p) refl
    where
      go : (b : Bool) → (s =? p) ≡ b → (if (s =? q) and not (p =? q) then 1 else 0) ≤ (if b then 0 else 1)
      go true e = rw (eqb-true s p e, not_both (p =? q)) (omega arith)
      go false e = at_most_one ((s =? q) and not (p =? q))

  few_entries : (rs : List Record) (p : ℕ) → moves_into q p rs ≤ moves_from p rs
  unfolding moves_into moves_from
  few_entries [] p = omega arith
  few_entries (r ∷ rs) p = omega (arith, entry_is_move (state_from p r) p, few_entries rs (state_from p r))

value_below : (f : ℕ → ℕ) (n k most : ℕ) → f k ≤ most → get_or (values f n) k 0 ≤ most
value_below f n k most below = ⊎_elim
    (λ past. rw (get_or-eq_default (values f n) 0 {n = k} (rw (length-values f n) past)) (omega arith))
    (λ low. rw (get_or-values f n k low) below)
    (split n k)

pub tally_small : TallyIsSmall
unfolding tally_of dwell_in slots_with entries_into
tally_small t input rs T is k = (
  value_below (dwell_in t input rs T) 32 k T (few_slots T _),
  value_below (λ k. slots_with t input rs T (k / t.inputs) (k % t.inputs)) 1024 k T (few_slots T _),
  value_below (entries_into t rs) 32 k (T + 1) below,
  in_time t input rs T is,
)
  where
    below : entries_into t rs k ≤ T + 1
    below =
        let moves = rw is.accepted.ends at (moves_in_time t input rs is.accepted.last is.accepted.runs) in
        omega (arith, at_most_one (t.initial =? k), few_entries k rs t.initial, moves)

-- ---- Where they stand

pub places_of_tally : PlacesOfTally
unfolding tally_of
places_of_tally t good input rs T q low =
    let state : q < 32 = omega (arith, good.states.1) in
    (get_or-values (dwell_in t input rs T) 32 q state, pair, get_or-values (entries_into t rs) 32 q state)
  where
    pair : (a : ℕ) → a < t.inputs →
        get_or (values (λ k. slots_with t input rs T (k / t.inputs) (k % t.inputs)) 1024) (q * t.inputs + a) 0 ≡ slots_with t input rs T q a
    pair a h =
        let rows : t.states * t.inputs ≤ 1024 = mul-le-mul good.states.1 good.inputs.1 in
        let inside : q * t.inputs + a < 1024 = omega (arith, digits_lt low h) in
        get_or-values (λ k. slots_with t input rs T (k / t.inputs) (k % t.inputs)) 1024 (q * t.inputs + a) inside
        ∙ rw (digits_div q h, digits_mod q h)

no_slots : (T : ℕ) (passes : ℕ → Bool) → ((k : ℕ) → passes k ≡ false) → slots_before T passes ≡ 0
unfolding slots_before
no_slots zero passes never = refl
no_slots (suc T) passes never = rw (never T, no_slots T passes never) (omega arith)

no_entries : (t : Table) (q : ℕ) → t.states ≤ q → (rs : List Record) (p a : ℕ) → Within t p a rs → moves_into q p rs ≡ 0
unfolding moves_into
no_entries t q past [] p a inside = refl
no_entries t q past (r ∷ rs) p a (state, present, next, others) =
    rw (ne_eqb (state_from p r) q (λ x. absurd (omega arith)), no_entries t q past rs (state_from p r) _ others) (omega arith)

zero_value : (f : ℕ → ℕ) (n k : ℕ) → f k ≡ 0 → get_or (values f n) k 0 ≡ 0
zero_value f n k is = omega (arith, value_below f n k 0 (omega arith))

pub rest_is_zero : RestIsZero
unfolding tally_of dwell_in slots_with entries_into
rest_is_zero t input rs T is k = (
  λ past. zero_value (dwell_in t input rs T) 32 k (no_slots T _ (λ j. other k j past)),
  λ past. zero_value (λ j. slots_with t input rs T (j / t.inputs) (j % t.inputs)) 1024 k
      (no_slots T _ (λ j. rw (other (k / t.inputs) j ((le-div_iff_mul-le is.well_formed.inputs.0).1 past)))),
  λ past. zero_value (entries_into t rs) 32 k (none past),
)
  where
    other : (q j : ℕ) → t.states ≤ q → (state_at t input rs j =? q) ≡ false
    other q j past = let low = (shown_fits t input rs T is j).state in ne_eqb (state_at t input rs j) q (λ x. absurd (omega arith))

    none : t.states ≤ k → entries_into t rs k ≡ 0
    none past =
        let initial = is.well_formed.initial in
        rw (ne_eqb t.initial k (λ x. absurd (omega arith)), no_entries t k past rs t.initial input (inside_table t input rs T is)) (omega arith)
