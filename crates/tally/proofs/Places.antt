-- What is counted record by record, place by place.
use Rattle.std.proofs.Common.{◌≡◌, ℕ, ◌+◌, ◌-◌, ◌*◌, ◌/◌, ◌%◌, ◌<◌, ◌≤◌, Bool, true, false, not, List, [], ◌∷◌, length, get_or, sym, refl, ap, ◌∙◌, mul-le-mul, div-add-mod', arith, length-set, get_or-set_other, get_or-set_same, eq-eqb, ne_eqb, eqb-true}
use borrow.Author.Tests.{eqb-false}
use lib.Arith.{digits_lt, digits_div, digits_mod}
use Rattle.std.specs.Prelude.{if◌then◌else◌}
use Rattle.wire.specs.Choice.{◌=?◌, ◌and◌}
use Rattle.wire.proofs.Choice.{both, and_both, same_test}
use Rattle.table.specs.declared.Table.{Table}
use Rattle.table.specs.Table.{WellFormed}
use Rattle.records.specs.declared.Record.{Record}
use Rattle.records.specs.Record.{time_of}
use Rattle.machine.specs.declared.Machine.{Machine}
use Rattle.machine.specs.Machine.{after}
use Rattle.machine.specs.Run.{Runs, state_from}
use Rattle.machine.proofs.Counts.{state_from_lem}
use Rattle.machine.specs.Lent.{Underway}
use Rattle.machine.proofs.Steps.{fits_after}
use Rattle.runs.proofs.Records.{not_both}
use Rattle.tally.specs.declared.Tally.{Tally}
use Rattle.tally.specs.Tally.{moves_into}
use Rattle.tally.specs.Counting.{input_from, more, with_record, counted_from, Sized}
use Rattle.tally.specs.Totals.{InTable}
use Rattle.tally.proofs.Stretches.{input_from_lem, spent}

-- ---- Every state and every input has its place

abbrev pub Within : Table → (q a : ℕ) → List Record → Type 0
Within t q a [] = Unit
Within t q a (r ∷ rs) = (q < t.states) × (a < t.inputs) × (state_from q r < t.states) × Within t (state_from q r) (input_from a r) rs

pub within : (t : Table) → WellFormed t → (rs : List Record) (m last : Machine) → Underway t m → InTable t rs → Runs t m rs last →
    Within t m.state m.input rs
within t good [] m last fits in_table run = tt
within t good (r ∷ rs) m last fits (here, others) (takes, run) =
    let after_fits = fits_after t m r good fits here in
    let state = state_from_lem t m r (after t m r) takes in
    let rest = within t good rs (after t m r) last after_fits others run in
    (fits.state, fits.input, rw state at after_fits.state, rw (state, input_from_lem t m r) at rest)

pub length-more : (array : List ℕ) (place n : ℕ) → length (more array place n) ≡ length array
length-more array place n = length-set array place (get_or array place 0 + n)

module _ (inputs : ℕ) where
  with_sized : (q a before : ℕ) (y : Tally) (r : Record) → Sized y → Sized (with_record inputs q a before y r)
  unfolding with_record
  with_sized q a before y r sized = record {
    dwell = length-more y.dwell q (time_of r - before) ∙ sized.dwell;
    pairs = length-more y.pairs (q * inputs + a) (time_of r - before) ∙ sized.pairs;
    entries = go (state_from q r =? q);
  }
    where
      go : (b : Bool) → length (if b then y.entries else more y.entries (state_from q r) 1) ≡ 32
      go true = sized.entries
      go false = length-more y.entries (state_from q r) 1 ∙ sized.entries

  pub counted_sized : (rs : List Record) (q a before : ℕ) (y : Tally) → Sized y → Sized (counted_from inputs q a before y rs)
  unfolding counted_from
  counted_sized [] q a before y sized = sized
  counted_sized (r ∷ rs) q a before y sized = counted_sized rs (state_from q r) (input_from a r) (time_of r) _ (with_sized q a before y r sized)

-- ---- One record

pub more_at : (array : List ℕ) (place n k : ℕ) → place < length array →
    get_or (more array place n) k 0 ≡ get_or array k 0 + (if place =? k then n else 0)
more_at array place n k inside = go (place =? k) refl
  where
    go : (b : Bool) → (place =? k) ≡ b → get_or (more array place n) k 0 ≡ get_or array k 0 + (if b then n else 0)
    go true e = let same = eqb-true place k e in rw (← same) (get_or-set_same array place (get_or array place 0 + n) 0 inside)
    go false e = get_or-set_other array place k (get_or array place 0 + n) 0 (λ x. eqb-false place k e (sym x)) ∙ omega arith

-- A pair's place tells the state and the input.
pair_place : (inputs q a k : ℕ) → a < inputs → (q * inputs + a =? k) ≡ ((q =? k / inputs) and (a =? k % inputs))
pair_place inputs q a k inside = same_test _ _ there back
  where
    there : (q * inputs + a =? k) ≡ true → ((q =? k / inputs) and (a =? k % inputs)) ≡ true
    there e =
        let is = eqb-true (q * inputs + a) k e in
        and_both _ _ (eq-eqb q (k / inputs) (sym (digits_div q inside) ∙ ap (λ x. x / inputs) is))
        (eq-eqb a (k % inputs) (sym (digits_mod q inside) ∙ ap (λ x. x % inputs) is))

    back : ((q =? k / inputs) and (a =? k % inputs)) ≡ true → (q * inputs + a =? k) ≡ true
    back e =
        let parts = both (q =? k / inputs) (a =? k % inputs) e in
        let state = eqb-true q (k / inputs) parts.0 in
        let present = eqb-true a (k % inputs) parts.1 in
        eq-eqb (q * inputs + a) k (rw (state, present) (div-add-mod' k inputs))

-- An entry is counted where the state is another than before.
entry_at : (array : List ℕ) (p q k : ℕ) → p < length array →
    get_or (if p =? q then array else more array p 1) k 0 ≡ get_or array k 0 + (if (p =? k) and not (q =? k) then 1 else 0)
entry_at array p q k inside = go (p =? q) refl
  where
    other : (p ≡ q → ⊥) → (b : Bool) → (p =? k) ≡ b → ◌≡◌ {A = ℕ} (if b then 1 else 0) (if b and not (q =? k) then 1 else 0)
    other differs true e = rw (ne_eqb q k (λ x. differs (eqb-true p k e ∙ sym x)))
    other differs false e = refl

    go : (b : Bool) → (p =? q) ≡ b → get_or (if b then array else more array p 1) k 0 ≡ get_or array k 0 + (if (p =? k) and not (q =? k) then 1 else 0)
    go true e = rw (eqb-true p q e, not_both (q =? k)) (omega arith)
    go false e = more_at array p 1 k inside ∙ ap (λ n. get_or array k 0 + n) (other (eqb-false p q e) (p =? k) refl)

-- ---- All records

module _ (t : Table) (good : WellFormed t) (k : ℕ) where
  pub dwell_at : (rs : List Record) (q a before : ℕ) → Within t q a rs → (y : Tally) → Sized y →
      get_or (counted_from t.inputs q a before y rs).dwell k 0 ≡ get_or y.dwell k 0 + spent (λ p b. p =? k) q a before rs
  unfolding counted_from with_record spent
  dwell_at [] q a before inside y sized = omega arith
  dwell_at (r ∷ rs) q a before (state, present, next, others) y sized =
      let rest = dwell_at rs (state_from q r) (input_from a r) (time_of r) others _ (with_sized t.inputs q a before y r sized) in
      let room : q < length y.dwell = rw sized.dwell (omega (arith, good.states.1)) in
      omega (arith, rest, more_at y.dwell q (time_of r - before) k room)

  pub pairs_at : (rs : List Record) (q a before : ℕ) → Within t q a rs → (y : Tally) → Sized y →
      get_or (counted_from t.inputs q a before y rs).pairs k 0 ≡
      get_or y.pairs k 0 + spent (λ p b. (p =? k / t.inputs) and (b =? k % t.inputs)) q a before rs
  unfolding counted_from with_record spent
  pairs_at [] q a before inside y sized = omega arith
  pairs_at (r ∷ rs) q a before (state, present, next, others) y sized =
      let rest = pairs_at rs (state_from q r) (input_from a r) (time_of r) others _ (with_sized t.inputs q a before y r sized) in
      let rows : t.states * t.inputs ≤ 1024 = mul-le-mul good.states.1 good.inputs.1 in
      let room : q * t.inputs + a < length y.pairs = rw sized.pairs (omega (arith, digits_lt state present)) in
      let here = rw (pair_place t.inputs q a k present) at (more_at y.pairs (q * t.inputs + a) (time_of r - before) k room) in
      omega (arith, rest, here)

  pub entries_at : (rs : List Record) (q a before : ℕ) → Within t q a rs → (y : Tally) → Sized y →
      get_or (counted_from t.inputs q a before y rs).entries k 0 ≡ get_or y.entries k 0 + moves_into k q rs
  unfolding counted_from with_record moves_into
  entries_at [] q a before inside y sized = omega arith
  entries_at (r ∷ rs) q a before (state, present, next, others) y sized =
      let rest = entries_at rs (state_from q r) (input_from a r) (time_of r) others _ (with_sized t.inputs q a before y r sized) in
      let room : state_from q r < length y.entries = rw sized.entries (omega (arith, good.states.1)) in
      omega (arith, rest, entry_at y.entries (state_from q r) q k room)
