-- Bytes that pass are an encoding, and the encoding of a well-formed table passes.
use mathlib.Core.Path.{◌≡◌, refl, sym, ap, ◌∙◌}
use mathlib.Core.List.{List, [], ◌∷◌, ◌++◌, append_assoc, append-nil}
use mathlib.Core.Bool.{Bool, true}
use Prim.Native.Nat.{ℕ, ◌*◌, ◌/◌, ◌%◌, ◌<◌, ◌≤◌}
use native.Mathlib.Nat.{mul-le-mul, mod-lt, div-add-mod', div-lt_iff_lt-mul}
use native.Mathlib.Omega.{arith}
use borrow.Author.Tests.{lt-ltb}
use lib.ListN.{get_or, take, drop}
use Rattle.std.specs.Prelude.{Ok}
use Rattle.wire.specs.Field.{byte_at}
use Rattle.wire.specs.Encode.{Bytes, bytes32, field}
use Rattle.wire.proofs.Laws.{WholeAt}
use Rattle.wire.proofs.Bytes.{number_written, field_written, number_read, field_read}
use Rattle.table.specs.declared.Refusal.TheVariants.{CountOutOfRange, BoundOutOfRange}
use Rattle.table.specs.declared.Table.{Table}
use Rattle.table.specs.Entries.{values}
use Rattle.table.specs.Table.{largest_bound, WellFormedBy}
use Rattle.table.specs.Encode.{table_bytes, timing}
use Rattle.table.specs.Check.{bytes_answer, output_row, next_row, counts_in, bound_in, is_between, counts_in_range, next_field}
use Rattle.table.specs.Check.{counts_answer, bound_answer, entries_answer, answer_by, table_with, table_of, table_in}
use Rattle.table.proofs.Answers.{holds, goes_on}
use Rattle.table.proofs.Rows.{row_stands, between}
use Rattle.table.proofs.Stands.{table_stands}
use Rattle.laws.proofs.Timing.{timing_read, counts_of, timing_written}
use Rattle.laws.proofs.Rows.{bytes_read, byte_row_read}
use Rattle.laws.proofs.Rows.{bytes_written, field_passes, row_passes, row_kept}

-- ---- Bytes that pass

module _ (s : List ℕ) (bytes : Bytes s) where
  counts_read : WholeAt s 0 0x01 4 → drop 0 s ≡ field 0x01 (byte_at s 3 ∷ byte_at s 4 ∷ byte_at s 5 ∷ byte_at s 6 ∷ []) ++ drop 7 s
  unfolding values
  counts_read whole = rw (← bytes_read s 3 4 whole.fits) (field_read s bytes 0 0x01 4 whole)

  bound_read : WholeAt s 7 0x02 4 → drop 7 s ≡ field 0x02 (bytes32 (bound_in s)) ++ drop 14 s
  bound_read whole = rw (← number_read s bytes 10 whole.fits) (field_read s bytes 7 0x02 4 whole)

-- By the old rules or by today's.
pub passes_encodes : (old : Bool) (s : List ℕ) → Bytes s → answer_by old s ≡ Ok tt → s ≡ table_bytes (table_in s)
unfolding table_with table_bytes
passes_encodes old s bytes e =
    let c = counts_in s in
    let stands = table_stands old s e in
    let known = stands.0 in
    let f₁ = counts_read s bytes known.counts_field in
    let f₂ = bound_read s bytes known.bound_field in
    let f₃ = byte_row_read s bytes 14 0x03 c.states 32 (row_stands _ _ _ _ _ _ known.outputs) in
    let f₄ = byte_row_read s bytes (next_field c) 0x04 (c.states * c.inputs) 1024 (row_stands _ _ _ _ _ _ known.next) in
    let f₅ = timing_read s bytes c old stands.1 in
    f₁ ∙ rw (f₂, f₃, f₄, f₅) (simp append_assoc)

-- ---- An encoding

module _ (t : Table) where
  counts_written : counts_in (table_bytes t) ≡ counts_of t
  unfolding table_bytes field
  counts_written = refl

  -- Grouped so that each field can be taken off the front.
  fields_written : drop 0 (table_bytes t) ≡
      field 0x01 (t.states ∷ t.inputs ∷ t.outputs ∷ t.initial ∷ [])
      ++ (field 0x02 (bytes32 t.bound)
      ++ (field 0x03 (take t.states t.output)
      ++ (field 0x04 (take (t.states * t.inputs) t.next) ++ (timing t ++ []))))
  unfolding table_bytes
  fields_written = simp (append_assoc, append-nil)

module _ (old : Bool) (t : Table) (ok : WellFormedBy old t) where
  counts_pass : counts_in_range (counts_of t) ≡ true
  counts_pass =
      rw (between 1 32 t.states ok.states, between 1 32 t.inputs ok.inputs, between 1 32 t.outputs ok.outputs)
      (lt-ltb t.initial t.states ok.initial)

  next_below : (k : ℕ) → k < t.states * t.inputs → get_or t.next k 0 < t.states
  next_below k h =
      let some = ok.inputs.0 in
      rw (div-add-mod' k t.inputs) at (ok.next (k / t.inputs) (k % t.inputs) ((div-lt_iff_lt-mul some).1 h) (mod-lt k some))

-- Of field i: fᵢ, it stands as written; pᵢ, the check lets it pass; kᵢ, its array is kept. The last two fields are Timing's.
pub encoding_passes : (old : Bool) (t : Table) → WellFormedBy old t → (answer_by old (table_bytes t) ≡ Ok tt) × (table_in (table_bytes t) ≡ t)
unfolding answer_by counts_answer bound_answer entries_answer table_with
encoding_passes old t ok =
    let s = table_bytes t in
    let c = counts_of t in
    let q = t.states in
    let few : q ≤ 32 = ok.states.1 in
    let many : q * t.inputs ≤ 1024 = mul-le-mul few ok.inputs.1 in
    let f₁ = field_written s _ _ 0 0x01 4 refl (omega arith) (fields_written t) in
    let f₂ = field_written s _ (bytes32 t.bound) 7 0x02 4 refl (omega arith) f₁.ends in
    let f₃ = bytes_written s _ t.output 14 0x03 q (rw ok.output_uses.places few) (omega arith) f₂.ends in
    let f₄ = bytes_written s _ t.next (next_field c) 0x04 (q * t.inputs) (rw ok.next_uses.places many) (omega arith) f₃.ends in
    let rest = timing_written old t ok s f₄.ends in
    let bound : bound_in s ≡ t.bound = number_written s _ 10 t.bound f₂.holds in
    let counts : counts_in_range (counts_in s) ≡ true = ap counts_in_range (counts_written t) ∙ counts_pass old t ok in
    let bounded : is_between 1 largest_bound (bound_in s) ≡ true = rw bound (between 1 largest_bound t.bound ok.bound) in
    let p₁ : Ok tt ≡ counts_answer s = goes_on (field_passes s 0 0x01 4 f₁.whole) (sym (holds (CountOutOfRange 0) counts)) in
    let p₂ : Ok tt ≡ bound_answer s = goes_on (field_passes s 7 0x02 4 f₂.whole) (sym (holds (BoundOutOfRange 7) bounded)) in
    let p₃ : bytes_answer s (output_row c) ≡ Ok tt = row_passes f₃ _ _ ok.output in
    let p₄ : bytes_answer s (next_row c) ≡ Ok tt = row_passes f₄ _ _ (next_below old t ok) in
    let entries : Ok tt ≡ entries_answer old c s = goes_on p₃ (goes_on p₄ (sym rest.passes)) in
    let k₃ = row_kept f₃ 32 few ok.output_uses in
    let k₄ = row_kept f₄ 1024 many ok.next_uses in
    let kept : table_of c s ≡ t = rw (bound, rest.timers, k₃, k₄, rest.hold, rest.delayed, rest.timing, rest.sets) refl in (
      sym (goes_on (sym p₁) (goes_on (sym p₂) (entries ∙ sym (ap (λ d. entries_answer old d s) (counts_written t))))),
      ap (λ d. table_of d s) (counts_written t) ∙ kept,
    )
