-- The entry, outcome by outcome: the answer, and the buffer with it.
use mathlib.Core.Path.{◌≡◌, refl, sym, ap, ◌∙◌}
use mathlib.Core.List.{List, ◌++◌}
use mathlib.Core.Bool.{true}
use Prim.Native.Nat.{ℕ, ◌+◌, ◌<◌, ◌≤◌}
use native.Mathlib.Omega.{arith}
use lib.ListN.{length, take, drop, length-append}
use lib.Seq.{length-take-le, take-length, take-append-le, drop_at}
use Rattle.std.specs.Prelude.{Ok, Err}
use Rattle.wire.specs.Encode.{placed_in}
use Rattle.wire.specs.Made.{made}
use Rattle.wire.proofs.Made as writers
use Rattle.wire.proofs.Made.{owed_refused, owed_short, owed_made}
use Rattle.table.specs.declared.Refusal.{Refusal}
use Rattle.table.specs.Answer as checked
use Rattle.table.specs.Entries.{values}
use Rattle.table.specs.Encode.{words}
use Rattle.table.specs.Check.{hold_field, delayed_field, counts_in, old_answer}
use Rattle.table.proofs.Stands.{HoldsStand, old_stands}
use Rattle.convert.specs.declared.Refusal.TheVariants.{Table, BufferTooShort}
use Rattle.convert.specs.Answer.{ConvertAnswer}
use Rattle.convert.specs.Convert.{new_set, by_state, new_bytes, changes, made_of}
use Rattle.convert.proofs.Writing.{length_sets}

pub is_made : (s : List ℕ) → old_answer s ≡ Ok tt → made_of s ≡ made (Ok (changes (counts_in s) s)) (new_bytes (counts_in s) s)
unfolding made_of
is_made s passes = rw passes refl

module _ (s buffer : List ℕ) where
  abbrev Owed : ConvertAnswer → List ℕ → Type 0
  Owed answer after = writers.Owed (Err BufferTooShort) (made_of s) answer buffer after

  pub table_refused : {a : checked.TableAnswer} {refusal : Refusal} → a ≡ old_answer s → a ≡ Err refusal → Owed (Err (Table refusal)) buffer
  unfolding made_of
  table_refused is h = owed_refused _ (made_of s) _ buffer (rw (sym is ∙ h) refl)

  module _ (passes : old_answer s ≡ Ok tt) where
    stands : HoldsStand true s (counts_in s)
    stands = (old_stands s passes).1

    abbrev start : ℕ
    start = delayed_field (counts_in s) + 3

    abbrev sets : List ℕ
    sets = words (values (by_state new_set s (hold_field (counts_in s)) (delayed_field (counts_in s))) (counts_in s).states)

    -- The new table is as long as the old one.
    pub new_length : length (new_bytes (counts_in s) s) ≡ length s
    unfolding new_bytes
    new_length =
        let front = length-take-le start s (omega (arith, stands.ends)) in
        let back = length_sets (by_state new_set s (hold_field (counts_in s)) (delayed_field (counts_in s))) (counts_in s).states in
        length-append (take start s) sets ∙ omega (arith, front, back, stands.ends)

    pub no_room : length buffer < length s → Owed (Err BufferTooShort) buffer
    no_room h = owed_short _ _ _ _ buffer (is_made s passes) (rw new_length h)

    -- The old table was copied, and then its sets were written over.
    module _ (copied : List ℕ) (copy : copied ≡ take (length s) s ++ drop (length s) buffer) where
      written : placed_in copied start sets ≡ new_bytes (counts_in s) s ++ drop (length (new_bytes (counts_in s) s)) buffer
      unfolding new_bytes
      written =
          let rest = drop (length s) buffer in
          let is : copied ≡ s ++ rest = rw (take-length s) at copy in
          let front : take start copied ≡ take start s = ap (take start) is ∙ take-append-le start s rest (omega (arith, stands.ends)) in
          let long : start + length sets ≡ length s = omega (arith, length_sets (by_state new_set s (hold_field (counts_in s)) (delayed_field (counts_in s))) (counts_in s).states, stands.ends) in
          let back : drop (start + length sets) copied ≡ rest = rw (long, is) (drop_at s rest (length s) refl) in
          rw (front, back, new_length) refl

      pub converted : length s ≤ length buffer → (out : List ℕ) → out ≡ placed_in copied start sets →
          (changed : ℕ) → changed ≡ changes (counts_in s) s → Owed (Ok changed) out
      converted room out o changed n = rw n (owed_made _ _ _ _ buffer (is_made s passes) (rw new_length room) out (o ∙ written))

-- The buffer with the copy is as long as the old table at least.
pub copied_long : (s buffer copied : List ℕ) → copied ≡ take (length s) s ++ drop (length s) buffer → length s ≤ length copied
copied_long s buffer copied e = rw (e, take-length s, length-append) (omega arith)
