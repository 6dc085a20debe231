-- The converter as an entry that writes.
use mathlib.Core.Path.{refl}
use mathlib.Core.List.{List}
use mathlib.Core.Bool.{true}
use Prim.Native.Nat.{ℕ}
use Rattle.std.specs.Prelude.{Err}
use Rattle.table.specs.Check.{old_answer}
use Rattle.table.proofs.Answers.{decided}
use Rattle.convert.specs.declared.Refusal.TheVariants.{BufferTooShort}
use Rattle.convert.specs.Answer.{reply_of}
use Rattle.convert.specs.Convert.{made_of}
use Rattle.krossvil.proofs.TablePlaces.{table_refuses}
use Rattle.krossvil.proofs.Writers.{Writer, writer, Tells, one_number}

pub tells : (table : List ℕ) → Tells reply_of 1 (made_of table)
unfolding made_of
tells table = decided (old_answer table) (λ e. rw e (one_number _ refl)) (λ refusal e. rw e (table_refuses true table refusal e))

abbrev pub convert_writer : (table : List ℕ) → Writer
convert_writer table = writer reply_of (Err BufferTooShort) refl 1 (made_of table) (tells table)
