-- The runtime as an entry that writes.
use mathlib.Core.Path.{◌≡◌, refl}
use mathlib.Core.List.{List}
use mathlib.Core.Bool.{false}
use Prim.Native.Nat.{ℕ}
use native.Mathlib.Omega.{arith}
use Rattle.std.specs.Prelude.{Ok, Err}
use Rattle.wire.specs.Made as made
use Rattle.wire.specs.Made.{Made}
use Rattle.table.specs.Check.{table_in}
use Rattle.table.proofs.Under.{under_either}
use Rattle.records.specs.Form.{stimulus}
use Rattle.machine.specs.Walk.{RunOverBytes, ran, too_long, refused, run_over}
use Rattle.writing.specs.declared.Refusal.TheVariants.{TooLong, BufferTooShort}
use Rattle.runtime.specs.declared.Refusal.TheVariants.{Table, Journal}
use Rattle.runtime.specs.declared.Refusal.{Refusal}
use Rattle.runtime.specs.Answer.{RuntimeAnswer, runtime_refusal, runtime_ruled, reply_of}
use Rattle.runtime.specs.Run.{made_of_run, made_under, run_of}
use Rattle.runtime.proofs.Lengths.{Short, under_short}
use Rattle.krossvil.specs.Small.{sized}
use Rattle.krossvil.proofs.TablePlaces.{table_refuses}
use Rattle.krossvil.proofs.Places.{RunBy, run_by, of_record}
use Rattle.krossvil.proofs.Writers.{Writer, SizeWriter, writer_of, Tells, Small, one_number, one_small}

abbrev pub Says : Made RuntimeAnswer → Type 0
Says m = Tells reply_of 1 m × Small reply_of m

pub says : (table s : List ℕ) → Says (run_of table s)
unfolding run_of made_of_run
says table s =
    under_either (λ why. made.refused (Err (Table why))) (λ t. made_under t s) table Says
    (λ passed. go (run_over stimulus (table_in table) s) (run_by stimulus (omega arith) (table_in table) s) (under_short (table_in table) s))
    (λ why e. (table_refuses false table why e, tt))
  where
    go : (r : RunOverBytes) → RunBy r → Short (made_of_run r) → Says (made_of_run r)
    go (ran input taken last) by short = (one_number _ refl, one_small _ (omega (arith, short)))
    go too_long by short = (record { ruled = runtime_ruled (Journal TooLong); place = omega arith }, tt)
    go (refused refusal place) by short = (of_record refusal place by, tt)

-- The reply, by its size or its refusal.
pub by_size : (a : RuntimeAnswer) → sized runtime_refusal a ≡ reply_of a
by_size (Ok size) = refl
by_size (Err refusal) = refl

abbrev pub run_sizes : (table s : List ℕ) → SizeWriter
run_sizes table s = record {
  R = Refusal;
  refused = runtime_refusal;
  reply_of = reply_of;
  same = by_size;
  short = Err (Journal BufferTooShort);
  thirty = refl;
  makes = run_of table s;
  tells = (says table s).0;
  small = (says table s).1;
}

abbrev pub run_writer : (table s : List ℕ) → Writer
run_writer table s = writer_of (run_sizes table s)
