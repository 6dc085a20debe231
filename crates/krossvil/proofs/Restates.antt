-- The converters of journals as entries that write.
use mathlib.Core.Path.{◌≡◌, refl, ◌∙◌}
use mathlib.Core.List.{List}
use mathlib.Core.Bool.{Bool, true, false}
use Prim.Native.Nat.{ℕ, ◌≤◌}
use native.Mathlib.Omega.{arith}
use borrow.Author.Tests.{ltb-false}
use lib.ListN.{length}
use Rattle.std.specs.Prelude.{Ok, Err, if◌then◌else◌}
use Rattle.wire.specs.Choice.{◌<?◌}
use Rattle.wire.specs.Made as made
use Rattle.wire.specs.Encode.{Bytes}
use Rattle.wire.specs.Made.{Made}
use Rattle.wire.specs.Reply.{gives}
use Rattle.table.specs.declared.Table.{Table}
use Rattle.table.specs.Check.{table_in}
use Rattle.records.specs.Form.{Form, journal, short, longest_journal}
use Rattle.records.specs.Encode.{written_in}
use Rattle.records.proofs.Written.{journal_recovers, short_recovers}
use Rattle.machine.specs.Walk.{RunOverBytes, run_over}
use Rattle.journal.specs.declared.Refusal as checks
use Rattle.journal.specs.Answer as journal_answer
use Rattle.journal.specs.Answer.{listed}
use Rattle.journal.specs.Check.{check_in}
use Rattle.journal.specs.Accepted.{AcceptedIn}
use Rattle.journal.proofs.Accepted.{judged, PassesOn, entry_of, entry_under, entry_refuses, entry_either}
use Rattle.journal.proofs.Ahead.{not_too_long}
use Rattle.restate.specs.declared.Refusal.{Refusal}
use Rattle.restate.specs.declared.Refusal.TheVariants.{Check, OldFormTooLong, BufferTooShort}
use Rattle.restate.specs.Answer.{RestateAnswer, restate_refusal, restate_ruled, reply_of}
use Rattle.restate.specs.Restate.{passed_on, restated, within_limit, shorten_of, lengthen_of}
use Rattle.restate.proofs.Restating.{restated_is, lengths}
use Rattle.restate.proofs.Entries.{to_short, to_journal, shortens, lengthens}
use Rattle.krossvil.specs.Host.{told, code_of, journal_told, short_told}
use Rattle.krossvil.specs.Small.{sized}
use Rattle.krossvil.proofs.Places.{checked_fits}
use Rattle.krossvil.proofs.Outcomes.{told_fits}
use Rattle.krossvil.proofs.Writers.{writer, Writer, SizeWriter, Gives, Tells, Small, WriteOwed, turned_down_owed, one_number, one_small}

-- How many bytes there are is told with them.
size_told : (bytes : List ℕ) → Gives reply_of 1 (Ok (length bytes))
size_told bytes = one_number (length bytes) refl

-- The reply, by its size or its refusal.
pub by_size : (a : RestateAnswer) → sized restate_refusal a ≡ reply_of a
by_size (Ok size) = refl
by_size (Err refusal) = refl

-- Either converter: what the check refuses fits.
module _ (F : Form) (few : F.most ≤ longest_journal) (table s : List ℕ) where
  refused_tells : (why : checks.Refusal) → check_in F table s ≡ Err why → Tells reply_of 1 (passed_on why)
  refused_tells why e = record { ruled = restate_ruled (Check why); place = (rw e at (checked_fits F few table s)).place }

  -- The check goes first, with room for its seven numbers. Its refusals are passed up, and no buffer changes.
  module _ (of : Table → RunOverBytes → Made RestateAnswer) (up : PassesOn passed_on of) where
    passed_up : (code : ℕ) → code ≡ code_of (told (journal_answer.reply_of (check_in F table s)) 28) → (code ≡ 0 → ⊥) →
        (tells : Tells reply_of 1 (entry_of passed_on of F table s)) → (buffer answer : List ℕ) →
        WriteOwed (writer reply_of (Err BufferTooShort) refl 1 (entry_of passed_on of F table s) tells) buffer answer code answer buffer
    passed_up code e other tells buffer answer =
        judged (check_in F table s)
        (λ n f. absurd (other (e ∙ rw (f, told_fits (gives (listed n)) 28 (omega arith)) refl)))
        (λ why f. turned_down_owed (writer reply_of (Err BufferTooShort) refl 1 (entry_of passed_on of F table s) tells) (Err (Check why))
        (entry_refuses passed_on of F table s up _ refl f) 28 code (rw f at e) buffer answer)

-- ---- To the short form: six bytes for every eight

pub shorten_tells : (table s : List ℕ) → Tells reply_of 1 (shorten_of table s)
unfolding shorten_of
shorten_tells table s =
    entry_either passed_on to_short journal table s shortens (Tells reply_of 1)
    (λ ok. rw (restated_is journal short refl refl journal_recovers table s ok) (size_told (written_in short ok.input ok.taken))) (refused_tells journal (omega arith) table s)

pub shorten_small : (table s : List ℕ) → Bytes s → Small reply_of (shorten_of table s)
unfolding shorten_of
shorten_small table s bytes =
    entry_either passed_on to_short journal table s shortens (Small reply_of)
    (λ ok. let l = lengths journal short refl refl journal_recovers table s ok bytes in
    rw (restated_is journal short refl refl journal_recovers table s ok) (one_small _ (omega (arith, l.given, l.written, not_too_long journal table s ok))))
    (λ why e. tt)

-- ---- And back: 34 keeps the length within a journal's

abbrev pub Says : Made RestateAnswer → Type 0
Says m = Tells reply_of 1 m × Small reply_of m

pub lengthen_says : (table s : List ℕ) → Says (lengthen_of table s)
unfolding lengthen_of within_limit
lengthen_says table s =
    entry_either passed_on to_journal short table s lengthens Says
    (λ ok. rw (restated_is short journal refl refl short_recovers table s ok) (sized (written_in journal ok.input ok.taken) _ refl))
    (λ why e. (refused_tells short (omega arith) table s why e, tt))
  where
    sized : (long : List ℕ) (b : Bool) → (longest_journal <? length long) ≡ b → Says (if b then made.refused (Err OldFormTooLong) else made.made (Ok (length long)) long)
    sized long true h = (record { ruled = restate_ruled OldFormTooLong; place = omega arith }, tt)
    sized long false h = (size_told long, one_small _ (omega (arith, ltb-false longest_journal (length long) h)))

-- ---- As entries

abbrev pub shorten_writer : (table s : List ℕ) → Writer
shorten_writer table s = writer reply_of (Err BufferTooShort) refl 1 (shorten_of table s) (shorten_tells table s)

abbrev pub lengthen_writer : (table s : List ℕ) → Writer
lengthen_writer table s = writer reply_of (Err BufferTooShort) refl 1 (lengthen_of table s) (lengthen_says table s).0

-- The bytes of a journal are given, as any slice's.
abbrev pub shorten_sizes : (table s : List ℕ) → Bytes s → SizeWriter
shorten_sizes table s bytes = record {
  R = Refusal;
  refused = restate_refusal;
  reply_of = reply_of;
  same = by_size;
  short = Err BufferTooShort;
  thirty = refl;
  makes = shorten_of table s;
  tells = shorten_tells table s;
  small = shorten_small table s bytes;
}

abbrev pub lengthen_sizes : (table s : List ℕ) → SizeWriter
lengthen_sizes table s = record {
  R = Refusal;
  refused = restate_refusal;
  reply_of = reply_of;
  same = by_size;
  short = Err BufferTooShort;
  thirty = refl;
  makes = lengthen_of table s;
  tells = (lengthen_says table s).0;
  small = (lengthen_says table s).1;
}

pub shorten_passed : (table s : List ℕ) (code : ℕ) → code ≡ code_of (journal_told table s 28) → (code ≡ 0 → ⊥) → (buffer answer : List ℕ) →
    WriteOwed (shorten_writer table s) buffer answer code answer buffer
unfolding shorten_of
shorten_passed table s code e other buffer answer = passed_up journal (omega arith) table s to_short shortens code e other (shorten_tells table s) buffer answer

pub lengthen_passed : (table s : List ℕ) (code : ℕ) → code ≡ code_of (short_told table s 28) → (code ≡ 0 → ⊥) → (buffer answer : List ℕ) →
    WriteOwed (lengthen_writer table s) buffer answer code answer buffer
unfolding lengthen_of
lengthen_passed table s code e other buffer answer = passed_up short (omega arith) table s to_journal lengthens code e other (lengthen_says table s).0 buffer answer

-- Bytes that were accepted, as the entry makes them.
pub shorten_under : (table s : List ℕ) → AcceptedIn journal table s → restated short (run_over journal (table_in table) s) ≡ shorten_of table s
unfolding shorten_of
shorten_under table s ok = entry_under passed_on to_short journal table s ok.passes

pub lengthen_under : (table s : List ℕ) → AcceptedIn short table s → within_limit (restated journal (run_over short (table_in table) s)) ≡ lengthen_of table s
unfolding lengthen_of
lengthen_under table s ok = entry_under passed_on to_journal short table s ok.passes
