-- Salvage as an entry that writes.
use mathlib.Core.Path.{◌≡◌, refl, sym, ap, ◌∙◌}
use mathlib.Core.List.{List, [], ◌∷◌}
use mathlib.Core.Bool.{Bool, true, false}
use Prim.Native.Nat.{ℕ, zero, suc, ◌/◌, ◌%◌, ◌^◌, ◌<◌, ◌≤◌}
use native.Mathlib.Omega.{arith}
use borrow.Author.Tests.{lt-ltb, le-ltb, eqb-false}
use lib.ListN.{length, get_or}
use Rattle.std.specs.Prelude.{Ok, Err, if◌then◌else◌}
use Rattle.wire.specs.Choice.{◌=?◌}
use Rattle.wire.specs.Made.{Made}
use Rattle.wire.specs.Reply.{gives, number_in, place_in}
use Rattle.wire.proofs.Choice.{never}
use Rattle.table.specs.declared.Table.{Table}
use Rattle.table.specs.Answer as table_answers
use Rattle.table.specs.Check.{table_in}
use Rattle.table.proofs.Under.{under_either}
use Rattle.records.specs.declared.Stop.{Stop}
use Rattle.records.specs.Refusal.{number_of}
use Rattle.records.proofs.Places.{refusal_numbered}
use Rattle.records.specs.Form as form
use Rattle.records.specs.Form.{longest_journal}
use Rattle.machine.specs.Walk.{RunOverBytes, ran, too_long, refused, run_over}
use Rattle.journal.specs.declared.Refusal as checks
use Rattle.journal.specs.declared.Refusal.TheVariants as checked
use Rattle.journal.specs.Answer as journal
use Rattle.journal.specs.Answer.{listed}
use Rattle.journal.specs.Check.{answer_of_run, check_under, check_in, check_of}
use Rattle.salvage.specs.declared.Refusal.TheVariants.{Check, BufferTooShort}
use Rattle.salvage.specs.Answer.{SalvageAnswer, salvage_ruled, reply_of}
use Rattle.salvage.specs.Salvage.{salvaged, turned_down, closed, salvage_of}
use Rattle.salvage.specs.Backwards.{SaidOf, cut_within, fields_before}
use Rattle.salvage.proofs.Checking.{made_of, Placed, agrees}
use Rattle.salvage.proofs.Looking.{tick_within}
use Rattle.krossvil.specs.Host.{code_of, journal_told}
use Rattle.krossvil.specs.Small.{Fits, passed_up}
use Rattle.krossvil.proofs.TablePlaces.{table_low}
use Rattle.krossvil.proofs.Places.{refusal_high, journal_fits}
use Rattle.krossvil.proofs.Refusals.{none}
use Rattle.krossvil.proofs.Outcomes.{told_fits}
use Rattle.krossvil.proofs.Accepting.{table_numbered}
use Rattle.krossvil.proofs.Writers.{Writer, writer, Gives, Tells, Small, WriteOwed, turned_down_owed}

abbrev pub Says : Made SalvageAnswer → Type 0
Says m = Tells reply_of 4 m × Small reply_of m

-- ---- By the journal check's answer

report_said : (kept dropped number place : ℕ) → kept ≤ longest_journal → dropped ≤ longest_journal → number ≤ 36 → place ≤ longest_journal →
    Gives reply_of 4 (salvaged kept dropped number place) × ((k : ℕ) → get_or (kept ∷ dropped ∷ number ∷ place ∷ []) k 0 < 2 ^ 32)
report_said kept dropped number place h₁ h₂ h₃ h₄ = (record { values = kept ∷ dropped ∷ number ∷ place ∷ []; count = refl; is = refl }, go)
  where
    go : (k : ℕ) → get_or (kept ∷ dropped ∷ number ∷ place ∷ []) k 0 < 2 ^ 32
    go zero = omega arith
    go (suc zero) = omega arith
    go (suc (suc zero)) = omega arith
    go (suc (suc (suc zero))) = omega arith
    go (suc (suc (suc (suc k)))) = omega arith

pub says : (table s : List ℕ) → Says (salvage_of table s)
says table s = rw (agrees s table).is (go (check_of table s) (agrees s table).placed (journal_fits table s))
  where
    go : (x : journal.JournalAnswer) → Placed s x → Fits (journal.reply_of x) → Says (made_of s x)
    go (Ok n) short fits = report_said (length s) 0 0 0 short (omega arith) (omega arith) (omega arith)
    go (Err (checked.Table refusal)) h fits = (record { ruled = salvage_ruled (Check (checked.Table refusal)); place = fits.place }, tt)
    go (Err checked.TooLong) h fits = (record { ruled = salvage_ruled (Check checked.TooLong); place = omega arith }, tt)
    go (Err (checked.Record stop)) placed fits = by_place (stop.place =? 0) refl
      where
        by_place : (b : Bool) → (stop.place =? 0) ≡ b →
            Says (if b then turned_down (Check (checked.Record stop)) else closed s (cut_within s (fields_before stop.place)) (number_of stop.refusal) stop.place)
        by_place true e = (record { ruled = salvage_ruled (Check (checked.Record stop)); place = fits.place }, tt)
        by_place false e =
            let h = placed (eqb-false stop.place 0 e) in
            report_said _ _ _ _ (omega (arith, h.0, h.1, h.2, tick_within s (fields_before stop.place))) (omega (arith, h.2)) fits.number (omega (arith, h.1, h.2))

abbrev pub salvage_writer : (table s : List ℕ) → Writer
salvage_writer table s = writer reply_of (Err BufferTooShort) refl 4 (salvage_of table s) (says table s).0

pub salvage_small : (table s : List ℕ) → Small reply_of (salvage_of table s)
salvage_small table s = (says table s).1

-- ---- The check goes first, with room for its seven numbers

-- The table's numbers are below 20.
abbrev TableSaid : journal.JournalAnswer → Type 0
TableSaid (Ok n) = Unit
TableSaid (Err (checked.Table refusal)) = number_in (table_answers.table_refusal refusal) < 20
TableSaid (Err checked.TooLong) = Unit
TableSaid (Err (checked.Record stop)) = Unit

under_said : (t : Table) (r : RunOverBytes) → TableSaid (answer_of_run t r)
unfolding answer_of_run
under_said t (ran input taken last) = tt
under_said t too_long = tt
under_said t (refused refusal place) = tt

table_said : (table s : List ℕ) → TableSaid (check_of table s)
unfolding check_in
table_said table s =
    under_either (λ why. Err (checked.Table why)) (λ t. check_under form.journal t s) table TableSaid
    (λ pass. under_said (table_in table) (run_over form.journal (table_in table) s)) (λ refusal r. rw r at (table_low false table))

-- What the check told is passed up, or it is what salvage goes by.
pub data Heard (table s : List ℕ) (number place : ℕ) : Type 0 where
  goes_on : passed_up number place ≡ false → SaidOf (check_of table s) number place → Heard table s number place
  stops : passed_up number place ≡ true → (why : checks.Refusal) → check_of table s ≡ Err why → salvage_of table s ≡ turned_down (Check why) →
      Heard table s number place

module _ (table s : List ℕ) (code number place : ℕ) (e : code ≡ code_of (journal_told table s 28)) (number_is : number ≡ code / 4294967296)
    (place_is : place ≡ code % 4294967296) where
  -- One number holds both.
  told_apart : (why : checks.Refusal) → check_of table s ≡ Err why → (number ≡ number_in (journal.journal_refusal why)) × (place ≡ place_in (journal.journal_refusal why))
  told_apart why f =
      let fits : Fits (journal.journal_refusal why) = rw f at (journal_fits table s) in
      let whole : code ≡ code_of (journal.journal_refusal why) = (rw f at e) ∙ ap code_of (told_fits (journal.journal_refusal why) 28 (rw (none (journal.journal_refusal why) (journal.journal_ruled why)) (omega arith))) in
      (omega (arith, fits.place), omega (arith, fits.place))

  heard : Heard table s number place
  unfolding passed_up
  heard = go (check_of table s) refl (table_said table s)
    where
      stopped : (stop : Stop) → check_of table s ≡ Err (checked.Record stop) → (number ≡ number_of stop.refusal) × (place ≡ stop.place) →
          (b : Bool) → (stop.place =? 0) ≡ b → Heard table s number place
      stopped stop f (n, p) true z =
          stops (rw (n, p, refusal_numbered stop.refusal, le-ltb (number_of stop.refusal) 20 (refusal_high stop.refusal), z) refl) (checked.Record stop) f
          ((agrees s table).is ∙ rw (f, z) refl)
      stopped stop f (n, p) false z =
          goes_on (rw (n, p, refusal_numbered stop.refusal, le-ltb (number_of stop.refusal) 20 (refusal_high stop.refusal), z) refl)
          (rw f (n, p, eqb-false stop.place 0 z))

      go : (a : journal.JournalAnswer) → check_of table s ≡ a → TableSaid a → Heard table s number place
      go (Ok n) f said =
          let none : code ≡ 0 = e ∙ rw (f, told_fits (gives (listed n)) 28 (omega arith)) refl in
          let zero : number ≡ 0 = omega arith in
          goes_on (rw zero refl) (rw f zero)
      go (Err (checked.Table x)) f low =
          let n = told_apart (checked.Table x) f in
          stops (rw (n.0, table_numbered x, lt-ltb (number_in (table_answers.table_refusal x)) 20 low) refl) (checked.Table x) f ((agrees s table).is ∙ rw f refl)
      go (Err checked.TooLong) f said =
          let n = told_apart checked.TooLong f in
          stops (rw n.0 refl) checked.TooLong f ((agrees s table).is ∙ rw f refl)
      go (Err (checked.Record stop)) f said = stopped stop f (told_apart (checked.Record stop) f) (stop.place =? 0) refl

  -- What the entry needs of it.
  pub salvage_said : passed_up number place ≡ false → SaidOf (check_of table s) number place
  salvage_said left = go heard
    where
      go : Heard table s number place → SaidOf (check_of table s) number place
      go (goes_on f said) = said
      go (stops f why is made) = never (sym left ∙ f)

  pub salvage_passed : passed_up number place ≡ true → (buffer answer : List ℕ) → WriteOwed (salvage_writer table s) buffer answer code answer buffer
  salvage_passed up buffer answer = go heard
    where
      go : Heard table s number place → WriteOwed (salvage_writer table s) buffer answer code answer buffer
      go (goes_on f said) = never (sym f ∙ up)
      go (stops f why is made) = turned_down_owed (salvage_writer table s) (Err (Check why)) made 28 code (rw is at e) buffer answer
