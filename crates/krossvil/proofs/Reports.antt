-- The report that a host keeps: its room, and what the entry owes for each outcome.
use mathlib.Core.Path.{◌≡◌, refl, sym, ap, ◌∙◌}
use mathlib.Core.List.{List, []}
use mathlib.Core.Bool.{Bool, true, false}
use Prim.Native.Nat.{ℕ, ◌*◌, ◌^◌, ◌<◌, ◌≤◌}
use native.Mathlib.Omega.{arith}
use borrow.Author.Tests.{ltb-false}
use lib.ListN.{length, get_or}
use Rattle.std.specs.Prelude.{Ok, Err, if◌then◌else◌}
use Rattle.wire.specs.Choice.{◌<?◌, ◌≤?◌, ◌=?◌}
use Rattle.wire.specs.Reply.{Reply, gives, refuses, place_in, values_in}
use Rattle.wire.proofs.Apart.{apart}
use Rattle.table.specs.Check.{table_in}
use Rattle.records.specs.Form.{journal}
use Rattle.journal.specs.Answer.{JournalAnswer, reply_of}
use Rattle.journal.specs.Answer as check
use Rattle.journal.specs.Check.{check_of}
use Rattle.journal.specs.Accepted.{AcceptedIn}
use Rattle.journal.proofs.Accepted.{check_accepts}
use Rattle.tally.specs.Sums.{summed}
use Rattle.report.specs.Report.{most_journals}
use Rattle.report.specs.Rows.{places_of}
use Rattle.krossvil.specs.Host.{told, code_of, buffer_after, journal_told, room_for, after_check, report_told, report_row, report_after}
use Rattle.krossvil.specs.declared.telling.Refusal.{Refusal}
use Rattle.krossvil.specs.declared.telling.Refusal.TheVariants.{BufferTooShort, Full}
use Rattle.krossvil.specs.Small.{krossvil_refusal}
use Rattle.krossvil.proofs.Refusals.{Numbered, none}
use Rattle.krossvil.proofs.Outcomes.{told_fits}
use Rattle.krossvil.proofs.Accepting.{journal_numbered, buffer_kept}

-- ---- Its room

-- What an entry knows of it that found no fault with it.
pub record HasRoom (places : ℕ) (report : List ℕ) : Type 0 where
  pub is : room_for places report ≡ gives []
  pub room : places ≤ length report

pub has_room : (places : ℕ) (report : List ℕ) → gives [] ≡ room_for places report → HasRoom places report
unfolding room_for
has_room places report e =
    let h = go (length report =? 0) (most_journals ≤? get_or report 0 0) (length report <? places) refl (sym e) in
    record { is = h.0; room = h.1 }
  where
    go : (none most short : Bool) → (length report <? places) ≡ short →
        (if none then refuses 30 0 else if most then refuses 35 0 else if short then refuses 30 0 else gives []) ≡ gives [] →
        ((if none then refuses 30 0 else if most then refuses 35 0 else if short then refuses 30 0 else gives []) ≡ gives []) × (places ≤ length report)
    go true most short h f = apart cc
    go false true short h f = apart cc
    go false false true h f = apart cc
    go false false false h f = (refl, ltb-false (length report) places h)

-- What an entry turns down itself is no success, and its place is 0.
nonzero : (refusal : Refusal) → code_of (krossvil_refusal refusal) ≡ 0 → ⊥
nonzero BufferTooShort e = omega arith
nonzero Full e = omega arith

pub place_small : (refusal : Refusal) → place_in (krossvil_refusal refusal) < 2 ^ 32
place_small BufferTooShort = omega arith
place_small Full = omega arith

-- ---- What is told

room_numbered : (places : ℕ) (report : List ℕ) → Numbered (room_for places report)
unfolding room_for
room_numbered places report = go (length report =? 0) (most_journals ≤? get_or report 0 0) (length report <? places)
  where
    go : (none most short : Bool) → Numbered (if none then refuses 30 0 else if most then refuses 35 0 else if short then refuses 30 0 else gives [])
    go true most short = refl
    go false true short = refl
    go false false true = refl
    go false false false = tt

module _ (table s report : List ℕ) where
  pub report_numbered : Numbered (report_told table s report)
  unfolding report_told
  report_numbered =
      go (reply_of (check_of table s)) (journal_numbered (check_of table s)) (room_for (places_of (table_in table)) report) (room_numbered (places_of (table_in table)) report)
    where
      go : (checked : Reply) → Numbered checked → (later : Reply) → Numbered later → Numbered (after_check checked later)
      go (gives values) h later i = i
      go (refuses number place) h later i = h

  after_accepted : AcceptedIn journal table s → report_told table s report ≡ room_for (places_of (table_in table)) report
  unfolding report_told
  after_accepted ok = rw (check_accepts journal table s ok) refl

check_few : (a : JournalAnswer) → 4 * length (values_in (reply_of a)) ≤ 28
check_few (Ok n) = omega arith
check_few (Err why) = rw (none (check.journal_refusal why) (check.journal_ruled why)) (omega arith)

-- ---- What is owed

abbrev pub ReportOwed : (table s report : List ℕ) (code : ℕ) (after : List ℕ) → Type 0
ReportOwed table s report code after = (code ≡ code_of (report_told table s report)) × (after ≡ report_after table s report)

module _ (table s report : List ℕ) (code : ℕ) where
  turned_down : code ≡ code_of (report_told table s report) → (code ≡ 0 → ⊥) → ReportOwed table s report code report
  turned_down e other =
      (e, sym (buffer_kept (report_told table s report) (report_numbered table s report) (summed report (report_row table s)) report (λ zero. other (e ∙ zero))))

  -- The check's refusals are passed up.
  pub report_passed : code ≡ code_of (journal_told table s 28) → (code ≡ 0 → ⊥) → ReportOwed table s report code report
  unfolding report_told
  report_passed e other =
      turned_down (go (reply_of (check_of table s)) (room_for (places_of (table_in table)) report) (told_fits (reply_of (check_of table s)) 28 (check_few (check_of table s))) e) other
    where
      go : (checked later : Reply) → told checked 28 ≡ checked → code ≡ code_of (told checked 28) → code ≡ code_of (after_check checked later)
      go (gives values) later fits f = absurd (other (f ∙ ap code_of fits))
      go (refuses number place) later fits f = f ∙ ap code_of fits

  module _ (ok : AcceptedIn journal table s) where
    pub report_lacks : (refusal : Refusal) → krossvil_refusal refusal ≡ room_for (places_of (table_in table)) report → code ≡ code_of (krossvil_refusal refusal) →
        ReportOwed table s report code report
    report_lacks refusal is e =
        turned_down (e ∙ ap code_of (is ∙ sym (after_accepted table s report ok))) (λ zero. nonzero refusal (sym e ∙ zero))

    pub report_added : HasRoom (places_of (table_in table)) report → code ≡ 0 → (after : List ℕ) → after ≡ summed report (report_row table s) →
        ReportOwed table s report code after
    unfolding buffer_after
    report_added h zero after is = let e = after_accepted table s report ok ∙ h.is in rw (e, zero) (refl, is)
