-- Every code reads back, as specs/Codes states it: number and place fit, and no refusal has number 0.
use mathlib.Core.Path.{◌≡◌, refl}
use mathlib.Core.List.{List, []}
use mathlib.Core.Bool.{Bool, true, false}
use Prim.Native.Nat.{ℕ, ◌*◌}
use native.Mathlib.Omega.{arith}
use borrow.Author.Tests.{eqb-false}
use lib.ListN.{length, get_or}
use Rattle.std.specs.Prelude.{if◌then◌else◌, Ok, Err}
use Rattle.wire.specs.Choice.{◌<?◌, ◌≤?◌, ◌=?◌}
use Rattle.wire.specs.Reply.{Reply, gives, refuses, values_in}
use Rattle.wire.proofs.Apart.{apart}
use Rattle.table.specs.Check.{table_answer, table_in}
use Rattle.journal.specs.Answer as journal
use Rattle.journal.specs.Check.{check_of, check_short_of}
use Rattle.reaction.specs.Answer as reaction
use Rattle.reaction.specs.Reaction.{react_of}
use Rattle.moves.specs.Answer as moves
use Rattle.moves.specs.Moves.{judge_of, reaction_over, moves_of}
use Rattle.tight.specs.Answer as tight
use Rattle.tight.specs.Tight.{react_tight_of}
use Rattle.tight.specs.Several.{tight_moves_of}
use Rattle.report.specs.Report.{most_journals}
use Rattle.report.specs.Rows.{places_of}
use Rattle.krossvil.specs.Host.{told, code_of, made_told, room_for, after_check, report_told}
use Rattle.krossvil.specs.Small.{Fits}
use Rattle.krossvil.proofs.TablePlaces.{table_fits}
use Rattle.krossvil.proofs.Places.{journal_fits, short_fits, reaction_fits}
use Rattle.krossvil.proofs.Several.{judge_fits}
use Rattle.krossvil.proofs.Tights.{tight_fits, over_fits}
use Rattle.krossvil.proofs.Writers.{Writer, said}
use Rattle.krossvil.proofs.Runs.{run_writer}
use Rattle.krossvil.proofs.Converts.{convert_writer}
use Rattle.krossvil.proofs.Stamps.{stamped_writer}
use Rattle.krossvil.proofs.Restates.{shorten_writer, lengthen_writer}
use Rattle.krossvil.proofs.Salvages.{salvage_writer}
use Rattle.krossvil.proofs.Refusals.{Numbered, numbered}
use Rattle.krossvil.proofs.Accepting.{table_fine, journal_numbered}
use Rattle.krossvil.proofs.Reports.{report_numbered}
use Rattle.krossvil.proofs.Lives.{live_writer, watch_says, watch_fits}
use Rattle.demands.specs.Codes.{ReadsBack, EveryCodeReadsBack}
use Rattle.live.specs.Live.{watch_of}
use Rattle.demands.proofs.Entries.{moves_numbered}
use Rattle.demands.proofs.Live.{watch_numbered}

-- ---- One reply

reads_back : (reply : Reply) → Fits reply → Numbered reply → (code : ℕ) → code ≡ code_of reply → ReadsBack code reply
reads_back (gives values) fits numbered code e = record { number = omega arith; place = omega arith; success = (λ zero. (values, refl), λ s. omega arith) }
reads_back (refuses number place) fits numbered code e = record {
  number = omega (arith, fits.place);
  place = omega (arith, fits.place);
  success = (λ zero. absurd (eqb-false number 0 numbered (omega arith)), λ s. let is = s.1 in apart cc);
}

told_back : (reply : Reply) → Fits reply → Numbered reply → (room code : ℕ) → code ≡ code_of (told reply room) → ReadsBack code (told reply room)
unfolding told
told_back reply fits numbered room code e = go (room <? 4 * length (values_in reply)) e
  where
    go : (b : Bool) → code ≡ code_of (if b then refuses 30 0 else reply) → ReadsBack code (if b then refuses 30 0 else reply)
    go true f = reads_back (refuses 30 0) (record { number = omega arith; place = omega arith }) refl code f
    go false f = reads_back reply fits numbered code f

-- What an entry that writes replies, whatever the room.
writer_back : (w : Writer) (buffer : List ℕ) (room code : ℕ) → code ≡ code_of (made_told w.reply_of w.short w.makes buffer room) →
    ReadsBack code (made_told w.reply_of w.short w.makes buffer room)
writer_back w buffer room code e = let s = said w (length buffer) in told_back _ s.0 s.1 room code e

-- ---- The calculators

reaction_numbered : (a : reaction.ReactionAnswer) → Numbered (reaction.reply_of a)
reaction_numbered (Ok r) = tt
reaction_numbered (Err refusal) = numbered _ (reaction.reaction_ruled refusal)

tight_numbered : (a : tight.TightAnswer) → Numbered (tight.reply_of a)
tight_numbered (Ok r) = tt
tight_numbered (Err refusal) = numbered _ (reaction.reaction_ruled refusal)

over_numbered : (a : tight.Over) → Numbered (tight.over_reply a)
over_numbered (Ok r) = tt
over_numbered (Err refusal) = numbered _ (moves.moves_ruled refusal)

moves_fits : (table : List ℕ) (P A n sums path : ℕ) → Fits (moves.reply_of (moves_of table P A n sums path))
unfolding moves_of
moves_fits table P A n sums path = go (judge_of table P A n sums path) (judge_fits table P A n sums path)
  where
    go : (j : moves.Judged) → Fits (moves.judged_reply j) → Fits (moves.reply_of (moves.judged_then j (reaction_over (table_in table) P A n)))
    go (Ok passed) fits = record { number = omega arith; place = omega arith }
    go (Err refusal) fits = fits

-- ---- The report

report_fits : (table s report : List ℕ) → Fits (report_told table s report)
unfolding report_told room_for
report_fits table s report =
    go (journal.reply_of (check_of table s)) (journal_fits table s)
    (length report =? 0) (most_journals ≤? get_or report 0 0) (length report <? places_of (table_in table))
  where
    go : (checked : Reply) → Fits checked → (none most short : Bool) →
        Fits (after_check checked (if none then refuses 30 0 else if most then refuses 35 0 else if short then refuses 30 0 else gives []))
    go (refuses number place) fits none most short = fits
    go (gives values) fits true most short = record { number = omega arith; place = omega arith }
    go (gives values) fits false true short = record { number = omega arith; place = omega arith }
    go (gives values) fits false false true = record { number = omega arith; place = omega arith }
    go (gives values) fits false false false = record { number = omega arith; place = omega arith }

-- ---- The entries

pub every_code_reads_back : EveryCodeReadsBack
every_code_reads_back = (
  λ κs a r s p. reads_back _ (table_fits false a.0.now) (table_fine (table_answer a.0.now)) r p,
  λ κs a r s p. told_back _ (journal_fits a.0.now a.1.0.now) (journal_numbered (check_of a.0.now a.1.0.now)) _ r p.0,
  λ κs a r s p. writer_back (run_writer a.0.now a.1.0.now) a.1.1.0.now _ r p.0,
  λ κs a r s p.
      told_back _ (reaction_fits a.0.now a.1.0 a.1.1.0) (reaction_numbered (react_of a.0.now a.1.0 a.1.1.0)) _ r p.0,
  λ κs a r s p.
      let sums = length a.1.1.1.1.0.now in
      let path = length a.1.1.1.1.1.0.now in
      told_back _ (moves_fits a.0.now a.1.0 a.1.1.0 a.1.1.1.0 sums path)
      (moves_numbered (moves_of a.0.now a.1.0 a.1.1.0 a.1.1.1.0 sums path)) _ r p.0,
  λ κs a r s p. writer_back (convert_writer a.0.now) a.1.0.now _ r p.0,
  λ κs a r s p. writer_back (stamped_writer a.0.now) a.1.0.now _ r p.0,
  λ κs a r s p. told_back _ (short_fits a.0.now a.1.0.now) (journal_numbered (check_short_of a.0.now a.1.0.now)) _ r p.0,
  λ κs a r s p. writer_back (shorten_writer a.0.now a.1.0.now) a.1.1.0.now _ r p.0,
  λ κs a r s p. writer_back (lengthen_writer a.0.now a.1.0.now) a.1.1.0.now _ r p.0,
  λ κs a r s p.
      told_back _ (tight_fits a.0.now a.1.0 a.1.1.0) (tight_numbered (react_tight_of a.0.now a.1.0 a.1.1.0)) _ r p.0,
  λ κs a r s p. writer_back (salvage_writer a.0.now a.1.0.now) a.1.1.0.now _ r p.0,
  λ κs a r s p.
      reads_back _ (report_fits a.0.now a.1.0.now a.1.1.0.now) (report_numbered a.0.now a.1.0.now a.1.1.0.now) r p.0,
  λ κs a r s p. writer_back (live_writer a.0.now a.1.0.now a.1.1.0.now) a.1.1.1.0.now _ r p.0,
  λ κs a r s p.
      let watched = watch_of a.0.now a.1.0.now a.1.1.0.now in
      told_back _ (watch_fits watched (watch_says a.0.now a.1.0.now a.1.1.0.now)) (watch_numbered watched) _ r p.0,
  λ κs a r s p.
      told_back _ (over_fits a.0.now a.1.0 a.1.1.0 a.1.1.1.0)
      (over_numbered (tight_moves_of a.0.now a.1.0 a.1.1.0 a.1.1.1.0)) _ r p.0,
)
