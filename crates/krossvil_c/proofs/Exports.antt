-- Each export promises what krossvil's function of its name promises: what is asked of the arguments is the same, and so is what is said of
-- the result and of all that is left. So the theorems about the contracts in krossvil hold of the exports.
use mathlib.Core.Path.{◌≡◌, refl}
use Rattle.krossvil.proofs.tables.krossvil_check_table.Reads as check_table
use Rattle.krossvil_c.proofs.tables.krossvil_check_table.Reads as check_table_in_c
use Rattle.krossvil.proofs.checking.krossvil_check_journal.Reads as check_journal
use Rattle.krossvil_c.proofs.checking.krossvil_check_journal.Reads as check_journal_in_c
use Rattle.krossvil.proofs.running.krossvil_run.Reads as run
use Rattle.krossvil_c.proofs.running.krossvil_run.Reads as run_in_c
use Rattle.krossvil.proofs.reacting.krossvil_reaction.Reads as reaction
use Rattle.krossvil_c.proofs.reacting.krossvil_reaction.Reads as reaction_in_c
use Rattle.krossvil.proofs.reacting.krossvil_reaction_moves.Reads as reaction_moves
use Rattle.krossvil_c.proofs.reacting.krossvil_reaction_moves.Reads as reaction_moves_in_c
use Rattle.krossvil.proofs.tables.krossvil_convert_table.Reads as convert_table
use Rattle.krossvil_c.proofs.tables.krossvil_convert_table.Reads as convert_table_in_c
use Rattle.krossvil.proofs.restating.krossvil_read_stamped.Reads as read_stamped
use Rattle.krossvil_c.proofs.restating.krossvil_read_stamped.Reads as read_stamped_in_c
use Rattle.krossvil.proofs.checking.krossvil_check_short.Reads as check_short
use Rattle.krossvil_c.proofs.checking.krossvil_check_short.Reads as check_short_in_c
use Rattle.krossvil.proofs.restating.krossvil_shorten.Reads as shorten
use Rattle.krossvil_c.proofs.restating.krossvil_shorten.Reads as shorten_in_c
use Rattle.krossvil.proofs.restating.krossvil_lengthen.Reads as lengthen
use Rattle.krossvil_c.proofs.restating.krossvil_lengthen.Reads as lengthen_in_c
use Rattle.krossvil.proofs.reacting.krossvil_reaction_tight.Reads as reaction_tight
use Rattle.krossvil_c.proofs.reacting.krossvil_reaction_tight.Reads as reaction_tight_in_c
use Rattle.krossvil.proofs.reacting.krossvil_reaction_tight_moves.Reads as reaction_tight_moves
use Rattle.krossvil_c.proofs.reacting.krossvil_reaction_tight_moves.Reads as reaction_tight_moves_in_c
use Rattle.krossvil.proofs.salvaging.krossvil_salvage.Reads as salvage
use Rattle.krossvil_c.proofs.salvaging.krossvil_salvage.Reads as salvage_in_c
use Rattle.krossvil.proofs.reporting.krossvil_report_add.Reads as report_add
use Rattle.krossvil_c.proofs.reporting.krossvil_report_add.Reads as report_add_in_c
use Rattle.krossvil.proofs.living.krossvil_live.Reads as live
use Rattle.krossvil_c.proofs.living.krossvil_live.Reads as live_in_c
use Rattle.krossvil.proofs.living.krossvil_watch.Reads as watch
use Rattle.krossvil_c.proofs.living.krossvil_watch.Reads as watch_in_c

pub record ExportsPromiseTheSame : Type 1 where
  pub check_table_same : (check_table_in_c.Pre ≡ check_table.Pre) × (check_table_in_c.Post ≡ check_table.Post)
  pub check_journal_same : (check_journal_in_c.Pre ≡ check_journal.Pre) × (check_journal_in_c.Post ≡ check_journal.Post)
  pub run_same : (run_in_c.Pre ≡ run.Pre) × (run_in_c.Post ≡ run.Post)
  pub reaction_same : (reaction_in_c.Pre ≡ reaction.Pre) × (reaction_in_c.Post ≡ reaction.Post)
  pub reaction_moves_same : (reaction_moves_in_c.Pre ≡ reaction_moves.Pre) × (reaction_moves_in_c.Post ≡ reaction_moves.Post)
  pub convert_table_same : (convert_table_in_c.Pre ≡ convert_table.Pre) × (convert_table_in_c.Post ≡ convert_table.Post)
  pub read_stamped_same : (read_stamped_in_c.Pre ≡ read_stamped.Pre) × (read_stamped_in_c.Post ≡ read_stamped.Post)
  pub check_short_same : (check_short_in_c.Pre ≡ check_short.Pre) × (check_short_in_c.Post ≡ check_short.Post)
  pub shorten_same : (shorten_in_c.Pre ≡ shorten.Pre) × (shorten_in_c.Post ≡ shorten.Post)
  pub lengthen_same : (lengthen_in_c.Pre ≡ lengthen.Pre) × (lengthen_in_c.Post ≡ lengthen.Post)
  pub reaction_tight_same : (reaction_tight_in_c.Pre ≡ reaction_tight.Pre) × (reaction_tight_in_c.Post ≡ reaction_tight.Post)
  pub reaction_tight_moves_same : (reaction_tight_moves_in_c.Pre ≡ reaction_tight_moves.Pre) × (reaction_tight_moves_in_c.Post ≡ reaction_tight_moves.Post)
  pub salvage_same : (salvage_in_c.Pre ≡ salvage.Pre) × (salvage_in_c.Post ≡ salvage.Post)
  pub report_add_same : (report_add_in_c.Pre ≡ report_add.Pre) × (report_add_in_c.Post ≡ report_add.Post)
  pub live_same : (live_in_c.Pre ≡ live.Pre) × (live_in_c.Post ≡ live.Post)
  pub watch_same : (watch_in_c.Pre ≡ watch.Pre) × (watch_in_c.Post ≡ watch.Post)

-- The clauses are the same, word for word.
pub exports_promise_the_same : ExportsPromiseTheSame
exports_promise_the_same = record {
  check_table_same = (refl, refl);
  check_journal_same = (refl, refl);
  run_same = (refl, refl);
  reaction_same = (refl, refl);
  reaction_moves_same = (refl, refl);
  convert_table_same = (refl, refl);
  read_stamped_same = (refl, refl);
  check_short_same = (refl, refl);
  shorten_same = (refl, refl);
  lengthen_same = (refl, refl);
  reaction_tight_same = (refl, refl);
  reaction_tight_moves_same = (refl, refl);
  salvage_same = (refl, refl);
  report_add_same = (refl, refl);
  live_same = (refl, refl);
  watch_same = (refl, refl);
}
