-- What holds of every entry's contract, as specs/Entries has them; proofs/EveryEntry proves each.
use Rattle.std.specs.Prelude.{◌≡◌, ℕ, Err}
use contract.Lifetimes.{Lfts}
use Rattle.wire.specs.Reply.{number_in}
use Rattle.records.specs.declared.Refusal.TheVariants.{Differs}
use Rattle.records.specs.Refusal.{stopped}
use Rattle.writing.specs.declared.Refusal.TheVariants as why
use Rattle.runtime.specs.declared.Refusal.TheVariants.{Journal}
use Rattle.runtime.specs.Answer.{reply_of}
use Rattle.moves.specs.Answer as moves_answer
use Rattle.convert.specs.Answer as convert_answer
use Rattle.writing.specs.Answer as stamped_answer
use Rattle.restate.specs.Answer as restate_answer
use Rattle.salvage.specs.Answer as salvage_answer
use Rattle.report.specs.Answer as report_answer
use Rattle.live.specs.Answer as live_answer
use Rattle.demands.specs.Entries.{Contract, table_check, journal_check, runtime_run, reaction_react, moves_react, converter, stamped_reader, short_check, shortener, lengthener, tight_react, salvager, report_begin, report_add}
use Rattle.demands.specs.Entries.{live_takes, live_watches, live_looks, live_in_c, watch_in_c, tight_over, tight_over_in_c}
use Rattle.demands.specs.Entries.{table_in_c, journal_in_c, run_in_c, reaction_in_c, moves_in_c, converter_in_c, stamped_in_c, short_in_c, shortener_in_c, lengthener_in_c, tight_in_c, salvager_in_c, report_in_c}

-- ---- Every answer is determined

-- The contract asks nothing and allows one outcome: the result, and every lent byte.
pub record Determines (C : Contract) : Type 0 where
  pub asks_nothing : (κs : Lfts C.lifetimes) (a : C.Args κs) → C.Pre κs a
  pub one_outcome : (κs : Lfts C.lifetimes) (a : C.Args κs) (r r' : C.Result κs) (s s' : C.Exit κs) →
      C.Post κs a r s → C.Post κs a r' s' → (r ≡ r') × (C.left κs s ≡ C.left κs s')

abbrev pub EveryEntryDetermines : Type 0
EveryEntryDetermines =
    Determines table_check × Determines journal_check × Determines runtime_run × Determines reaction_react × Determines moves_react × Determines converter
    × Determines stamped_reader × Determines short_check × Determines shortener × Determines lengthener × Determines tight_react × Determines salvager
    × Determines report_begin × Determines report_add
    × Determines table_in_c × Determines journal_in_c × Determines run_in_c × Determines reaction_in_c × Determines moves_in_c × Determines converter_in_c
    × Determines stamped_in_c × Determines short_in_c × Determines shortener_in_c × Determines lengthener_in_c × Determines tight_in_c × Determines salvager_in_c
    × Determines report_in_c
    × Determines live_takes × Determines live_watches × Determines live_looks × Determines live_in_c × Determines watch_in_c
    × Determines tight_over × Determines tight_over_in_c

-- ---- A refusal changes no lent byte

abbrev pub RefusalKeeps : (C : Contract) → ((κs : Lfts C.lifetimes) → C.Result κs → ℕ) → Type 0
RefusalKeeps C number = (κs : Lfts C.lifetimes) (a : C.Args κs) (r : C.Result κs) (s : C.Exit κs) →
    C.Post κs a r s → (number κs r ≡ 0 → ⊥) → C.left κs s ≡ C.lent κs a

abbrev pub EveryRefusalKeeps : Type 0
EveryRefusalKeeps =
    RefusalKeeps runtime_run (λ κs r. number_in (reply_of r)) × RefusalKeeps moves_react (λ κs r. number_in (moves_answer.reply_of r))
    × RefusalKeeps converter (λ κs r. number_in (convert_answer.reply_of r))
    × RefusalKeeps stamped_reader (λ κs r. number_in (stamped_answer.reply_of r))
    × RefusalKeeps shortener (λ κs r. number_in (restate_answer.reply_of r)) × RefusalKeeps lengthener (λ κs r. number_in (restate_answer.reply_of r))
    × RefusalKeeps salvager (λ κs r. number_in (salvage_answer.reply_of r))
    × RefusalKeeps journal_in_c (λ κs r. r) × RefusalKeeps run_in_c (λ κs r. r) × RefusalKeeps reaction_in_c (λ κs r. r)
    × RefusalKeeps moves_in_c (λ κs r. r)
    × RefusalKeeps converter_in_c (λ κs r. r) × RefusalKeeps stamped_in_c (λ κs r. r)
    × RefusalKeeps short_in_c (λ κs r. r) × RefusalKeeps shortener_in_c (λ κs r. r) × RefusalKeeps lengthener_in_c (λ κs r. r) × RefusalKeeps tight_in_c (λ κs r. r)
    × RefusalKeeps salvager_in_c (λ κs r. r)
    × RefusalKeeps report_in_c (λ κs r. r)
    × RefusalKeeps live_takes (λ κs r. number_in (live_answer.reply_of r)) × RefusalKeeps live_watches (λ κs r. number_in (live_answer.watch_reply r))
    × RefusalKeeps live_in_c (λ κs r. r) × RefusalKeeps watch_in_c (λ κs r. r)
    × RefusalKeeps tight_over_in_c (λ κs r. r)
    × RefusalKeeps report_add (λ κs r. number_in (report_answer.reply_of r))

-- ---- The runtime never gives 28

abbrev pub RunNeverDiffers : Type 0
RunNeverDiffers = (κs : Lfts 3) (a : runtime_run.Args κs) (r : runtime_run.Result κs) (s : runtime_run.Exit κs) → runtime_run.Post κs a r s →
    (place : ℕ) → r ≡ Err (Journal (why.Record (stopped Differs place))) → ⊥
