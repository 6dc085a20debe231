-- The number that a host program in C gets back tells the reply; proofs/Codes proves it.
use Rattle.std.specs.Prelude.{◌≡◌, List, ◌↔◌, ℕ, ◌/◌, ◌%◌, ◌^◌, length}
use contract.Lifetimes.{Lfts}
use Rattle.wire.specs.Reply.{Reply, gives, number_in, place_in}
use Rattle.table.specs.Answer as table
use Rattle.table.specs.Check.{table_answer}
use Rattle.krossvil.specs.Host.{journal_told, short_told, run_told, reaction_told, moves_told, convert_told, stamped_told, shorten_told, lengthen_told}
use Rattle.krossvil.specs.Host.{tight_told, tight_moves_told, salvage_told, report_told, live_told, watch_told}
use Rattle.demands.specs.Entries.{Contract, table_in_c, journal_in_c, run_in_c, reaction_in_c, moves_in_c, converter_in_c, stamped_in_c, short_in_c}
use Rattle.demands.specs.Entries.{shortener_in_c, lengthener_in_c, tight_in_c, salvager_in_c, report_in_c, live_in_c, watch_in_c, tight_over_in_c}

-- The high half is the number and the low half the place, both 0 for a success; and 0 as a whole is a success and nothing else.
pub record ReadsBack (code : ℕ) (reply : Reply) : Type 0 where
  pub number : code / 2 ^ 32 ≡ number_in reply
  pub place : code % 2 ^ 32 ≡ place_in reply
  pub success : (code ≡ 0) ↔ ((values : List ℕ) × (reply ≡ gives values))

-- Whatever the arguments, the result that the contract allows reads back as what the host is told of them.
abbrev pub CodeReadsBack : (C : Contract) → ((κs : Lfts C.lifetimes) → C.Result κs → ℕ) → ((κs : Lfts C.lifetimes) → C.Args κs → Reply) → Type 0
CodeReadsBack C code reply = (κs : Lfts C.lifetimes) (a : C.Args κs) (r : C.Result κs) (s : C.Exit κs) → C.Post κs a r s →
    ReadsBack (code κs r) (reply κs a)

-- So it is with each of the sixteen functions for C.
abbrev pub EveryCodeReadsBack : Type 0
EveryCodeReadsBack =
    CodeReadsBack table_in_c (λ κs r. r) (λ κs a. table.reply_of (table_answer a.0.now))
    × CodeReadsBack journal_in_c (λ κs r. r) (λ κs a. journal_told a.0.now a.1.0.now (length a.1.1.0.now))
    × CodeReadsBack run_in_c (λ κs r. r) (λ κs a. run_told a.0.now a.1.0.now a.1.1.0.now (length a.1.1.1.0.now))
    × CodeReadsBack reaction_in_c (λ κs r. r) (λ κs a. reaction_told a.0.now a.1.0 a.1.1.0 (length a.1.1.1.0.now))
    × CodeReadsBack moves_in_c (λ κs r. r)
    (λ κs a.
    moves_told a.0.now a.1.0 a.1.1.0 a.1.1.1.0
    (length a.1.1.1.1.0.now) (length a.1.1.1.1.1.0.now) (length a.1.1.1.1.1.1.0.now))
    × CodeReadsBack converter_in_c (λ κs r. r) (λ κs a. convert_told a.0.now a.1.0.now (length a.1.1.0.now))
    × CodeReadsBack stamped_in_c (λ κs r. r) (λ κs a. stamped_told a.0.now a.1.0.now (length a.1.1.0.now))
    × CodeReadsBack short_in_c (λ κs r. r) (λ κs a. short_told a.0.now a.1.0.now (length a.1.1.0.now))
    × CodeReadsBack shortener_in_c (λ κs r. r) (λ κs a. shorten_told a.0.now a.1.0.now a.1.1.0.now (length a.1.1.1.0.now))
    × CodeReadsBack lengthener_in_c (λ κs r. r) (λ κs a. lengthen_told a.0.now a.1.0.now a.1.1.0.now (length a.1.1.1.0.now))
    × CodeReadsBack tight_in_c (λ κs r. r) (λ κs a. tight_told a.0.now a.1.0 a.1.1.0 (length a.1.1.1.0.now))
    × CodeReadsBack salvager_in_c (λ κs r. r) (λ κs a. salvage_told a.0.now a.1.0.now a.1.1.0.now (length a.1.1.1.0.now))
    × CodeReadsBack report_in_c (λ κs r. r) (λ κs a. report_told a.0.now a.1.0.now a.1.1.0.now)
    × CodeReadsBack live_in_c (λ κs r. r)
    (λ κs a. live_told a.0.now a.1.0.now a.1.1.0.now a.1.1.1.0.now (length a.1.1.1.1.0.now))
    × CodeReadsBack watch_in_c (λ κs r. r) (λ κs a. watch_told a.0.now a.1.0.now a.1.1.0.now (length a.1.1.1.0.now))
    × CodeReadsBack tight_over_in_c (λ κs r. r)
    (λ κs a. tight_moves_told a.0.now a.1.0 a.1.1.0 a.1.1.1.0 (length a.1.1.1.1.0.now))
