-- The contract of each entry, as the theorems of specs/EveryEntry take it. `Pre` and `Post` are what the clauses say of the arguments, the
-- result and the exit, where the parameters stand in their order: `.0` is the first, `.1 .0` the second. `now` of a slice is its bytes.
use Rattle.std.specs.Prelude.{List, [], ◌∷◌, ℕ}
use borrow.Fn.Kinds.{ParamKind, ResultKind, Dens, In, Out, res_t, ended_of}
use contract.Lifetimes.{Lfts}
use denote.Triple.Clauses.{AtExit}
use Rattle.table.proofs.check.Kinds as table_kinds
use Rattle.table.proofs.check.Reads as table
use Rattle.journal.proofs.check.Kinds as journal_kinds
use Rattle.journal.proofs.check.Reads as journal
use Rattle.runtime.proofs.run.Kinds as run_kinds
use Rattle.runtime.proofs.run.Reads as run
use Rattle.reaction.proofs.react.Kinds as react_kinds
use Rattle.reaction.proofs.react.Reads as react
use Rattle.moves.proofs.react.Kinds as moves_kinds
use Rattle.moves.proofs.react.Reads as moves
use Rattle.convert.proofs.convert.Kinds as convert_kinds
use Rattle.convert.proofs.convert.Reads as convert
use Rattle.stamped.proofs.read.Kinds as stamped_kinds
use Rattle.stamped.proofs.read.Reads as stamped
use Rattle.shorts.proofs.check.Kinds as short_kinds
use Rattle.shorts.proofs.check.Reads as short
use Rattle.restate.proofs.shorten.Kinds as shorten_kinds
use Rattle.restate.proofs.shorten.Reads as shorten
use Rattle.restate.proofs.lengthen.Kinds as lengthen_kinds
use Rattle.restate.proofs.lengthen.Reads as lengthen
use Rattle.tight.proofs.react.Kinds as tight_kinds
use Rattle.tight.proofs.react.Reads as tight
use Rattle.tight.proofs.over_moves.react.Kinds as over_kinds
use Rattle.tight.proofs.over_moves.react.Reads as over
use Rattle.salvage.proofs.salvage.Kinds as salvage_kinds
use Rattle.salvage.proofs.salvage.Reads as salvage
use Rattle.report.proofs.begin.Kinds as begin_kinds
use Rattle.report.proofs.begin.Reads as begin
use Rattle.report.specs.declared.Report.{Report}
use Rattle.report.proofs.Report.add.Kinds as add_kinds
use Rattle.report.proofs.Report.add.Reads as add
use Rattle.live.proofs.take_event.Kinds as live_kinds
use Rattle.live.proofs.take_event.Reads as live
use Rattle.live.proofs.watch_record.Kinds as watch_kinds
use Rattle.live.proofs.watch_record.Reads as watch
use Rattle.live.proofs.look_at_record.Kinds as look_kinds
use Rattle.live.proofs.look_at_record.Reads as look
use Rattle.krossvil.proofs.living.krossvil_live.Kinds as c_live_kinds
use Rattle.krossvil.proofs.living.krossvil_live.Reads as c_live
use Rattle.krossvil.proofs.living.krossvil_watch.Kinds as c_watch_kinds
use Rattle.krossvil.proofs.living.krossvil_watch.Reads as c_watch
use Rattle.krossvil.proofs.tables.krossvil_check_table.Kinds as c_table_kinds
use Rattle.krossvil.proofs.tables.krossvil_check_table.Reads as c_table
use Rattle.krossvil.proofs.checking.krossvil_check_journal.Kinds as c_journal_kinds
use Rattle.krossvil.proofs.checking.krossvil_check_journal.Reads as c_journal
use Rattle.krossvil.proofs.running.krossvil_run.Kinds as c_run_kinds
use Rattle.krossvil.proofs.running.krossvil_run.Reads as c_run
use Rattle.krossvil.proofs.reacting.krossvil_reaction.Kinds as c_reaction_kinds
use Rattle.krossvil.proofs.reacting.krossvil_reaction.Reads as c_reaction
use Rattle.krossvil.proofs.tables.krossvil_convert_table.Kinds as c_convert_kinds
use Rattle.krossvil.proofs.tables.krossvil_convert_table.Reads as c_convert
use Rattle.krossvil.proofs.restating.krossvil_read_stamped.Kinds as c_stamped_kinds
use Rattle.krossvil.proofs.restating.krossvil_read_stamped.Reads as c_stamped
use Rattle.krossvil.proofs.checking.krossvil_check_short.Kinds as c_short_kinds
use Rattle.krossvil.proofs.checking.krossvil_check_short.Reads as c_short
use Rattle.krossvil.proofs.restating.krossvil_shorten.Kinds as c_shorten_kinds
use Rattle.krossvil.proofs.restating.krossvil_shorten.Reads as c_shorten
use Rattle.krossvil.proofs.restating.krossvil_lengthen.Kinds as c_lengthen_kinds
use Rattle.krossvil.proofs.restating.krossvil_lengthen.Reads as c_lengthen
use Rattle.krossvil.proofs.reacting.krossvil_reaction_moves.Kinds as c_moves_kinds
use Rattle.krossvil.proofs.reacting.krossvil_reaction_moves.Reads as c_moves
use Rattle.krossvil.proofs.reacting.krossvil_reaction_tight.Kinds as c_tight_kinds
use Rattle.krossvil.proofs.reacting.krossvil_reaction_tight.Reads as c_tight
use Rattle.krossvil.proofs.reacting.krossvil_reaction_tight_moves.Kinds as c_over_kinds
use Rattle.krossvil.proofs.reacting.krossvil_reaction_tight_moves.Reads as c_over
use Rattle.krossvil.proofs.salvaging.krossvil_salvage.Kinds as c_salvage_kinds
use Rattle.krossvil.proofs.salvaging.krossvil_salvage.Reads as c_salvage
use Rattle.krossvil.proofs.reporting.krossvil_report_add.Kinds as c_report_kinds
use Rattle.krossvil.proofs.reporting.krossvil_report_add.Reads as c_report

-- A contract, and the bytes of the slices that are lent to be written, as they were and as they are left.
pub record Contract : Type 1 where
  pub lifetimes : ℕ
  pub Args : Lfts lifetimes → Type 0
  pub Result : Lfts lifetimes → Type 0
  pub Exit : Lfts lifetimes → Type 0
  pub Pre : (κs : Lfts lifetimes) → Args κs → Type 0
  pub Post : (κs : Lfts lifetimes) → Args κs → Result κs → Exit κs → Type 0
  pub lent : (κs : Lfts lifetimes) → Args κs → List (List ℕ)
  pub left : (κs : Lfts lifetimes) → Exit κs → List (List ℕ)

abbrev pub entry : (n : ℕ) (ps : List (ParamKind n)) (r : ResultKind n) → In n ps → Out n ps r → ((κs : Lfts n) → Dens κs ps → List (List ℕ)) →
    ((κs : Lfts n) → AtExit (ended_of n ps r) κs → List (List ℕ)) → Contract
entry n ps r pre post lent left = record {
  lifetimes = n;
  Args = λ κs. Dens κs ps;
  Result = λ κs. (res_t r κs).Denot;
  Exit = AtExit (ended_of n ps r);
  Pre = pre;
  Post = post;
  lent = lent;
  left = left;
}

abbrev pub table_check : Contract
table_check = entry 1 table_kinds.ps table_kinds.r table.Pre table.Post (λ κs a. []) (λ κs s. [])

abbrev pub journal_check : Contract
journal_check = entry 2 journal_kinds.ps journal_kinds.r journal.Pre journal.Post (λ κs a. []) (λ κs s. [])

abbrev pub runtime_run : Contract
runtime_run = entry 3 run_kinds.ps run_kinds.r run.Pre run.Post (λ κs a. a.1.1.0.now ∷ []) (λ κs s. s.1.1.0.now ∷ [])

abbrev pub reaction_react : Contract
reaction_react = entry 1 react_kinds.ps react_kinds.r react.Pre react.Post (λ κs a. []) (λ κs s. [])

-- What is lent are the numbers of the sums and the bytes of the path.
abbrev pub moves_react : Contract
moves_react =
    entry 3 moves_kinds.ps moves_kinds.r moves.Pre moves.Post
    (λ κs a. a.1.1.1.1.0.now ∷ a.1.1.1.1.1.0.now ∷ []) (λ κs s. s.1.1.1.1.0.now ∷ s.1.1.1.1.1.0.now ∷ [])

abbrev pub converter : Contract
converter = entry 2 convert_kinds.ps convert_kinds.r convert.Pre convert.Post (λ κs a. a.1.0.now ∷ []) (λ κs s. s.1.0.now ∷ [])

abbrev pub stamped_reader : Contract
stamped_reader = entry 2 stamped_kinds.ps stamped_kinds.r stamped.Pre stamped.Post (λ κs a. a.1.0.now ∷ []) (λ κs s. s.1.0.now ∷ [])

abbrev pub short_check : Contract
short_check = entry 2 short_kinds.ps short_kinds.r short.Pre short.Post (λ κs a. []) (λ κs s. [])

abbrev pub shortener : Contract
shortener = entry 3 shorten_kinds.ps shorten_kinds.r shorten.Pre shorten.Post (λ κs a. a.1.1.0.now ∷ []) (λ κs s. s.1.1.0.now ∷ [])

abbrev pub lengthener : Contract
lengthener = entry 3 lengthen_kinds.ps lengthen_kinds.r lengthen.Pre lengthen.Post (λ κs a. a.1.1.0.now ∷ []) (λ κs s. s.1.1.0.now ∷ [])

abbrev pub tight_react : Contract
tight_react = entry 1 tight_kinds.ps tight_kinds.r tight.Pre tight.Post (λ κs a. []) (λ κs s. [])

abbrev pub salvager : Contract
salvager = entry 3 salvage_kinds.ps salvage_kinds.r salvage.Pre salvage.Post (λ κs a. a.1.1.0.now ∷ []) (λ κs s. s.1.1.0.now ∷ [])

abbrev pub report_begin : Contract
report_begin = entry 1 begin_kinds.ps begin_kinds.r begin.Pre begin.Post (λ κs a. []) (λ κs s. [])

-- All that a report holds: it is lent to be added to.
abbrev pub held_by : Report → List (List ℕ)
held_by x = (x.size ∷ x.journals ∷ []) ∷ x.table ∷ x.dwell ∷ x.pairs ∷ x.entries ∷ []

abbrev pub report_add : Contract
report_add = entry 2 add_kinds.ps add_kinds.r add.Pre add.Post (λ κs a. held_by a.0.now) (λ κs s. held_by s.0.now)

abbrev pub table_in_c : Contract
table_in_c = entry 1 c_table_kinds.ps c_table_kinds.r c_table.Pre c_table.Post (λ κs a. []) (λ κs s. [])

abbrev pub journal_in_c : Contract
journal_in_c = entry 3 c_journal_kinds.ps c_journal_kinds.r c_journal.Pre c_journal.Post (λ κs a. a.1.1.0.now ∷ []) (λ κs s. s.1.1.0.now ∷ [])

abbrev pub run_in_c : Contract
run_in_c =
    entry 4 c_run_kinds.ps c_run_kinds.r c_run.Pre c_run.Post
    (λ κs a. a.1.1.0.now ∷ a.1.1.1.0.now ∷ []) (λ κs s. s.1.1.0.now ∷ s.1.1.1.0.now ∷ [])

abbrev pub reaction_in_c : Contract
reaction_in_c =
    entry 2 c_reaction_kinds.ps c_reaction_kinds.r c_reaction.Pre c_reaction.Post
    (λ κs a. a.1.1.1.0.now ∷ []) (λ κs s. s.1.1.1.0.now ∷ [])

-- What is lent are the sums' numbers, the path and the answer.
abbrev pub moves_in_c : Contract
moves_in_c =
    entry 4 c_moves_kinds.ps c_moves_kinds.r c_moves.Pre c_moves.Post
    (λ κs a. a.1.1.1.1.0.now ∷ a.1.1.1.1.1.0.now ∷ a.1.1.1.1.1.1.0.now ∷ [])
    (λ κs s. s.1.1.1.1.0.now ∷ s.1.1.1.1.1.0.now ∷ s.1.1.1.1.1.1.0.now ∷ [])

abbrev pub converter_in_c : Contract
converter_in_c =
    entry 3 c_convert_kinds.ps c_convert_kinds.r c_convert.Pre c_convert.Post
    (λ κs a. a.1.0.now ∷ a.1.1.0.now ∷ []) (λ κs s. s.1.0.now ∷ s.1.1.0.now ∷ [])

abbrev pub stamped_in_c : Contract
stamped_in_c =
    entry 3 c_stamped_kinds.ps c_stamped_kinds.r c_stamped.Pre c_stamped.Post
    (λ κs a. a.1.0.now ∷ a.1.1.0.now ∷ []) (λ κs s. s.1.0.now ∷ s.1.1.0.now ∷ [])

abbrev pub short_in_c : Contract
short_in_c = entry 3 c_short_kinds.ps c_short_kinds.r c_short.Pre c_short.Post (λ κs a. a.1.1.0.now ∷ []) (λ κs s. s.1.1.0.now ∷ [])

abbrev pub shortener_in_c : Contract
shortener_in_c =
    entry 4 c_shorten_kinds.ps c_shorten_kinds.r c_shorten.Pre c_shorten.Post
    (λ κs a. a.1.1.0.now ∷ a.1.1.1.0.now ∷ []) (λ κs s. s.1.1.0.now ∷ s.1.1.1.0.now ∷ [])

abbrev pub lengthener_in_c : Contract
lengthener_in_c =
    entry 4 c_lengthen_kinds.ps c_lengthen_kinds.r c_lengthen.Pre c_lengthen.Post
    (λ κs a. a.1.1.0.now ∷ a.1.1.1.0.now ∷ []) (λ κs s. s.1.1.0.now ∷ s.1.1.1.0.now ∷ [])

abbrev pub tight_in_c : Contract
tight_in_c =
    entry 2 c_tight_kinds.ps c_tight_kinds.r c_tight.Pre c_tight.Post
    (λ κs a. a.1.1.1.0.now ∷ []) (λ κs s. s.1.1.1.0.now ∷ [])

abbrev pub salvager_in_c : Contract
salvager_in_c =
    entry 4 c_salvage_kinds.ps c_salvage_kinds.r c_salvage.Pre c_salvage.Post
    (λ κs a. a.1.1.0.now ∷ a.1.1.1.0.now ∷ []) (λ κs s. s.1.1.0.now ∷ s.1.1.1.0.now ∷ [])

-- What is lent are the report's numbers.
abbrev pub report_in_c : Contract
report_in_c = entry 3 c_report_kinds.ps c_report_kinds.r c_report.Pre c_report.Post (λ κs a. a.1.1.0.now ∷ []) (λ κs s. s.1.1.0.now ∷ [])

-- Of a live run the memory's numbers are lent, and the buffer for the record; in C the answer besides.
abbrev pub live_takes : Contract
live_takes =
    entry 4 live_kinds.ps live_kinds.r live.Pre live.Post (λ κs a. a.1.0.now ∷ a.1.1.1.0.now ∷ []) (λ κs s. s.1.0.now ∷ s.1.1.1.0.now ∷ [])

abbrev pub live_watches : Contract
live_watches = entry 3 watch_kinds.ps watch_kinds.r watch.Pre watch.Post (λ κs a. a.1.0.now ∷ []) (λ κs s. s.1.0.now ∷ [])

abbrev pub live_looks : Contract
live_looks = entry 3 look_kinds.ps look_kinds.r look.Pre look.Post (λ κs a. []) (λ κs s. [])

abbrev pub live_in_c : Contract
live_in_c =
    entry 5 c_live_kinds.ps c_live_kinds.r c_live.Pre c_live.Post
    (λ κs a. a.1.0.now ∷ a.1.1.1.0.now ∷ a.1.1.1.1.0.now ∷ []) (λ κs s. s.1.0.now ∷ s.1.1.1.0.now ∷ s.1.1.1.1.0.now ∷ [])

abbrev pub watch_in_c : Contract
watch_in_c =
    entry 4 c_watch_kinds.ps c_watch_kinds.r c_watch.Pre c_watch.Post
    (λ κs a. a.1.0.now ∷ a.1.1.1.0.now ∷ []) (λ κs s. s.1.0.now ∷ s.1.1.1.0.now ∷ [])

-- Tight times over several moves.
abbrev pub tight_over : Contract
tight_over = entry 1 over_kinds.ps over_kinds.r over.Pre over.Post (λ κs a. []) (λ κs s. [])

abbrev pub tight_over_in_c : Contract
tight_over_in_c =
    entry 2 c_over_kinds.ps c_over_kinds.r c_over.Pre c_over.Post
    (λ κs a. a.1.1.1.1.0.now ∷ []) (λ κs s. s.1.1.1.1.0.now ∷ [])
