-- The report that a host program in C keeps: zeros, to which journals are added one after another; proofs/HostReports proves each.
use Rattle.std.specs.Prelude.{◌≡◌, List, [], ◌∷◌, ◌++◌, ℕ, ◌*◌, length, take, Ok}
use Rattle.wire.specs.Reply.{Reply, refuses}
use Rattle.table.specs.declared.Table.{Table}
use Rattle.table.specs.Check.{table_answer, table_in}
use Rattle.table.specs.Entries.{values, zeros}
use Rattle.report.specs.declared.Report.{Report}
use Rattle.report.specs.Answer.{reply_of}
use Rattle.report.specs.Report.{begin_of, add_of}
use Rattle.report.specs.Rows.{places_of}
use Rattle.krossvil.specs.Host.{report_told, report_after}
use Rattle.laws.specs.Reports.{added_all, Permuted, accepted, over_all, at, AllBytes}

-- ---- Journals added by the function for C

-- As many zeros as there are numbers, and whatever the host keeps behind them.
abbrev pub begun_in_c : (table behind : List ℕ) → List ℕ
begun_in_c table behind = zeros (places_of (table_in table)) ++ behind

-- The numbers after all the journals, and what the host is told of each.
unfoldable pub added_in_c : (table report : List ℕ) → List (List ℕ) → List ℕ
added_in_c table report [] = report
added_in_c table report (s ∷ ss) = added_in_c table (report_after table s report) ss

unfoldable pub told_in_c : (table report : List ℕ) → List (List ℕ) → List Reply
told_in_c table report [] = []
told_in_c table report (s ∷ ss) = report_told table s report ∷ told_in_c table (report_after table s report) ss

-- ---- They are the report's

-- A report's numbers in the order in which a host keeps them.
abbrev pub numbers_kept : Table → Report → List ℕ
numbers_kept t x = x.journals ∷ take t.states x.dwell ++ (take (t.states * t.inputs) x.pairs ++ take t.states x.entries)

-- What is replied when the journals are added to a report in turn.
unfoldable pub replies_of : Report → List (List ℕ) → List Reply
replies_of x [] = []
replies_of x (s ∷ ss) = reply_of (add_of x s).answer ∷ replies_of (add_of x s).report ss

-- Under a table that passes the host is told what is replied for the report with the same journals, and has the numbers of that report,
-- whatever journals are turned down; what stands behind them is as it was.
abbrev pub SameReport : Type 0
SameReport = (table : List ℕ) → table_answer table ≡ Ok tt → (ss : List (List ℕ)) (behind : List ℕ) →
    (told_in_c table (begun_in_c table behind) ss ≡ replies_of (begin_of table).report ss)
    × (added_in_c table (begun_in_c table behind) ss ≡ numbers_kept (table_in table) (added_all (begin_of table).report ss) ++ behind)

-- ---- So it is with them as with the report's, while no 35 comes

-- 35 is told of none.
abbrev pub NeverFull : List Reply → Type 0
NeverFull [] = Unit
NeverFull (reply ∷ replies) = (reply ≡ refuses 35 0 → ⊥) × NeverFull replies

-- No sum wraps: each number is the sum of those of the accepted journals.
abbrev pub SumsInC : Type 0
SumsInC = (table : List ℕ) → table_answer table ≡ Ok tt → (ss : List (List ℕ)) → AllBytes ss → (behind : List ℕ) →
    NeverFull (told_in_c table (begun_in_c table behind) ss) →
    let t = table_in table in
    let js = accepted table ss in
    added_in_c table (begun_in_c table behind) ss
    ≡ (length js ∷ values (λ q. over_all (λ j. at j.tally.dwell q) js) t.states
    ++ (values (λ k. over_all (λ j. at j.tally.pairs k) js) (t.states * t.inputs)
    ++ values (λ q. over_all (λ j. at j.tally.entries q) js) t.states)) ++ behind

-- The order of adding makes no difference.
abbrev pub AnyOrderInC : Type 0
AnyOrderInC = (table : List ℕ) → table_answer table ≡ Ok tt → (ss ss' : List (List ℕ)) → Permuted ss ss' → (behind : List ℕ) →
    NeverFull (told_in_c table (begun_in_c table behind) ss) → added_in_c table (begun_in_c table behind) ss ≡ added_in_c table (begun_in_c table behind) ss'
