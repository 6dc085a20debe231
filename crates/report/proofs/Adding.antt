-- The entries, outcome by outcome: what the code makes is what the definition says.
use Rattle.std.specs.Prelude.{Err}
use Rattle.std.proofs.Common.{◌≡◌, ℕ, zero, suc, ◌-◌, List, [], ◌++◌, length, take, drop, refl, ap, ◌∙◌, arith}
use lib.Seq.{take-length}
use Rattle.table.specs.declared.Refusal as tables
use Rattle.table.specs.Answer.{TableAnswer}
use Rattle.table.specs.Entries.{zeros}
use Rattle.table.specs.Check.{table_answer}
use Rattle.report.specs.declared.Report.{Report}
use Rattle.report.specs.declared.Begun.{Begun}
use Rattle.report.specs.Report.{longest_table, empty_with, begin_of}

-- ---- Begun

drop-zeros : (n size : ℕ) → drop n (zeros size) ≡ zeros (size - n)
drop-zeros zero size = ap zeros (let e : size ≡ size - 0 = omega arith in e)
drop-zeros (suc n) zero = ap zeros (let e : 0 ≡ 0 - suc n = omega arith in e)
drop-zeros (suc n) (suc size) = drop-zeros n size ∙ ap zeros (let e : size - n ≡ suc size - suc n = omega arith in e)

-- The array after the copy.
pub array_kept : (table array : List ℕ) → array ≡ take (length table) table ++ drop (length table) (zeros longest_table) →
    array ≡ table ++ zeros (longest_table - length table)
array_kept table array copied = copied ∙ rw (take-length table, drop-zeros (length table) longest_table) refl

abbrev empty_of : (size : ℕ) (array : List ℕ) → Report
empty_of size array = record { size = size; table = array; journals = 0; dwell = zeros 32; pairs = zeros 1024; entries = zeros 32 }

pub empty_made : (table array : List ℕ) (size : ℕ) → size ≡ length table →
    array ≡ take (length table) table ++ drop (length table) (zeros longest_table) → empty_of size array ≡ empty_with table
empty_made table array size is copied = ap (λ n. empty_of n array) is ∙ ap (empty_of (length table)) (array_kept table array copied)

pub begun_refused : (table : List ℕ) {a : TableAnswer} {x : Report} {refusal : tables.Refusal} → a ≡ table_answer table → a ≡ Err refusal → x ≡ empty_with [] →
    ◌≡◌ {A = Begun} (record { answer = a; report = x }) (begin_of table)
unfolding begin_of
begun_refused table is h e = let r = rw is at h in rw (e, is, r) refl
