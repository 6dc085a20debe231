-- A journal added, by the answer of the journal check.
use Rattle.std.proofs.Common.{◌≡◌, ℕ, ◌<◌, ◌≤◌, ◌⊎◌, inl, inr, min, List, length, take, sym, refl, ap, ◌∙◌, take_all, le-leb, arith}
use borrow.Author.Tests.{lt-leb}
use Rattle.runs.proofs.Records.{split}
use Rattle.std.specs.Prelude.{Ok, Err}
use Rattle.table.specs.Check.{table_in}
use Rattle.records.specs.Form.{journal}
use Rattle.machine.specs.Walk.{run_over}
use Rattle.journal.specs.declared.Refusal as checks
use Rattle.journal.specs.Answer.{JournalAnswer}
use Rattle.journal.specs.Check.{check_of}
use Rattle.journal.specs.Accepted.{AcceptedIn}
use Rattle.journal.proofs.Accepted.{PassesOn, entry_under, entry_refuses}
use Rattle.tally.specs.declared.Tally.{Tally}
use Rattle.tally.specs.Tally.{tally_of, tally_in}
use Rattle.report.specs.declared.Refusal.TheVariants.{Full}
use Rattle.report.specs.declared.Report.{Report}
use Rattle.report.specs.Report.{most_journals, with_tally, Added, as_it_was, not_taken, added_by, add_under, add_of}

-- What the check refuses is passed on.
pub adds : (x : Report) → PassesOn (not_taken x) (λ t. added_by t x)
unfolding added_by
adds x = record { long = λ t. refl; stops = λ t why place. refl }

module _ (table s : List ℕ) (x : Report) where
  pub not_added : (a : JournalAnswer) → a ≡ check_of table s → (why : checks.Refusal) → a ≡ Err why → not_taken x why ≡ add_under table x s
  unfolding add_under
  not_added a is why e = sym (entry_refuses (not_taken x) (λ t. added_by t x) journal table s (adds x) a is e)

  -- An accepted one.
  module _ (ok : AcceptedIn journal table s) where
    pub under_accepted : added_by (table_in table) x (run_over journal (table_in table) s) ≡ add_under table x s
    unfolding add_under
    under_accepted = entry_under (not_taken x) (λ t. added_by t x) journal table s ok.passes

    pub accepted_full : most_journals ≤ x.journals → as_it_was x (Err Full) ≡ added_by (table_in table) x (run_over journal (table_in table) s)
    unfolding added_by
    accepted_full many = rw (ok.through, le-leb most_journals x.journals many) refl

    pub accepted_taken : x.journals < most_journals → (y : Tally) → y ≡ tally_in (table_in table) (run_over journal (table_in table) s) →
        (z : Report) → z ≡ with_tally x y → ◌≡◌ {A = Added} (record { answer = Ok tt; report = z }) (added_by (table_in table) x (run_over journal (table_in table) s))
    unfolding added_by tally_in
    accepted_taken few y is z e =
        let counted : y ≡ tally_of (table_in table) ok.input ok.taken ok.last.time = is ∙ ap (tally_in (table_in table)) ok.through in
        rw (ok.through, lt-leb most_journals x.journals few, e, counted) refl

-- The bytes of the report's own table: all that its array has, where it claims more.
module _ (x : Report) (s : List ℕ) (kept : length x.table ≡ 1626) where
  pub own_table : add_under (take (min x.size 1626) x.table) x s ≡ add_of x s
  unfolding add_of
  own_table = ap (λ bytes. add_under bytes x s) (go (split x.size 1626))
    where
      go : (x.size ≤ 1626) ⊎ (1626 < x.size) → take (min x.size 1626) x.table ≡ take x.size x.table
      go (inl short) = let e : min x.size 1626 ≡ x.size = omega arith in rw e refl
      go (inr long) = let e : min x.size 1626 ≡ 1626 = omega arith in rw e (take_all 1626 x.table (omega (arith, kept)) ∙ sym (take_all x.size x.table (omega (arith, kept))))
