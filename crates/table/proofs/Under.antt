-- `under_table`, as an entry meets it that checks a table's bytes and then reads them.
use mathlib.Core.Path.{◌≡◌, sym, ◌∙◌}
use mathlib.Core.List.{List}
use Prim.Native.Nat.{ℕ}
use Rattle.std.specs.Prelude.{Ok, Err}
use Rattle.table.specs.declared.Refusal.{Refusal}
use Rattle.table.specs.Answer.{TableAnswer}
use Rattle.table.specs.declared.Table.{Table}
use Rattle.table.specs.Check.{table_answer, table_in}
use Rattle.table.specs.Under.{under_table}
use Rattle.table.proofs.Answers.{decided, let_pass}

module _ {A : Type 0} (refused : Refusal → A) (under : Table → A) (bytes : List ℕ) where
  pub under_passes : table_answer bytes ≡ Ok tt → under_table refused under bytes ≡ under (table_in bytes)
  unfolding under_table
  under_passes e = rw e

  pub under_refuses : {a : TableAnswer} {refusal : Refusal} → a ≡ table_answer bytes → a ≡ Err refusal → under_table refused under bytes ≡ refused refusal
  unfolding under_table
  under_refuses is h = let r = sym is ∙ h in rw r

  -- What holds of each refusal of the table, and under a table that passes, holds of the answer.
  pub under_either : (P : A → Type 0) → (table_answer bytes ≡ Ok tt → P (under (table_in bytes))) →
      ((refusal : Refusal) → table_answer bytes ≡ Err refusal → P (refused refusal)) → P (under_table refused under bytes)
  unfolding under_table
  under_either P passed TurnedDown = decided (table_answer bytes) (λ e. rw e (passed e)) (λ refusal e. rw e (TurnedDown refusal e))

  -- An answer that is none of the table's refusals comes only where the table passes.
  pub under_passed : (x : A) → ((refusal : Refusal) → refused refusal ≡ x → ⊥) → under_table refused under bytes ≡ x → table_answer bytes ≡ Ok tt
  under_passed x other = under_either (λ y. y ≡ x → table_answer bytes ≡ Ok tt) (λ e _. e) (λ refusal _ f. absurd (other refusal f))

  -- The two ways of an entry, whose `let .. else` asks what the table's check answered.
  module _ {x : TableAnswer} (is : x ≡ table_answer bytes) where
    pub passed_up : {refusal : Refusal} → x ≡ Err refusal → refused refusal ≡ under_table refused under bytes
    passed_up h = sym (under_refuses is h)

    pub goes_under : x ≡ Ok tt → {a : A} → a ≡ under (table_in bytes) → a ≡ under_table refused under bytes
    goes_under h e = e ∙ sym (under_passes (let_pass is h))
