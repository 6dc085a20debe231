-- What an entry answers on the bytes of a table: the table's refusals come before all others.
use Rattle.std.specs.Prelude.{List, ℕ, Ok, Err}
use Rattle.table.specs.declared.Refusal.{Refusal}
use Rattle.table.specs.declared.Table.{Table}
use Rattle.table.specs.Answer.{TableAnswer}
use Rattle.table.specs.Check.{table_answer, table_in}

abbrev pub under_answer : {A : Type 0} → (Refusal → A) → A → TableAnswer → A
under_answer refused under (Ok passed) = under
under_answer refused under (Err refusal) = refused refusal

unfoldable pub under_table : {A : Type 0} → (Refusal → A) → (Table → A) → List ℕ → A
under_table refused under bytes = under_answer refused (under (table_in bytes)) (table_answer bytes)
