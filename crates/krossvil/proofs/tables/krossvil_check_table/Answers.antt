-- The table check has no numbers to tell.
use mathlib.Core.Path.{sym, ◌∙◌}
use mathlib.Core.Bool.{false}
use Rattle.krossvil.proofs.TablePlaces.{table_refuses}
use Rattle.krossvil.proofs.tables.krossvil_check_table.Goals as goal

pub code-requires : goal.code-requires
code-requires c = (table_refuses false c.args.table.now _ (sym c.check.ensures ∙ c.in-Err.is)).place
