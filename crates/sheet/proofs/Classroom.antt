-- The sheet of the classroom run: docs/RULES.md, "Where the time went". And the line of a journal whose name has a comma and quotes.
use mathlib.Core.Path.{◌≡◌, refl}
use mathlib.Core.List.{[], ◌∷◌}
use Rattle.report.specs.declared.Report.{Report}
use Rattle.line.specs.Line.{text, digits_of}
use Rattle.sheet.specs.Sheet.{row, joined, pair_line, state_line, sheet_of, quoted_byte, quoted, refused_line}

-- As much of its arrays as the sheet shows: the counts of the table are 2 states and 2 inputs.
abbrev classroom : Report
classroom = record {
  size = 48;
  table = 1 ∷ 0 ∷ 4 ∷ 2 ∷ 2 ∷ [];
  journals = 1;
  dwell = 4 ∷ 8 ∷ [];
  pairs = 2 ∷ 2 ∷ 8 ∷ 0 ∷ [];
  entries = 2 ∷ 1 ∷ [];
}

pub classroom_sheet : sheet_of classroom ≡
    text "journals,1\npair,0,0,2\npair,0,1,2\npair,1,0,8\npair,1,1,0\nstate,0,4,2\nstate,1,8,1\n"
unfolding digits_of row joined pair_line state_line sheet_of
classroom_sheet = refl

pub refused_line_lem : refused_line (text "a \"b\", c") 28 76 ≡ text "refused,\"a \"\"b\"\", c\",28,76\n"
unfolding digits_of row joined quoted_byte quoted refused_line
refused_line_lem = refl
