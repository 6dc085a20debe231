-- The two lines of docs/RULES.md, "The classroom": for the run, and for the same run with a changed verdict.
use mathlib.Core.Path.{◌≡◌, refl}
use Rattle.std.specs.Prelude.{Ok, Err}
use Rattle.records.specs.declared.Refusal.TheVariants.{Differs}
use Rattle.journal.specs.declared.Refusal.TheVariants.{Record}
use Rattle.line.specs.Line.{text, digits_of, named, line_with, line_for, line_of}

pub accepted_line : line_of (Ok (record { end = 12; ticks = 4; moves = 2; state = 0; output = 0; left = 4; longest = 3 })) ≡
    text "accepted end=12 cycles=4 moves=2 state=0 output=0 left=4 longest=3\n"
unfolding digits_of named line_with line_for
accepted_line = refl

pub refused_line_lem : line_of (Err (Record (record { refusal = Differs; place = 76 }))) ≡ text "refused 28 at 76\n"
unfolding digits_of named line_with line_for
refused_line_lem = refl
