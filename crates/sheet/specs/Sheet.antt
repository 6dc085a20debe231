-- The sheet that `dwell` prints, for a spreadsheet: docs/RULES.md, "The programs". A word first, and numbers after commas.
use Rattle.std.specs.Prelude.{List, [], ◌∷◌, ◌++◌, ℕ, zero, suc, ◌*◌, ◌/◌, ◌%◌, min, length, get_or, if◌then◌else◌}
use Prim.Native.Char.{code}
use Rattle.wire.specs.Choice.{◌<?◌, ◌=?◌, ◌or◌}
use Rattle.report.specs.declared.Report.{Report}
use Rattle.line.specs.Line.{text, decimal}

-- ---- Lines

-- Numbers after a word, each after a comma, and the line's end.
unfoldable pub row : List ℕ → List ℕ → List ℕ
row word [] = word ++ text "\n"
row word (n ∷ numbers) = row (word ++ (text "," ++ decimal n)) numbers

-- Texts one after another, the first of them f 0.
unfoldable pub joined : (ℕ → List ℕ) → (n : ℕ) → List ℕ
joined f zero = []
joined f (suc n) = joined f n ++ f n

-- ---- The report

-- The counts that its table begins with. No table that passes has more than 32 of either.
abbrev pub states_of : Report → ℕ
states_of x = min (get_or x.table 3 0) 32

abbrev pub inputs_of : Report → ℕ
inputs_of x = min (get_or x.table 4 0) 32

-- The slots in a state with an input; the pairs stand in rows by state.
unfoldable pub pair_line : Report → ℕ → List ℕ
pair_line x k = row (text "pair") (k / inputs_of x ∷ k % inputs_of x ∷ get_or x.pairs k 0 ∷ [])

-- The slots in a state, and the entries into it.
unfoldable pub state_line : Report → ℕ → List ℕ
state_line x q = row (text "state") (q ∷ get_or x.dwell q 0 ∷ get_or x.entries q 0 ∷ [])

unfoldable pub sheet_of : Report → List ℕ
sheet_of x =
    row (text "journals") (x.journals ∷ []) ++ (joined (pair_line x) (states_of x * inputs_of x) ++ joined (state_line x) (states_of x))

-- ---- A journal that was refused

-- A byte of a name within double quotes: a double quote is doubled, and what is no sign is a question mark.
unfoldable pub quoted_byte : ℕ → List ℕ
quoted_byte b =
    if b =? code "\"" then b ∷ b ∷ []
    else if (b <? 32) or (b =? 127) then text "?"
    else b ∷ []

-- A name has at most 4,096 bytes.
unfoldable pub quoted : List ℕ → List ℕ
quoted name = joined (λ k. quoted_byte (get_or name k 0)) (min (length name) 4096)

-- Its name, and the number and place of its refusal.
unfoldable pub refused_line : (name : List ℕ) (number place : ℕ) → List ℕ
refused_line name number place = row (text "refused,\"" ++ (quoted name ++ text "\"")) (number ∷ place ∷ [])
