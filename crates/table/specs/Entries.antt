-- The entries of a field: checked in order, and held in an array.
use Rattle.std.specs.Prelude.{List, [], ◌∷◌, ◌++◌, ℕ, zero, suc, ◌+◌, ◌-◌, length, drop, replicate, Ok}
use Rattle.table.specs.Answer.{TableAnswer, ◌and_then◌}

-- Entries i, i + 1, .., i + n - 1, of which each passes or is what a bad one is called: the first bad one gives the answer.
unfoldable pub entries_from : (ℕ → TableAnswer) → ℕ → ℕ → TableAnswer
entries_from entry zero i = Ok tt
entries_from entry (suc n) i = entry i and_then entries_from entry n (i + 1)

-- f 0, f 1, .., f (n - 1)
unfoldable pub values : (ℕ → ℕ) → ℕ → List ℕ
values f zero = []
values f (suc n) = values f n ++ f n ∷ []

-- f 0 + f 1 + .. + f (n - 1)
unfoldable pub total : (ℕ → ℕ) → ℕ → ℕ
total f zero = 0
total f (suc n) = total f n + f n

-- An array whose first n places are filled.
abbrev pub filled_to : (ℕ → ℕ) → ℕ → List ℕ → List ℕ
filled_to f n array = values f n ++ drop n array

abbrev pub zeros : ℕ → List ℕ
zeros n = replicate n 0

-- An array of `size` places: the entries, and 0 from there on.
abbrev pub padded : ℕ → List ℕ → List ℕ
padded size entries = entries ++ zeros (size - length entries)
