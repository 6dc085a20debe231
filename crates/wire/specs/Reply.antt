-- What an entry replies: the answer's numbers in their order, or a refusal's number and place.
use Rattle.std.specs.Prelude.{List, [], ℕ, ◌<◌, ◌≤◌}

pub data Reply : Type 0 where
  gives : (values : List ℕ) → Reply
  refuses : (number place : ℕ) → Reply

-- A success has number 0 and place 0, and a refusal has no values.
abbrev pub number_in : Reply → ℕ
number_in (gives values) = 0
number_in (refuses number place) = number

abbrev pub place_in : Reply → ℕ
place_in (gives values) = 0
place_in (refuses number place) = place

abbrev pub values_in : Reply → List ℕ
values_in (gives values) = values
values_in (refuses number place) = []

-- A refusal's reply: no answer, and one of the numbers of the rules. A place is one in the bytes that are read, so nothing bounds it here.
abbrev pub Ruled : Reply → Type 0
Ruled (gives values) = ⊥
Ruled (refuses number place) = (0 < number) × (number ≤ 36)
