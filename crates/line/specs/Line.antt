-- The line that `checkjournal` prints: docs/RULES.md, "The programs".
use Rattle.std.specs.Prelude.{◌≡◌, List, [], ◌∷◌, ◌++◌, ℕ, zero, suc, ◌+◌, ◌/◌, ◌%◌, length, take, drop, if◌then◌else◌}
use Prim.Native.Char.{code}
use Prim.Native.String as string
use Prim.Native.String.{String}
use Rattle.wire.specs.Choice.{◌<?◌, ◌=?◌}
use Rattle.wire.specs.Reply.{Reply, number_in, place_in, values_in}
use Rattle.journal.specs.Answer.{JournalAnswer, reply_of}

-- ---- Text and numbers

abbrev pub text : String → List ℕ
text string.[] = []
text (string.◌∷◌ c rest) = code c ∷ text rest

abbrev pub digit : ℕ → ℕ
digit d = code "0" + d

-- A number in base ten, most significant digit first, in at most k digits; twenty hold any number of 64 bits.
unfoldable pub digits_of : ℕ → ℕ → List ℕ
digits_of zero n = []
digits_of (suc k) n = if n <? 10 then digit n ∷ [] else digits_of k (n / 10) ++ digit (n % 10) ∷ []

abbrev pub decimal : ℕ → List ℕ
decimal n = digits_of 20 n

-- ---- Lines

-- Each number after its name.
unfoldable pub named : List String → List ℕ → List ℕ
named [] numbers = []
named (name ∷ names) [] = []
named (name ∷ names) (n ∷ numbers) = text name ++ decimal n ++ named names numbers

-- And the line's end.
unfoldable pub line_with : List String → List ℕ → List ℕ
line_with names numbers = named names numbers ++ text "\n"

-- The names of what an accepted journal gives, in the reply's order: how long the run was, where it ended, and then the most ticks left at
-- a test and the longest cycle.
abbrev pub length_names : List String
length_names = "accepted end=" ∷ " cycles=" ∷ " moves=" ∷ []

abbrev pub last_names : List String
last_names = " state=" ∷ " output=" ∷ []

abbrev pub accepted_names : List String
accepted_names = length_names ++ (last_names ++ (" left=" ∷ " longest=" ∷ []))

-- And of a refusal's number and place.
abbrev pub refused_names : List String
refused_names = "refused " ∷ " at " ∷ []

-- A success has the number 0.
unfoldable pub line_for : Reply → List ℕ
line_for reply =
    if number_in reply =? 0 then line_with accepted_names (values_in reply)
    else line_with refused_names (number_in reply ∷ place_in reply ∷ [])

abbrev pub line_of : JournalAnswer → List ℕ
line_of a = line_for (reply_of a)

-- ---- Where it is written

-- The bytes are written from `at` to `end`; what stands before and after them is as it was.
pub record Puts (bytes before : List ℕ) (at : ℕ) (after : List ℕ) (end : ℕ) : Type 0 where
  pub written : take end after ≡ take at before ++ bytes
  pub rest : drop end after ≡ drop end before
  pub ends : end ≡ at + length bytes
