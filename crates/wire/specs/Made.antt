-- What an entry that writes bytes makes of its input: a refusal, or an answer and the bytes that go into a lent buffer.
use Rattle.std.specs.Prelude.{List, ◌++◌, ℕ, length, drop, if◌then◌else◌}
use Rattle.wire.specs.Choice.{◌<?◌}

pub data Made (A : Type 0) : Type 0 where
  refused : (answer : A) → Made A
  made : (answer : A) (bytes : List ℕ) → Made A

-- The answer with room for so many bytes. That the room is too short comes last.
unfoldable pub answer_in : {A : Type 0} → (short : A) → Made A → ℕ → A
answer_in short (refused answer) room = answer
answer_in short (made answer bytes) room = if room <? length bytes then short else answer

-- On success the bytes stand at the start of the buffer, and past them what stood there; on a refusal it is as it was.
unfoldable pub buffer_in : {A : Type 0} → Made A → List ℕ → List ℕ
buffer_in (refused answer) buffer = buffer
buffer_in (made answer bytes) buffer = if length buffer <? length bytes then buffer else bytes ++ drop (length bytes) buffer
