-- An entry that writes, outcome by outcome: the answer, and the buffer with it.
use mathlib.Core.Path.{◌≡◌, refl}
use mathlib.Core.List.{List, ◌++◌}
use mathlib.Core.Bool.{Bool, true, false}
use Prim.Native.Nat.{ℕ, ◌<◌, ◌≤◌}
use borrow.Author.Tests.{lt-ltb, le-ltb}
use lib.ListN.{length, drop}
use Rattle.std.specs.Prelude.{if◌then◌else◌}
use Rattle.wire.specs.Choice.{◌<?◌}
use Rattle.wire.specs.Made.{Made, refused, made, answer_in, buffer_in}

-- What is owed for what was made.
abbrev pub Owed : {A : Type 0} → (short : A) → Made A → A → List ℕ → List ℕ → Type 0
Owed short m answer before after = (answer ≡ answer_in short m (length before)) × (after ≡ buffer_in m before)

module _ {A : Type 0} (short : A) (m : Made A) where
  -- It is owed for it under another name.
  pub owed_same : (other : Made A) (a : A) (before after : List ℕ) → m ≡ other → Owed short m a before after → Owed short other a before after
  owed_same other a before after e owed = rw (← e) owed

  pub owed_refused : (a : A) (buffer : List ℕ) → m ≡ refused a → Owed short m a buffer buffer
  unfolding answer_in buffer_in
  owed_refused a buffer e = rw e (refl, refl)

  module _ (a : A) (bytes buffer : List ℕ) (is : m ≡ made a bytes) where
    pub owed_short : length buffer < length bytes → Owed short m short buffer buffer
    unfolding answer_in buffer_in
    owed_short h = rw (is, lt-ltb (length buffer) (length bytes) h) (refl, refl)

    pub owed_made : length bytes ≤ length buffer → (after : List ℕ) → after ≡ bytes ++ drop (length bytes) buffer → Owed short m a buffer after
    unfolding answer_in buffer_in
    owed_made h after e = rw (is, le-ltb (length buffer) (length bytes) h) (refl, e)

-- ---- The answer alone

-- Where there is room.
abbrev pub answer_made : {A : Type 0} → Made A → A
answer_made (refused a) = a
answer_made (made a bytes) = a

-- What holds of it, and of the one for too short a room, holds of the answer.
pub answer_either : {A : Type 0} (P : A → Type 0) (short : A) → P short → (m : Made A) → P (answer_made m) → (room : ℕ) → P (answer_in short m room)
unfolding answer_in
answer_either P short lacks (refused a) has room = has
answer_either P short lacks (made a bytes) has room = go (room <? length bytes)
  where
    go : (b : Bool) → P (if b then short else a)
    go true = lacks
    go false = has
