-- What each entry leaves as it was where it refuses.
use mathlib.Core.Path.{◌≡◌, refl, ap, ◌∙◌}
use mathlib.Core.List.{List, [], ◌∷◌, ◌++◌}
use mathlib.Core.Bool.{Bool, true, false}
use Prim.Native.Nat.{ℕ, ◌*◌}
use lib.ListN.{length, drop}
use Rattle.std.specs.Prelude.{if◌then◌else◌, Ok, Err}
use Rattle.wire.specs.Choice.{◌<?◌}
use Rattle.wire.specs.Made as Made'
use Rattle.wire.specs.Made.{Made, answer_in, buffer_in}
use Rattle.wire.specs.Reply.{Reply, gives, refuses, number_in, values_in}
use Rattle.table.specs.Encode.{words}
use Rattle.wire.proofs.Made.{Owed}
use Rattle.moves.specs.Answer as moves
use Rattle.krossvil.proofs.Refusals.{Numbered, numbered}
use Rattle.krossvil.proofs.Accepting.{buffer_kept}
use Rattle.krossvil.proofs.Writers.{Writer, Tells, WriteOwed, said}
use Rattle.krossvil.specs.Host.{told, code_of, answer_after, made_told}

-- ---- Where the host is not told 0

-- Where the host is not told 0, the answer buffer is as it was.
pub answer_kept : (reply : Reply) (answer : List ℕ) → (code_of reply ≡ 0 → ⊥) → answer_after reply answer ≡ answer
unfolding words
answer_kept (gives values) answer other = absurd (other refl)
answer_kept (refuses number place) answer other = refl

-- As C calls an entry that writes nothing else.
pub told_kept : (reply : Reply) (answer : List ℕ) {code : ℕ} {after : List ℕ} → (code ≡ code_of reply) × (after ≡ answer_after reply answer) →
    (code ≡ 0 → ⊥) → ◌≡◌ {A = List (List ℕ)} (after ∷ []) (answer ∷ [])
told_kept reply answer owed other = ap (λ x. x ∷ []) (owed.1 ∙ answer_kept reply answer (λ e. other (owed.0 ∙ e)))

pub told_numbered : (reply : Reply) (room : ℕ) → Numbered reply → Numbered (told reply room)
unfolding told
told_numbered reply room h = go (room <? 4 * length (values_in reply))
  where
    go : (b : Bool) → Numbered (if b then refuses 30 0 else reply)
    go true = refl
    go false = h

-- ---- An entry that writes

-- What was made goes into the buffer only with an answer that gives numbers.
pub made_kept : (w : Writer) (buffer : List ℕ) → (number_in (w.reply_of (answer_in w.short w.makes (length buffer))) ≡ 0 → ⊥) → buffer_in w.makes buffer ≡ buffer
unfolding answer_in buffer_in
made_kept w buffer other = go w.makes w.tells other
  where
    go : (m : Made w.Answers) → Tells w.reply_of w.k m → (number_in (w.reply_of (answer_in w.short m (length buffer))) ≡ 0 → ⊥) →
        buffer_in m buffer ≡ buffer
    go (Made'.refused a) t h = refl
    go (Made'.made a bytes) t h = by_room (length buffer <? length bytes) h
      where
        by_room : (b : Bool) → (number_in (w.reply_of (if b then w.short else a)) ≡ 0 → ⊥) → (if b then buffer else bytes ++ drop (length bytes) buffer) ≡ buffer
        by_room true f = refl
        by_room false f = absurd (f (ap number_in t.is))

pub entry_kept : (w : Writer) (buffer : List ℕ) {a : w.Answers} {later : List ℕ} → Owed w.short w.makes a buffer later →
    (number_in (w.reply_of a) ≡ 0 → ⊥) → ◌≡◌ {A = List (List ℕ)} (later ∷ []) (buffer ∷ [])
entry_kept w buffer owed other =
    ap (λ x. x ∷ []) (owed.1 ∙ made_kept w buffer (λ e. other (ap (λ x. number_in (w.reply_of x)) owed.0 ∙ e)))

-- And as C calls it: the buffer that it writes to, and the answer buffer.
pub host_kept : (w : Writer) (buffer answer : List ℕ) {code : ℕ} {after later : List ℕ} → WriteOwed w buffer answer code after later → (code ≡ 0 → ⊥) →
    ◌≡◌ {A = List (List ℕ)} (later ∷ after ∷ []) (buffer ∷ answer ∷ [])
host_kept w buffer answer owed other =
    let reply = made_told w.reply_of w.short w.makes buffer (length answer) in
    let refused : code_of reply ≡ 0 → ⊥ = λ zero. other (owed.0 ∙ zero) in
    let numbered = told_numbered (w.reply_of (answer_in w.short w.makes (length buffer))) (length answer) (said w (length buffer)).1 in
    rw (owed.1.1 ∙ buffer_kept reply numbered (buffer_in w.makes buffer) buffer refused, owed.1.0 ∙ answer_kept reply answer refused) refl

-- ---- Several moves

pub moves_numbered : (a : moves.MovesAnswer) → Numbered (moves.reply_of a)
moves_numbered (Ok r) = tt
moves_numbered (Err refusal) = numbered _ (moves.moves_ruled refusal)
