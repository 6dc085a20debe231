-- Only an acceptance is told as 0: no refusal has number 0.
use mathlib.Core.Path.{◌≡◌, refl, sym, ◌∙◌}
use mathlib.Core.List.{List}
use mathlib.Core.Bool.{Bool, true, false}
use Prim.Native.Nat.{ℕ, ◌*◌}
use native.Mathlib.Omega.{arith}
use borrow.Author.Tests.{eqb-false}
use lib.ListN.{length}
use Rattle.std.specs.Prelude.{Ok, Err, if◌then◌else◌}
use Rattle.wire.specs.Choice.{◌<?◌, ◌=?◌}
use Rattle.wire.specs.Reply.{Reply, gives, refuses, number_in, values_in}
use Rattle.table.specs.declared.Refusal as table'
use Rattle.table.specs.Answer as table
use Rattle.records.specs.Form.{Form}
use Rattle.journal.specs.declared.Numbers.{Numbers}
use Rattle.journal.specs.Answer.{JournalAnswer, journal_refusal, journal_ruled, reply_of}
use Rattle.journal.specs.Check.{check_in}
use Rattle.journal.specs.Accepted.{AcceptedIn}
use Rattle.journal.proofs.Accepted.{judged, accepted}
use Rattle.krossvil.specs.Host.{told, code_of, buffer_after}
use Rattle.krossvil.proofs.Refusals.{Numbered, some, numbered}

pub table_numbered : (refusal : table'.Refusal) → (number_in (table.table_refusal refusal) =? 0) ≡ false
table_numbered refusal = some _ (table.table_ruled refusal)

-- An answer that is told as 0 is an acceptance.
pub record IsAccepted (a : JournalAnswer) : Type 0 where
  pub n : Numbers
  pub is : a ≡ Ok n

pub not_zero : (reply : Reply) → (number_in reply =? 0) ≡ false → (room : ℕ) → code_of (told reply room) ≡ 0 → ⊥
unfolding told
not_zero reply h room e = go (room <? 4 * length (values_in reply)) e
  where
    go : (b : Bool) → code_of (if b then refuses 30 0 else reply) ≡ 0 → ⊥
    go true f = omega arith
    go false f = eqb-false (number_in reply) 0 h (omega arith)

module _ (F : Form) (table s : List ℕ) (room : ℕ) where
  pub zero_accepted : code_of (told (reply_of (check_in F table s)) room) ≡ 0 → IsAccepted (check_in F table s)
  zero_accepted e =
      judged (check_in F table s) (λ n is. record { n = n; is = is })
      (λ why is. absurd (not_zero (journal_refusal why) (some (journal_refusal why) (journal_ruled why)) room (rw is at e)))

  pub accepted_zero : (code : ℕ) → code ≡ code_of (told (reply_of (check_in F table s)) room) → code ≡ 0 → AcceptedIn F table s
  accepted_zero code e zero = let a = zero_accepted (sym e ∙ zero) in accepted F table s a.n a.is

-- ---- Where the host is not told 0

pub table_fine : (a : table.TableAnswer) → Numbered (table.reply_of a)
table_fine (Ok passed) = tt
table_fine (Err refusal) = numbered _ (table.table_ruled refusal)

pub journal_numbered : (a : JournalAnswer) → Numbered (reply_of a)
journal_numbered (Ok n) = tt
journal_numbered (Err why) = numbered _ (journal_ruled why)

-- A buffer that is written to is as it was.
pub buffer_kept : (reply : Reply) → Numbered reply → (written buffer : List ℕ) → (code_of reply ≡ 0 → ⊥) → buffer_after reply written buffer ≡ buffer
unfolding buffer_after
buffer_kept (gives values) h written buffer other = absurd (other refl)
buffer_kept (refuses number place) h written buffer other = rw h refl
