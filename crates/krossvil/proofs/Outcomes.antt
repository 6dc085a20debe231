-- What each entry owes the host, whatever the entry.
use mathlib.Core.Path.{◌≡◌, refl, sym, ap, ◌∙◌}
use mathlib.Core.List.{List, [], ◌∷◌, ◌++◌}
use Prim.Native.Nat.{ℕ, suc, ◌+◌, ◌*◌, ◌^◌, ◌<◌, ◌≤◌}
use native.Mathlib.Omega.{arith}
use borrow.Author.Tests.{lt-ltb, le-ltb}
use lib.ListN.{length, get_or, take, drop, length-append, length-drop}
use lib.Seq.{drop-append-add, length-take-le, take_all, take_at, take-suc, drop-drop}
use Rattle.wire.specs.Encode.{bytes32, placed_in}
use Rattle.wire.specs.Reply.{Reply, gives, Ruled, place_in, values_in}
use Rattle.table.specs.Encode.{words}
use Rattle.table.proofs.Words.{length-words, words-append}
use Rattle.krossvil.specs.Host.{told, numbered, code_of, answer_after}
use Rattle.krossvil.specs.Small.{Fits}
use Rattle.krossvil.proofs.Refusals.{none}

-- The code, and the answer buffer after it.
abbrev pub Owed : Reply → List ℕ → ℕ → List ℕ → Type 0
Owed reply before code after = (code ≡ code_of (told reply (length before))) × (after ≡ answer_after (told reply (length before)) before)

-- ---- A success

module _ (numbers before : List ℕ) (code : ℕ) where
  pub too_short : length before < 4 * length numbers → code ≡ numbered 30 0 → Owed (gives numbers) before code before
  unfolding told words
  too_short h e = rw (e, lt-ltb (length before) (4 * length numbers) h) (refl, refl)

  pub long_enough : 4 * length numbers ≤ length before → code ≡ 0 → (after : List ℕ) →
      after ≡ words numbers ++ drop (4 * length numbers) before → Owed (gives numbers) before code after
  unfolding told
  long_enough h e after is = rw (e, is, le-ltb (length before) (4 * length numbers) h) (refl, refl)

-- ---- A refusal

-- No answer is too short for a refusal, which has no numbers.
pub owed_none : (reply : Reply) → values_in reply ≡ [] → (before : List ℕ) (code : ℕ) → code ≡ code_of reply → Owed reply before code before
unfolding told words
owed_none reply none before code e =
    let enough = le-ltb (length before) 0 (omega arith) in
    rw (none, enough, none) (e, refl)

-- `right` is what the entry's contract gives, and `b` what the answer turned out to be.
module _ {A : Type 0} (reply_of : A → Reply) (right : A) {a b : A} (is : a ≡ right) (same : a ≡ b) where
  pub place_fits : Fits (reply_of right) → place_in (reply_of b) < 2 ^ 32
  place_fits h = let e : right ≡ b = sym is ∙ same in (rw e at h).place

  pub owed : (before after : List ℕ) (code : ℕ) → Owed (reply_of b) before code after → Owed (reply_of right) before code after
  owed before after code h = let e : right ≡ b = sym is ∙ same in rw e h

  pub refused : Ruled (reply_of b) → (before : List ℕ) (code : ℕ) → code ≡ code_of (reply_of b) → Owed (reply_of right) before code before
  refused ruled before code e = owed before before code (owed_none (reply_of b) (none (reply_of b) ruled) before code e)

-- With room for its numbers a reply is told as it is.
pub told_fits : (reply : Reply) (room : ℕ) → 4 * length (values_in reply) ≤ room → told reply room ≡ reply
unfolding told
told_fits reply room h = rw (le-ltb room (4 * length (values_in reply)) h) refl

-- ---- Numbers put one after another

one_more : (numbers : List ℕ) (k : ℕ) → k < length numbers → words (take (k + 1) numbers) ≡ words (take k numbers) ++ bytes32 (get_or numbers k 0)
unfolding words
one_more numbers k h =
    let e : k + 1 ≡ suc k = omega arith in
    rw e (ap words (take-suc numbers k 0 h) ∙ words-append (take k numbers) (get_or numbers k 0 ∷ []))

-- The first `k` numbers stand in the buffer, and behind them it is as it was.
pub record Put (numbers before now : List ℕ) (k : ℕ) : Type 0 where
  pub some : k ≤ length numbers
  pub room : 4 * length numbers ≤ length before
  pub is : now ≡ words (take k numbers) ++ drop (4 * k) before

pub put_none : (numbers before : List ℕ) → 4 * length numbers ≤ length before → Put numbers before before 0
unfolding words
put_none numbers before h = record { some = omega arith; room = h; is = refl }

module _ (numbers before now : List ℕ) (k : ℕ) (put : Put numbers before now k) where
  front_length : length (words (take k numbers)) ≡ 4 * k
  front_length = length-words (take k numbers) ∙ ap (λ n. 4 * n) (length-take-le k numbers put.some)

  pub put_length : length now ≡ length before
  put_length = let e = front_length in rw (put.is, length-append, length-drop) (omega (arith, put.room, put.some))

  pub put_next : k < length numbers → (later : List ℕ) → later ≡ placed_in now (4 * k) (bytes32 (get_or numbers k 0)) → Put numbers before later (k + 1)
  put_next more later p = record { some = omega arith; room = put.room; is = p ∙ whole }
    where
      front : take (4 * k) now ≡ words (take k numbers)
      front = ap (take (4 * k)) put.is ∙ take_at (words (take k numbers)) (drop (4 * k) before) (4 * k) front_length

      rest : drop (4 * k + 4) now ≡ drop (4 * (k + 1)) before
      rest =
          let e : 4 * (k + 1) ≡ 4 * k + 4 = omega arith in
          rw (e, put.is, ← front_length) (drop-append-add (words (take k numbers)) (drop (length (words (take k numbers))) before) 4 ∙ drop-drop 4 (length (words (take k numbers))) before)

      whole : placed_in now (4 * k) (bytes32 (get_or numbers k 0)) ≡ words (take (k + 1) numbers) ++ drop (4 * (k + 1)) before
      whole = rw (front, rest, one_more numbers k more) refl

  pub put_all : length numbers ≤ k → now ≡ words numbers ++ drop (4 * length numbers) before
  put_all h =
      let e : k ≡ length numbers = omega (arith, put.some) in
      put.is ∙ rw (take_all k numbers h, e) refl
