-- What an entry owes the host that writes to a buffer beside the answer.
use mathlib.Core.Path.{◌≡◌, refl, sym, ap, ◌∙◌}
use mathlib.Core.List.{List, [], ◌∷◌, ◌++◌, append-nil}
use mathlib.Core.Bool.{Bool, true, false}
use Prim.Native.Nat.{ℕ, zero, suc, ◌*◌, ◌^◌, ◌<◌, ◌≤◌}
use native.Mathlib.Omega.{arith}
use borrow.Author.Tests.{lt-ltb, le-ltb, ltb-true, ltb-false}
use lib.ListN.{length, get_or, take, drop}
use lib.Seq.{take-length, drop-length}
use Rattle.std.specs.Prelude.{Result, Ok, Err, if◌then◌else◌}
use Rattle.wire.specs.Choice.{◌<?◌, ◌=?◌}
use Rattle.wire.specs.Made.{Made, refused, made, answer_in, buffer_in}
use Rattle.wire.specs.Reply.{Reply, gives, refuses, Ruled, number_in, place_in, values_in}
use Rattle.wire.proofs.Made as made_proofs
use Rattle.krossvil.specs.Host.{told, code_of, answer_after, buffer_after, made_told, made_buffer}
use Rattle.krossvil.specs.Small.{Fits, room_beside, sized, Tellable}
use Rattle.krossvil.proofs.Refusals.{Numbered, Refuses, none, numbered, fits_of}
use Rattle.krossvil.proofs.Outcomes.{Owed, owed_none, told_fits}

-- ---- A buffer after a reply

pub no_change : (reply : Reply) (buffer written : List ℕ) → written ≡ buffer → buffer ≡ buffer_after reply written buffer
unfolding buffer_after
no_change reply buffer written e = rw e (go (number_in reply =? 0))
  where
    go : (b : Bool) → buffer ≡ (if b then buffer else buffer)
    go true = refl
    go false = refl

pub on_success : (values buffer written : List ℕ) → written ≡ buffer_after (gives values) written buffer
unfolding buffer_after
on_success values buffer written = refl

pub on_30 : (buffer written : List ℕ) → buffer ≡ buffer_after (refuses 30 0) written buffer
unfolding buffer_after
on_30 buffer written = refl

-- What is told of a success without room for its numbers is 30, whether the bytes have room or not.
pub told_short : (values : List ℕ) (room : ℕ) → room < 4 * length values → (full : Bool) → told (if full then refuses 30 0 else gives values) room ≡ refuses 30 0
unfolding told
told_short values room h true = rw (le-ltb room 0 (omega arith)) refl
told_short values room h false = rw (lt-ltb room (4 * length values) h) refl

-- ---- An entry that writes

-- With bytes come k numbers.
pub record Gives {A : Type 0} (reply_of : A → Reply) (k : ℕ) (a : A) : Type 0 where
  pub values : List ℕ
  pub count : length values ≡ k
  pub is : reply_of a ≡ gives values

abbrev pub Tells : {A : Type 0} → (A → Reply) → ℕ → Made A → Type 0
Tells reply_of k (refused a) = Refuses (reply_of a)
Tells reply_of k (made a bytes) = Gives reply_of k a

pub record Writer : Type 1 where
  pub Answers : Type 0
  pub reply_of : Answers → Reply
  pub short : Answers
  pub thirty : reply_of short ≡ refuses 30 0
  pub k : ℕ
  pub makes : Made Answers
  pub tells : Tells reply_of k makes

abbrev pub writer : {A : Type 0} (reply_of : A → Reply) (short : A) → reply_of short ≡ refuses 30 0 → (k : ℕ) (m : Made A) → Tells reply_of k m → Writer
writer {A} reply_of short thirty k m tells =
    record { Answers = A; reply_of = reply_of; short = short; thirty = thirty; k = k; makes = m; tells = tells }

-- The numbers that come with bytes fit into 32 bits.
abbrev pub Small : {A : Type 0} → (A → Reply) → Made A → Type 0
Small reply_of (refused a) = Unit
Small reply_of (made a bytes) = (i : ℕ) → get_or (values_in (reply_of a)) i 0 < 2 ^ 32

-- ---- What is told, and the buffer, where the answer lacks room for the numbers and where it has it

-- With `room` bytes of the buffer lent.
abbrev Home : (w : Writer) → Made w.Answers → (buffer answer : List ℕ) (room : ℕ) → Type 0
Home w m buffer answer room =
    (told (w.reply_of (answer_in w.short m (length (take room buffer)))) (length answer) ≡ made_told w.reply_of w.short m buffer (length answer))
    × (buffer_in m (take room buffer) ++ drop room buffer ≡ made_buffer w.reply_of w.short m buffer (length answer))

nothing_lent : (bytes buffer : List ℕ) → (if 0 <? length bytes then [] else bytes ++ drop (length bytes) []) ++ buffer ≡ buffer
nothing_lent [] buffer = refl
nothing_lent (x ∷ bytes) buffer = rw (lt-ltb 0 (length (x ∷ bytes)) (omega arith)) refl

module _ (w : Writer) (buffer answer : List ℕ) where
  told_30 : (a : w.Answers) → Gives w.reply_of w.k a → length answer < 4 * w.k → (full : Bool) →
      told (w.reply_of (if full then w.short else a)) (length answer) ≡ refuses 30 0
  told_30 a g low true = rw w.thirty (told_short g.values (length answer) (rw g.count low) true)
  told_30 a g low false = rw g.is (told_short g.values (length answer) (rw g.count low) false)

  short_home : (m : Made w.Answers) → Tells w.reply_of w.k m → length answer < 4 * w.k → Home w m buffer answer 0
  unfolding answer_in buffer_in
  short_home (refused a) t low = (refl, no_change _ buffer buffer refl)
  short_home (made a bytes) t low =
      let thirty = told_30 a t low in (
        thirty (0 <? length bytes) ∙ sym (thirty (length buffer <? length bytes)),
        nothing_lent bytes buffer ∙ on_30 buffer (buffer_in (made a bytes) buffer)
            ∙ ap (λ reply. buffer_after reply (buffer_in (made a bytes) buffer) buffer) (sym (thirty (length buffer <? length bytes))),
      )

  long_home : (m : Made w.Answers) → Tells w.reply_of w.k m → 4 * w.k ≤ length answer →
      buffer_in m buffer ≡ made_buffer w.reply_of w.short m buffer (length answer)
  unfolding answer_in buffer_in
  long_home (refused a) t enough = no_change _ buffer buffer refl
  long_home (made a bytes) t enough = go (length buffer <? length bytes)
    where
      go : (full : Bool) → (if full then buffer else bytes ++ drop (length bytes) buffer) ≡
          buffer_after (told (w.reply_of (if full then w.short else a)) (length answer)) (if full then buffer else bytes ++ drop (length bytes) buffer) buffer
      go true = no_change _ buffer buffer refl
      go false = rw (t.is, told_fits (gives t.values) (length answer) (rw t.count enough)) (on_success t.values buffer _)

  home : (room : ℕ) → room ≡ room_beside (length answer) (4 * w.k) (length buffer) → Home w w.makes buffer answer room
  unfolding room_beside
  home room lent = go (length answer <? 4 * w.k) refl
    where
      go : (b : Bool) → (length answer <? 4 * w.k) ≡ b → Home w w.makes buffer answer room
      go true e =
          let none : room ≡ 0 = lent ∙ rw e refl in
          rw none (short_home w.makes w.tells (ltb-true (length answer) (4 * w.k) e))
      go false e =
          let whole : room ≡ length buffer = lent ∙ rw e refl in
          rw (whole, take-length buffer, drop-length buffer, append-nil (buffer_in w.makes buffer))
          (refl, long_home w.makes w.tells (ltb-false (length answer) (4 * w.k) e))

-- ---- What the entry owes

module _ (w : Writer) where
  -- The code, the answer buffer and the buffer that is written to.
  abbrev pub WriteOwed : (buffer answer : List ℕ) (code : ℕ) (after later : List ℕ) → Type 0
  WriteOwed buffer answer code after later =
      (code ≡ code_of (made_told w.reply_of w.short w.makes buffer (length answer)))
      × ((after ≡ answer_after (made_told w.reply_of w.short w.makes buffer (length answer)) answer)
      × (later ≡ made_buffer w.reply_of w.short w.makes buffer (length answer)))

  -- What was turned down beforehand is told so, and no buffer changes.
  pub turned_down_owed : (x : w.Answers) → w.makes ≡ refused x → (room code : ℕ) → code ≡ code_of (told (w.reply_of x) room) → (buffer answer : List ℕ) →
      WriteOwed buffer answer code answer buffer
  unfolding answer_in buffer_in
  turned_down_owed x is room code e buffer answer =
      let down : Refuses (w.reply_of x) = rw is at w.tells in
      let empty = none (w.reply_of x) down.ruled in
      let owed = owed_none (w.reply_of x) empty answer code (e ∙ ap code_of (told_fits (w.reply_of x) room (rw empty (omega arith)))) in
      rw is (owed.0, (owed.1, no_change _ buffer buffer refl))

  -- ---- Whatever the room

  pub said : (room : ℕ) → Fits (w.reply_of (answer_in w.short w.makes room)) × Numbered (w.reply_of (answer_in w.short w.makes room))
  said room =
      made_proofs.answer_either (λ x. Fits (w.reply_of x) × Numbered (w.reply_of x)) w.short (rw w.thirty (record { number = omega arith; place = omega arith }, refl))
      w.makes (go w.makes w.tells) room
    where
      go : (m : Made w.Answers) → Tells w.reply_of w.k m →
          Fits (w.reply_of (made_proofs.answer_made m)) × Numbered (w.reply_of (made_proofs.answer_made m))
      go (refused x) t = (fits_of _ t, numbered _ t.ruled)
      go (made x bytes) t = rw t.is (record { number = omega arith; place = omega arith }, tt)

  -- The answer, with room for so many bytes, and what it turns out to be.
  module _ (room : ℕ) {a b : w.Answers} (is : a ≡ answer_in w.short w.makes room) (same : a ≡ b) where
    pub place_small : place_in (w.reply_of b) < 2 ^ 32
    place_small = let e = sym is ∙ same in (rw e at (said room)).0.place

    pub value_small : Small w.reply_of w.makes → (i : ℕ) → get_or (values_in (w.reply_of b)) i 0 < 2 ^ 32
    value_small small i =
        rw (← same, is) (made_proofs.answer_either (λ x. get_or (values_in (w.reply_of x)) i 0 < 2 ^ 32) w.short (rw w.thirty (omega arith)) w.makes
        (go w.makes w.tells small) room)
      where
        go : (m : Made w.Answers) → Tells w.reply_of w.k m → Small w.reply_of m → get_or (values_in (w.reply_of (made_proofs.answer_made m))) i 0 < 2 ^ 32
        go (refused x) t s = rw (none (w.reply_of x) t.ruled) (omega arith)
        go (made x bytes) t s = s i

  -- And where only the room beside the answer was lent, of the buffer that comes home.
  module _ (buffer answer : List ℕ) {room : ℕ} (lent : room ≡ room_beside (length answer) (4 * w.k) (length buffer))
      {a b : w.Answers} {part : List ℕ} (did : made_proofs.Owed w.short w.makes a (take room buffer) part) (same : a ≡ b) where
    pub success_owed : {code : ℕ} {after : List ℕ} → Owed (w.reply_of b) answer code after → WriteOwed buffer answer code after (part ++ drop room buffer)
    success_owed owed =
        let h = home w buffer answer room lent in
        let told_same = ap (λ x. told (w.reply_of x) (length answer)) (sym same ∙ did.0) ∙ h.0 in
        (owed.0 ∙ ap code_of told_same, (owed.1 ∙ ap (λ x. answer_after x answer) told_same, ap (λ x. x ++ drop room buffer) did.1 ∙ h.1))

    pub refusal_owed : Ruled (w.reply_of b) → {code : ℕ} → code ≡ code_of (w.reply_of b) → WriteOwed buffer answer code answer (part ++ drop room buffer)
    refusal_owed ruled e = success_owed (owed_none (w.reply_of b) (none (w.reply_of b) ruled) answer _ e)

-- ---- An answer that has one number

pub one_number : {A : Type 0} {reply_of : A → Reply} {a : A} (value : ℕ) → reply_of a ≡ gives (value ∷ []) → Gives reply_of 1 a
one_number value is = record { values = value ∷ []; count = refl; is = is }

pub one_small : (value : ℕ) → value < 2 ^ 32 → (i : ℕ) → get_or (value ∷ []) i 0 < 2 ^ 32
one_small value h zero = h
one_small value h (suc i) = omega arith

-- ---- An entry that tells how many bytes it made

pub record SizeWriter : Type 1 where
  pub R : Type 0
  pub refused : R → Reply
  pub reply_of : Result ℕ R → Reply
  pub same : (a : Result ℕ R) → sized refused a ≡ reply_of a
  pub short : Result ℕ R
  pub thirty : reply_of short ≡ refuses 30 0
  pub makes : Made (Result ℕ R)
  pub tells : Tells reply_of 1 makes
  pub small : Small reply_of makes

abbrev pub writer_of : SizeWriter → Writer
writer_of z = writer z.reply_of z.short z.thirty 1 z.makes z.tells

module _ (z : SizeWriter) where
  pub tellable : (room : ℕ) {a : Result ℕ z.R} → a ≡ answer_in z.short z.makes room → Tellable z.refused a
  tellable room {a} is = go a refl
    where
      go : (b : Result ℕ z.R) → a ≡ b → Tellable z.refused b
      go (Ok size) e = rw (← z.same (Ok size)) at (value_small (writer_of z) room is e z.small 0)
      go (Err refusal) e = rw (← z.same (Err refusal)) at (place_small (writer_of z) room is e)

  pub size_owed : (buffer answer : List ℕ) {room : ℕ} → room ≡ room_beside (length answer) 4 (length buffer) → {a : Result ℕ z.R} {part : List ℕ} →
      made_proofs.Owed z.short z.makes a (take room buffer) part → {code : ℕ} {after : List ℕ} → Owed (sized z.refused a) answer code after →
      WriteOwed (writer_of z) buffer answer code after (part ++ drop room buffer)
  size_owed buffer answer lent {a} did owed = success_owed (writer_of z) buffer answer lent did refl (rw (z.same a) at owed)
