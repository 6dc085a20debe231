-- A live run as an entry that writes, and the live check; and the memory that the host keeps.
use mathlib.Core.Path.{◌≡◌, refl, sym, ◌∙◌}
use mathlib.Core.List.{List}
use mathlib.Core.Bool.{Bool, true, false}
use Prim.Native.Nat.{ℕ, zero, suc, ◌^◌, ◌<◌, ◌≤◌}
use native.Mathlib.Omega.{arith}
use borrow.Author.Tests.{lt-ltb, le-ltb, ltb-true, ltb-false}
use lib.ListN.{length, take}
use lib.Seq.{take-length}
use Rattle.std.specs.Prelude.{Result, Ok, Err, if◌then◌else◌}
use Rattle.wire.specs.Choice.{◌<?◌}
use Rattle.wire.proofs.Apart.{apart}
use Rattle.wire.specs.Made.{Made, refused, made, answer_in}
use Rattle.wire.specs.Reply.{gives, refuses}
use Rattle.table.specs.declared.Table.{Table}
use Rattle.table.specs.Check.{table_in}
use Rattle.table.proofs.Under.{under_either}
use Rattle.records.specs.declared.Record.{Record}
use Rattle.records.specs.declared.Refusal.{Refusal}
use Rattle.records.specs.declared.Refusal.TheVariants.{Misplaced}
use Rattle.records.specs.Refusal.{stopped}
use Rattle.wire.specs.Encode.{field}
use Rattle.records.specs.Encode.{bytes_of}
use Rattle.records.specs.Form.{Form, journal, stimulus, time_length}
use Rattle.records.specs.Reading.{Opening, Read, size_of, opening_of, record_at}
use Rattle.records.proofs.Shapes.{said_little}
use Rattle.machine.specs.Walk.{in_table}
use Rattle.turns.specs.declared.Progress.{Progress}
use Rattle.turns.specs.declared.Turned.{Turned}
use Rattle.turns.specs.Turns.{turn_of}
use Rattle.live.specs.declared.Judged.TheVariants as judged
use Rattle.live.specs.declared.NotTaken.{NotTaken}
use Rattle.live.specs.declared.NotTaken.TheVariants as why
use Rattle.live.specs.declared.Taken.{Taken}
use Rattle.live.specs.Answer.{Judgement, opens_with, Live, Watched, not_taken_reply, live_ruled, reply_of, watch_reply}
use Rattle.live.specs.Memory.{memory_length, stage_in, progress_in, first_out}
use Rattle.live.specs.Live.{alone, opened_by, went_on, record_judged, field_judged, memory_judged, judged_of, live_made, live_of, live_memory, kept_after, kept_if, watched_by, watch_of, watch_memory}
use Rattle.krossvil.specs.Host.{told, buffer_after, made_told, live_keeps, watch_keeps}
use Rattle.krossvil.specs.Small.{Fits, room_beside, Refusing}
use Rattle.krossvil.proofs.Refusals.{few, Refuses}
use Rattle.krossvil.proofs.TablePlaces.{table_refuses}
use Rattle.krossvil.proofs.Places.{of_record}
use Rattle.krossvil.proofs.Outcomes.{told_fits}
use Rattle.krossvil.proofs.Writers.{Writer, writer, Tells, Gives, no_change, on_success, on_30, told_short}

-- ---- What is refused fits

abbrev Says : Judgement → Type 0
Says (Ok judged) = Unit
Says (Err w) = Refuses (not_taken_reply w)

misplaced : (place : ℕ) → place ≤ 8 → Says (Err (why.Field (stopped Misplaced place)))
misplaced place h = of_record Misplaced place (omega arith)

alone_says : (size : ℕ) (s : List ℕ) (j : Judgement) → size ≤ 8 → Says j → Says (alone size s j)
alone_says size s j h says = go (size <? length s)
  where
    go : (b : Bool) → Says (if b then Err (why.Field (stopped Misplaced size)) else j)
    go true = misplaced size h
    go false = says

-- A field of a form with times of four bytes has at most eight.
short : (F : Form) → time_length F ≡ 4 → (r : Record) → size_of F r ≤ 8
short F four r = omega (arith, four, said_little F r)

module _ (F : Form) (four : time_length F ≡ 4) where
  opened_says : (s : List ℕ) (o : Opening) → Says (opened_by s o)
  unfolding opened_by
  opened_says s (Err x) = of_record x 0 (omega arith)
  opened_says s (Ok input) = alone_says 4 s (opens_with input) (omega arith) tt

  went_says : (x : Result Turned Refusal) → Says (went_on x)
  unfolding went_on
  went_says (Err x) = of_record x 0 (omega arith)
  went_says (Ok x) = tt

  record_says : (t : Table) (p : Progress) (s : List ℕ) (x : Read) → Says (record_judged F t p s x)
  unfolding record_judged
  record_says t p s (Err x) = of_record x 0 (omega arith)
  record_says t p s (Ok r) = alone_says (size_of F r) s (went_on (turn_of F t p r)) (short F four r) (went_says (turn_of F t p r))

  field_says : (t : Table) (stage : ℕ) (p : Progress) (s : List ℕ) → Says (field_judged F t stage p s)
  unfolding field_judged
  field_says t zero p s = opened_says s (opening_of F t.inputs s)
  field_says t (suc zero) p s = record_says t p s (record_at F (in_table F t) p.machine.time s 0)
  field_says t (suc (suc k)) p s = misplaced 0 (omega arith)

  memory_says : (t : Table) (n s : List ℕ) → Says (memory_judged F t n s)
  unfolding memory_judged
  memory_says t n s = go (length n <? memory_length) (first_out t n <? memory_length) refl
    where
      go : (a b : Bool) → (first_out t n <? memory_length) ≡ b →
          Says (if a then Err why.ShortMemory else if b then Err (why.OutOfRange (first_out t n)) else field_judged F t (stage_in n) (progress_in n) s)
      go true b e = record { ruled = live_ruled why.ShortMemory; place = omega arith }
      go false true e = record { ruled = live_ruled (why.OutOfRange (first_out t n)); place = omega (arith, ltb-true (first_out t n) memory_length e) }
      go false false e = field_says t (stage_in n) (progress_in n) s

  says : (table n s : List ℕ) → Says (judged_of F table n s)
  unfolding judged_of
  says table n s =
      under_either (λ refusal. Err (why.Table refusal)) (λ t. memory_judged F t n s) table Says (λ passed. memory_says (table_in table) n s)
      (λ refusal e. table_refuses false table refusal e)

-- ---- The live runtime

-- What was made is a refusal, or what stands of the run with a record that is not empty.
abbrev pub Shaped : Made Live → Type 0
Shaped (refused a) = (w : NotTaken) × (a ≡ Err w)
Shaped (made a bytes) = (x : Taken) × (a ≡ Ok x) × (x.size ≤ 8) × (0 < length bytes)

pub record Known (m : Made Live) : Type 0 where
  pub tells : Tells reply_of 6 m
  pub shaped : Shaped m

made_known : (t : Table) (j : Judgement) → Says j → Known (live_made t j)
unfolding live_made bytes_of field
made_known t (Err w) s = record { tells = s; shaped = (w, refl) }
made_known t (Ok (judged.Opens input)) s = record {
  tells = record { values = _; count = refl; is = refl };
  shaped = (_, refl, omega arith, omega arith);
}
made_known t (Ok (judged.Goes x)) s = record {
  tells = record { values = _; count = refl; is = refl };
  shaped = (_, refl, short journal refl x.taken, omega arith);
}

pub known : (table n event : List ℕ) → Known (live_of table n event)
known table n event = made_known (table_in table) (judged_of stimulus table n event) (says stimulus refl table n event)

abbrev pub live_writer : (table n event : List ℕ) → Writer
live_writer table n event = writer reply_of (Err why.NoRoom) refl 6 (live_of table n event) (known table n event).tells

-- The record's length fits into a number.
pub size_small : (m : Made Live) → Known m → (room : ℕ) {a : Live} → a ≡ answer_in (Err why.NoRoom) m room → {x : Taken} → a ≡ Ok x → x.size < 2 ^ 32
unfolding answer_in
size_small (refused y) k room {a} is {x} e =
    let not : Err k.shaped.0 ≡ Ok x = sym k.shaped.1 ∙ sym is ∙ e in
    apart cc
size_small (made y bytes) k room {a} is {x} e = go (room <? length bytes) is
  where
    go : (b : Bool) → a ≡ (if b then Err why.NoRoom else y) → x.size < 2 ^ 32
    go true is = let not : Err why.NoRoom ≡ Ok x = sym is ∙ e in apart cc
    go false is =
        let same : Ok k.shaped.0 ≡ Ok x = sym k.shaped.1 ∙ sym is ∙ e in
        let it : k.shaped.0 ≡ x = cc in
        let small = rw it at k.shaped.2 in
        omega (arith, small)

-- ---- The memory

module _ (out answer n after : List ℕ) where
  abbrev Kept : Made Live → ℕ → List ℕ
  Kept m room = kept_if (answer_in (Err why.NoRoom) m room) after n

  -- Without room for the numbers it is 30, whether the record has room or not.
  thirty : (a : Live) → Gives reply_of 6 a → length answer < 24 → (full : Bool) →
      told (reply_of (if full then Err why.NoRoom else a)) (length answer) ≡ refuses 30 0
  thirty a g low true = told_short g.values (length answer) (rw g.count low) true
  thirty a g low false = rw g.is (told_short g.values (length answer) (rw g.count low) false)

  module _ (a : Live) (bytes : List ℕ) (k : Known (made a bytes)) where
    no_numbers : length answer < 24 → kept_if (if 0 <? length bytes then Err why.NoRoom else a) after n ≡
        buffer_after (made_told reply_of (Err why.NoRoom) (made a bytes) out (length answer)) (Kept (made a bytes) (length out)) n
    unfolding answer_in
    no_numbers low =
        rw (lt-ltb 0 (length bytes) k.shaped.3, thirty a k.tells low (length out <? length bytes)) (on_30 n (Kept (made a bytes) (length out)))

    with_numbers : 24 ≤ length answer → (full : Bool) → kept_if (if full then Err why.NoRoom else a) after n ≡
        buffer_after (told (reply_of (if full then Err why.NoRoom else a)) (length answer)) (kept_if (if full then Err why.NoRoom else a) after n) n
    with_numbers enough true = no_change _ n n refl
    with_numbers enough false =
        rw (k.tells.is, told_fits (gives k.tells.values) (length answer) (rw k.tells.count enough)) (on_success k.tells.values n (kept_if a after n))

  kept_home : (m : Made Live) → Known m → (room : ℕ) → room ≡ room_beside (length answer) 24 (length out) →
      Kept m (length (take room out)) ≡ buffer_after (made_told reply_of (Err why.NoRoom) m out (length answer)) (Kept m (length out)) n
  unfolding answer_in room_beside
  kept_home (refused a) k room lent = let w = k.shaped in rw w.1 (no_change _ n n refl)
  kept_home (made a bytes) k room lent = go (length answer <? 24) refl
    where
      go : (b : Bool) → (length answer <? 24) ≡ b → Kept (made a bytes) (length (take room out)) ≡
          buffer_after (made_told reply_of (Err why.NoRoom) (made a bytes) out (length answer)) (Kept (made a bytes) (length out)) n
      go true e =
          let none : room ≡ 0 = lent ∙ rw e refl in
          rw none (no_numbers a bytes k (ltb-true (length answer) 24 e))
      go false e =
          let whole : room ≡ length out = lent ∙ rw e refl in
          rw (whole, take-length out) (with_numbers a bytes k (ltb-false (length answer) 24 e) (length out <? length bytes))

-- What the live runtime kept is what the host is told that it keeps.
pub live_kept : (table n event out answer : List ℕ) (room : ℕ) → room ≡ room_beside (length answer) 24 (length out) → {n' : List ℕ} →
    n' ≡ live_memory table n event (length (take room out)) → n' ≡ live_keeps table n event out (length answer)
live_kept table n event out answer room lent e =
    e ∙ kept_home out answer n (kept_after (table_in table) (judged_of stimulus table n event) n) (live_of table n event) (known table n event) room lent

-- ---- The live check

pub watch_says : (table n s : List ℕ) → Refusing (watch_of table n s)
unfolding watched_by
watch_says table n s = go (judged_of journal table n s) (says journal refl table n s)
  where
    go : (j : Judgement) → Says j → Refusing (watched_by (table_in table) j)
    go (Ok (judged.Opens input)) h = tt
    go (Ok (judged.Goes x)) h = tt
    go (Err w) h = h.place

pub watch_fits : (a : Watched) → Refusing a → Fits (watch_reply a)
watch_fits (Ok numbers) r = record { number = omega arith; place = omega arith }
watch_fits (Err w) r = record { number = few (not_taken_reply w) (live_ruled w); place = r }

-- What is kept: with room for the numbers what was judged, and without it nothing.
module _ (table n s answer : List ℕ) where
  pub watch_looks : length answer < 28 → n ≡ watch_keeps table n s (length answer)
  unfolding watched_by kept_after told buffer_after
  watch_looks low = go (judged_of journal table n s)
    where
      go : (j : Judgement) → n ≡ buffer_after (told (watch_reply (watched_by (table_in table) j)) (length answer)) (kept_after (table_in table) j n) n
      go (Ok (judged.Opens input)) = rw (lt-ltb (length answer) 28 low) refl
      go (Ok (judged.Goes x)) = rw (lt-ltb (length answer) 28 low) refl
      go (Err w) = no_change (told (not_taken_reply w) (length answer)) n n refl

  pub watch_keeps_lem : 28 ≤ length answer → {n' : List ℕ} → n' ≡ watch_memory table n s → n' ≡ watch_keeps table n s (length answer)
  unfolding watched_by kept_after told buffer_after
  watch_keeps_lem enough e = e ∙ go (judged_of journal table n s)
    where
      go : (j : Judgement) → kept_after (table_in table) j n ≡ buffer_after (told (watch_reply (watched_by (table_in table) j)) (length answer)) (kept_after (table_in table) j n) n
      go (Ok (judged.Opens input)) = rw (le-ltb (length answer) 28 enough) refl
      go (Ok (judged.Goes x)) = rw (le-ltb (length answer) 28 enough) refl
      go (Err w) = no_change (told (not_taken_reply w) (length answer)) n n refl
