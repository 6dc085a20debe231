-- The theorems about the converter, as specs/Conversions states them.
use mathlib.Core.Path.{◌≡◌, refl, sym, ap, ◌∙◌}
use mathlib.Core.List.{List, [], ◌∷◌, ◌++◌, append_assoc}
use mathlib.Core.Bool.{Bool, true, false, ◌&&◌, not}
use Prim.Native.Nat.{ℕ, zero, suc, ◌+◌, ◌*◌, ◌/◌, ◌%◌, ◌^◌, ◌<◌, ◌≤◌}
use native.Mathlib.Omega.{arith}
use borrow.Author.Tests.{eq-eqb, eqb-true, le-ltb, ltb-false}
use lib.ListN.{length, get_or, take, drop, length-append}
use lib.Seq.{take_at, length-take-le}
use Rattle.std.specs.Prelude.{if◌then◌else◌, Ok, Err}
use Rattle.wire.specs.Choice.{◌<?◌, ◌=?◌}
use Rattle.wire.specs.Encode.{bytes32, field}
use Rattle.wire.specs.Made.{made, answer_in, buffer_in}
use Rattle.wire.proofs.Apart.{apart}
use Rattle.wire.proofs.Choice.{never}
use Rattle.sets.proofs.Members.{member_below, below_limit}
use Rattle.table.specs.declared.Refusal.{Refusal}
use Rattle.table.specs.declared.Table.{Table}
use Rattle.table.specs.Entries.{values, filled_to, zeros}
use Rattle.table.specs.Table.{hold_of, delayed_of, delays, region_of, holders, Uses, WellFormedBy, WellFormed}
use Rattle.table.specs.Check.{word_entry, counts_in, hold_field, delayed_field, old_answer, table_answer, table_with, table_in}
use Rattle.table.specs.Encode.{table_bytes, timing, words}
use Rattle.table.specs.Under.{under_table}
use Rattle.table.proofs.Answers.{decided}
use Rattle.table.proofs.Stands.{old_stands}
use Rattle.table.proofs.Under.{under_passes}
use Rattle.table.proofs.Values.{length-values, get_or-filled, filled_uses, total_none}
use Rattle.table.proofs.WellFormed.{retimed, well_formed_by, well_formed}
use Rattle.table.proofs.Words.{length-words}
use Rattle.convert.specs.declared.Refusal.TheVariants as why
use Rattle.convert.specs.Convert.{new_set, change, with_sets, emptied, by_state, new_bytes, changes, made_of}
use Rattle.convert.proofs.Converting.{is_made, new_length}
use Rattle.records.specs.Form as form
use Rattle.journal.specs.Check.{check_in}
use Rattle.reaction.specs.Reaction.{for_holds, reaction_of, react_of}
use Rattle.reaction.proofs.Entry.{has_holds}
use Rattle.moves.specs.Moves.{judge, judge_of, moves_of, sums_after, path_after}
use Rattle.tight.specs.Tight.{react_tight_of}
use Rattle.tight.specs.Several.{room_for_sums, room_for_path, tight_moves_of}
use Rattle.runtime.specs.Run.{run_of, made_of_run}
use Rattle.laws.specs.Conversions.{conversion_answer, new_table, ConvertsFaithfully, PassingComesBack, ConvertsOnce}
use Rattle.laws.proofs.Rows.{front, same_array}
use Rattle.laws.proofs.Encoding.{passes_encodes, encoding_passes}
use Rattle.laws.proofs.Emptied.{
  set_is,
  answers_same,
  run_same,
  reactions_same,
  tight_same,
  judge_same,
  over_same,
  rows_over_same,
  path_over_same,
  tight_over_same,
}

-- ---- The emptied table is well formed

new_below : (hold set limit : ℕ) → set < limit → new_set hold set < limit
new_below hold set limit low = go (hold =? 0)
  where
    go : (b : Bool) → (if b then 0 else set) < limit
    go true = omega arith
    go false = low

-- Only the sets are other ones.
with_sets_lem : {old other : Bool} (t : Table) → WellFormedBy old t → (sets : List ℕ) →
    ((q i : ℕ) → q < t.states → delays (with_sets t sets) q i ≡ true → i < t.inputs) →
    (other ≡ false → (q : ℕ) → q < t.states → hold_of t q ≡ 0 → delayed_of (with_sets t sets) q ≡ 0) →
    (other ≡ true → t.timers ≡ 0) → Uses (holders t) 32 sets → WellFormedBy other (with_sets t sets)
with_sets_lem t ok sets delayed not_idle no_timers uses =
    retimed t ok t.hold sets t.timers t.timing t.sets
    (record {
      hold = ok.hold;
      delayed = delayed;
      not_idle = not_idle;
      timers = ok.timers;
      no_timers = no_timers;
      length = ok.length;
      region = ok.region;
      sets = ok.sets;
    })
    ok.hold_uses uses ok.timing_uses ok.sets_uses

-- In a table without timers every state may have a hold of its own.
empty_regions : {old : Bool} (t : Table) → WellFormedBy old t → t.timers ≡ 0 → (k : ℕ) → region_of t k ≡ 0
empty_regions t ok none k = ok.timing_uses.rest (2 * k + 1) (rw none (omega arith))

plain_uses : {old : Bool} (t : Table) → WellFormedBy old t → t.timers ≡ 0 → Uses t.states 32 t.delayed
plain_uses t ok none = rw (eq-eqb t.timers 0 none) at ok.delayed_uses

module _ (t : Table) (ok : WellFormedBy true t) where
  abbrev few : t.states ≤ 32
  few = ok.states.1

  emptied_set : (q : ℕ) → delayed_of (emptied t) q ≡ new_set (hold_of t q) (delayed_of t q)
  emptied_set = set_is t few (plain_uses t ok (ok.no_timers refl)) (empty_regions t ok (ok.no_timers refl))

  emptied_below : (q : ℕ) → q < t.states → delayed_of (emptied t) q < 2 ^ t.inputs
  emptied_below q h = rw (emptied_set q) (new_below (hold_of t q) (delayed_of t q) (2 ^ t.inputs) (below_limit _ t.inputs (λ i. ok.delayed q i h)))

  emptied_idle : (q : ℕ) → hold_of t q ≡ 0 → delayed_of (emptied t) q ≡ 0
  emptied_idle q none = rw (emptied_set q, none) refl

  emptied_well : WellFormed (emptied t)
  unfolding emptied
  emptied_well =
      with_sets_lem t ok _ (λ q i h m. member_below _ t.inputs i (emptied_below q h) m) (λ new q h none. emptied_idle q none) (λ old. ok.no_timers refl)
      (rw (eq-eqb t.timers 0 (ok.no_timers refl)) (filled_uses (λ q. new_set (hold_of t q) (delayed_of t q)) t.states 32 few))

-- ---- The bytes are its encoding

values_same : (f g : ℕ → ℕ) (n : ℕ) → ((k : ℕ) → k < n → f k ≡ g k) → values f n ≡ values g n
unfolding values
values_same f g zero same = refl
values_same f g (suc n) same = rw (values_same f g n (λ k h. same k (omega arith)), same n (omega arith)) refl

-- Up to its entries the last field stays, since it is as long as before.
last_field : (s a : List ℕ) (tag at : ℕ) (v w : List ℕ) → s ≡ a ++ field tag v → at + 3 + length v ≡ length s → length w ≡ length v →
    take (at + 3) s ++ w ≡ a ++ field tag w
unfolding field
last_field s a tag at v w is long same =
    let head = tag ∷ length v / 256 ∷ length v % 256 ∷ [] in
    let sized = ap length is ∙ length-append a (head ++ v) in
    let before : length (a ++ head) ≡ at + 3 = length-append a head ∙ omega arith in
    let cut : take (at + 3) s ≡ a ++ head = ap (take (at + 3)) (is ∙ sym (append_assoc a head v)) ∙ take_at (a ++ head) v (at + 3) before in
    rw (cut, same) (append_assoc a head w)

abbrev to04 : Table → List ℕ
to04 t =
    field 0x01 (t.states ∷ t.inputs ∷ t.outputs ∷ t.initial ∷ [])
    ++ field 0x02 (bytes32 t.bound)
    ++ field 0x03 (take t.states t.output)
    ++ field 0x04 (take (t.states * t.inputs) t.next)

abbrev field05 : Table → List ℕ
field05 t = field 0x05 (words (take t.states t.hold))

module _ (s : List ℕ) (passes : old_answer s ≡ Ok tt) where
  -- By the old rules it has holds.
  abbrev table : Table
  table = table_with (counts_in s) s 0

  is_table : table_in s ≡ table
  is_table = ap (table_with (counts_in s) s) (old_stands s passes).1.none

  abbrev states : ℕ
  states = (counts_in s).states

  well : WellFormedBy true table
  well = rw is_table at (well_formed_by true s passes)

  abbrev sets : List ℕ
  sets = values (by_state new_set s (hold_field (counts_in s)) (delayed_field (counts_in s))) states

  sets_same : sets ≡ take states (emptied table).delayed
  unfolding emptied table_with
  sets_same =
      let read : (entry : ℕ → ℕ) (q : ℕ) → q < states → entry q ≡ get_or (filled_to entry states (zeros 32)) q 0 =
      λ entry q h. sym (get_or-filled entry states 32 well.states.1 q h)
      in
      values_same _ (λ q. new_set (hold_of table q) (delayed_of table q)) states (λ q h. rw (
        read (word_entry s (hold_field (counts_in s))) q h,
        read (word_entry s (delayed_field (counts_in s))) q h,
      ) refl)
      ∙ sym (front (λ q. new_set (hold_of table q) (delayed_of table q)) states 32)

  table_encodes : s ≡ table_bytes table → new_bytes (counts_in s) s ≡ table_bytes (emptied table)
  unfolding new_bytes table_bytes timing emptied table_with
  table_encodes is =
      let old = words (take states table.delayed) in
      let room : states ≤ length table.delayed = rw well.delayed_uses.places well.states.1 in
      let old_long : length old ≡ 4 * states = length-words _ ∙ ap (λ n. 4 * n) (length-take-le states table.delayed room) in
      let new_long : length (words sets) ≡ 4 * states = length-words _ ∙ ap (λ n. 4 * n) (length-values _ states) in
      last_field s (to04 table ++ field05 table) 0x06 (delayed_field (counts_in s)) old (words sets) (is ∙ sym (append_assoc (to04 table) (field05 table) (field 0x06 old)))
      (omega (arith, old_long, (old_stands s passes).1.ends)) (new_long ∙ sym old_long)
      ∙ append_assoc (to04 table) (field05 table) (field 0x06 (words sets))
      ∙ ap (λ v. to04 table ++ (field05 table ++ field 0x06 (words v))) sets_same

new_encodes : (s : List ℕ) (passes : old_answer s ≡ Ok tt) → s ≡ table_bytes (table_in s) → new_bytes (counts_in s) s ≡ table_bytes (emptied (table_in s))
new_encodes s passes is = let same = is_table s passes in rw same (table_encodes s passes (rw same at is))

-- ---- What the entry does with it

-- A success comes only so.
succeeded : (s buffer : List ℕ) (n : ℕ) → conversion_answer s buffer ≡ Ok n → (old_answer s ≡ Ok tt) × (length s ≤ length buffer)
unfolding made_of answer_in
succeeded s buffer n e = decided (old_answer s) (λ passes. (passes, roomy passes (rw passes at e))) (λ refusal other. let f : Err (why.Table refusal) ≡ Ok n = rw other at e in apart cc)
  where
    roomy : old_answer s ≡ Ok tt → answer_in (Err why.BufferTooShort) (made (Ok (changes (counts_in s) s)) (new_bytes (counts_in s) s)) (length buffer) ≡ Ok n →
        length s ≤ length buffer
    roomy passes f = go (length buffer <? length (new_bytes (counts_in s) s)) refl f
      where
        go : (b : Bool) → (length buffer <? length (new_bytes (counts_in s) s)) ≡ b →
            (if b then Err why.BufferTooShort else Ok (changes (counts_in s) s)) ≡ Ok n → length s ≤ length buffer
        go true is g = apart cc
        go false is g = omega (arith, ltb-false (length buffer) (length (new_bytes (counts_in s) s)) is, new_length s buffer passes)

module _ (s buffer : List ℕ) (passes : old_answer s ≡ Ok tt) (room : length s ≤ length buffer) where
  enough : (length buffer <? length (new_bytes (counts_in s) s)) ≡ false
  enough = le-ltb (length buffer) (length (new_bytes (counts_in s) s)) (rw (new_length s buffer passes) room)

  answers : conversion_answer s buffer ≡ Ok (changes (counts_in s) s)
  unfolding answer_in
  answers = rw (is_made s passes, enough) refl

  writes_new : new_table s buffer ≡ new_bytes (counts_in s) s
  unfolding buffer_in
  writes_new =
      rw (is_made s passes, enough)
      (take_at (new_bytes (counts_in s) s) (drop (length (new_bytes (counts_in s) s)) buffer) (length s) (new_length s buffer passes))

no_timers_emptied : (t : Table) → (emptied t).timers ≡ t.timers
unfolding emptied
no_timers_emptied t = refl

-- What an entry answers on bytes that pass, and hold this table.
module _ (new : List ℕ) (t : Table) (passes : table_answer new ≡ Ok tt) (read : table_in new ≡ t) {A : Type 0} (refused : Refusal → A) where
  under_read : (under : Table → A) → under_table refused under new ≡ under t
  under_read under = under_passes refused under new passes ∙ ap under read

  under_holds : t.timers ≡ 0 → (timers : A) (under : Table → A) → under_table refused (for_holds timers under) new ≡ under t
  under_holds none timers under = under_read (for_holds timers under) ∙ has_holds timers under t none

pub converts_faithfully : ConvertsFaithfully
unfolding check_in run_of react_of react_tight_of judge_of moves_of sums_after path_after tight_moves_of
converts_faithfully old buffer changed c =
    let done = succeeded old buffer changed c.succeeds in
    let passes = done.0 in
    let t = table_in old in
    let ok = well_formed_by true old passes in
    let s = new_table old buffer in
    let is = writes_new old buffer passes done.1 ∙ new_encodes old passes (passes_encodes true old c.bytes passes) in
    let new = encoding_passes false (emptied t) (emptied_well t ok) in
    let now : table_answer s ≡ Ok tt = ap table_answer is ∙ new.0 in
    let read : table_in s ≡ emptied t = ap table_in is ∙ new.1 in
    let few = ok.states.1 in
    let plain = ok.no_timers refl in
    let uses = plain_uses t ok plain in
    let none = empty_regions t ok plain in
    let still : (emptied t).timers ≡ 0 = no_timers_emptied t ∙ plain in
    let reacts : (P A : ℕ) → react_of s P A ≡ reaction_of t P A = λ P A. under_holds s (emptied t) now read _ still _ _ ∙ reactions_same t few uses none P A in
    let judged : (P A n sums path : ℕ) → judge_of s P A n sums path ≡ judge t P A n sums path =
    λ P A n sums path. under_holds s (emptied t) now read _ still _ _ ∙ judge_same t few uses none P A n sums path
    in (
      (is, now),
      λ F j. under_read s (emptied t) now read _ _ ∙ answers_same t few uses none F j,
      λ e. under_read s (emptied t) now read _ _ ∙ ap made_of_run (run_same t few uses none form.stimulus e),
      reacts,
      λ P A. rw (reacts P A, read, tight_same t few uses none P A) refl,
      λ P A n sums path. (
        rw (judged P A n (length sums) (length path), read, over_same t few uses none P A n) refl,
        rw (judged P A n (length sums) (length path), read, rows_over_same t few uses none P A n sums) refl,
        rw (judged P A n (length sums) (length path), read, path_over_same t few uses none P A n path) refl,
      ),
      λ P A n. rw (judged P A n room_for_sums room_for_path, read, tight_over_same t few uses none P A n) refl,
    )

-- ---- A table that passes

-- Where no set is idle, none changes.
kept_set : (hold set : ℕ) → (hold ≡ 0 → set ≡ 0) → (new_set hold set ≡ set) × (change hold set ≡ 0)
kept_set hold set idle = go (hold =? 0) refl
  where
    go : (b : Bool) → (hold =? 0) ≡ b → ((if b then 0 else set) ≡ set) × (◌≡◌ {A = ℕ} (if b && not (set =? 0) then 1 else 0) 0)
    go true e = rw (idle (eqb-true hold 0 e)) (refl, refl)
    go false e = (refl, refl)

emptied_same : (t : Table) → WellFormed t → t.timers ≡ 0 → emptied t ≡ t
unfolding emptied
emptied_same t ok none =
    let new : ℕ → ℕ = λ q. new_set (hold_of t q) (delayed_of t q) in
    let few = ok.states.1 in
    let each : (q : ℕ) → q < t.states → get_or (filled_to new t.states (zeros 32)) q 0 ≡ delayed_of t q =
    λ q h. get_or-filled new t.states 32 few q h ∙ (kept_set (hold_of t q) (delayed_of t q) (ok.not_idle refl q h)).0
    in
    rw (same_array t.states 32 _ t.delayed (filled_uses new t.states 32 few) (plain_uses t ok none) each) refl

old_well : (t : Table) → WellFormed t → t.timers ≡ 0 → WellFormedBy true t
old_well t ok none = with_sets_lem t ok t.delayed ok.delayed (λ new. absurd (never (sym new))) (λ old. none) ok.delayed_uses

module _ (s : List ℕ) (t : Table) (ok : WellFormed t) (plain : t.timers ≡ 0) (is : s ≡ table_bytes t) where
  read_it : (old_answer s ≡ Ok tt) × (table_in s ≡ t)
  read_it = rw is (encoding_passes true t (old_well t ok plain))

  no_changes : changes (counts_in s) s ≡ 0
  unfolding changes table_with
  no_changes =
      let c = counts_in s in
      let ok' : WellFormed (table_with c s 0) = rw (← is_table s read_it.0) (rw read_it.1 ok) in
      let few = ok'.states.1 in
      total_none _ c.states (λ q h. (kept_set _ _ (λ none.
      sym (get_or-filled (word_entry s (delayed_field c)) c.states 32 few q h)
      ∙ ok'.not_idle refl q h (get_or-filled (word_entry s (hold_field c)) c.states 32 few q h ∙ none))).1)

  comes_back : (buffer : List ℕ) → length s ≤ length buffer → (conversion_answer s buffer ≡ Ok 0) × (new_table s buffer ≡ s)
  comes_back buffer room =
      let passes = read_it.0 in
      let same = read_it.1 in
      let encoded : s ≡ table_bytes (table_in s) = is ∙ ap table_bytes (sym same) in
      let emptied_is : emptied (table_in s) ≡ table_in s = rw same (emptied_same t ok plain) in (
        answers s buffer passes room ∙ ap Ok no_changes,
        writes_new s buffer passes room ∙ new_encodes s passes encoded ∙ ap table_bytes emptied_is ∙ sym encoded,
      )

pub passing_comes_back : PassingComesBack
passing_comes_back s buffer bytes passes plain = comes_back s (table_in s) (well_formed s passes) plain (passes_encodes false s bytes passes) buffer

pub converts_once : ConvertsOnce
converts_once old buffer again changed c room =
    let done = succeeded old buffer changed c.succeeds in
    let passes = done.0 in
    let new = (converts_faithfully old buffer changed c).0 in
    let long : length (new_table old buffer) ≡ length old = ap length (writes_new old buffer passes done.1) ∙ new_length old buffer passes in
    let ok = well_formed_by true old passes in
    comes_back (new_table old buffer) (emptied (table_in old)) (emptied_well (table_in old) ok) (no_timers_emptied (table_in old) ∙ ok.no_timers refl) new.0 again
    (omega (arith, long))
