-- One field, outcome by outcome, and the loop that checks a field's entries in order, whatever they are.
use mathlib.Core.Path.{◌≡◌, refl, sym, ap, ◌∙◌}
use mathlib.Core.List.{List}
use mathlib.Core.Bool.{Bool, true, false, not, ◌&&◌, ◌||◌}
use mathlib.Core.Logic.{◌⊎◌, inl, inr}
use Prim.Native.Nat.{ℕ, zero, suc, ◌+◌, ◌-◌, ◌*◌, ◌/◌, ◌^◌, ◌<◌, ◌≤◌}
use native.Mathlib.Nat.{not-suc-le-zero}
use native.Mathlib.Omega.{arith}
use borrow.Author.Tests.{eq-eqb, eqb-true, le-leb, leb-true, le-ltb, lt-ltb, ltb-true, ltb-false}
use lib.ListN.{length}
use Rattle.std.specs.Prelude.{Option, Some, None, Ok, Err}
use Rattle.std.specs.Prelude.{if◌then◌else◌}
use Rattle.wire.specs.Choice.{◌<?◌, ◌≤?◌, ◌=?◌}
use Rattle.wire.specs.Field.{whole, byte_at, number16_at, number32_at, field_at}
use Rattle.wire.specs.declared.Field.{Field}
use Rattle.wire.proofs.Choice.{never, both}
use Rattle.wire.specs.Standing.{stands_at}
use Rattle.wire.proofs.Laws.{WholeAt, whole_at, whole_is}
use Rattle.wire.proofs.Standing.{stands_at_lem, stands_true}
use Rattle.table.specs.declared.Refusal.{Refusal}
use Rattle.table.specs.declared.Refusal.TheVariants.{RunsOut, WrongTagOrLength, UnknownInputDelayed, IdleSet}
use Rattle.table.specs.declared.Refusal.TheVariants.{UnknownMember, TimerOutOfRange, BytesAfter}
use Rattle.table.specs.Answer.{TableAnswer, passes?, ◌or_else◌, ◌and_then◌}
use Rattle.table.specs.Entries.{entries_from}
use Rattle.table.specs.Check.{expected_field, is_between, field_answer, row_answer, below, set_answer, timer_answer, timer_entry, hold_field, holds_answer, timers_answer, tagged, timing_answer}
use Rattle.table.specs.Check.{bytes_answer, words_answer, sets_answer, output_row, entries_answer}
use Rattle.table.specs.Inner.{PlacesOf, byte_row, bad_word, word_row}
use Rattle.table.specs.declared.Counts.{Counts}
use Rattle.table.specs.declared.Places.{Places}
use Rattle.table.specs.Table.{longest_hold, most_timers}
use Rattle.table.proofs.Answers.{let_pass, refusal_stands, holds, fails, told}
use Rattle.table.proofs.Answers.{refusal_stops, stops, goes_on, past, first_passes, rest_passes}

module _ (s : List ℕ) (at tag size : ℕ) (f : Option Field) (is : f ≡ field_at s at) where
  pub runs_out : f ≡ None → Err (RunsOut at) ≡ field_answer s at tag size
  unfolding field_answer expected_field
  runs_out none = rw (← is, none) refl

  pub another_field : {found : Field} → stands_at size tag tag s at ≡ false → f ≡ Some found → Err (WrongTagOrLength at) ≡ field_answer s at tag size
  unfolding field_answer expected_field ◌or_else◌
  another_field {found = found} e h = rw (← is, h) (decided (sym is ∙ h) _ refl)
    where
      decided : field_at s at ≡ Some found → (b : Bool) → ((found.tag =? tag) && (found.size =? size)) ≡ b →
          Err (WrongTagOrLength at) ≡ (b or_else WrongTagOrLength at)
      decided there false same = refl
      decided there true same =
          let b = both (found.tag =? tag) (found.size =? size) same in
          let t = eqb-true found.tag tag b.0 in
          let w : WholeAt s at found.tag size = whole_at s at found.tag size (rw (← eqb-true found.size size b.1) there) in
          never (sym e ∙ stands_true size tag tag s at found.tag w (omega arith) (omega arith))

pub stands_as_expected : (s : List ℕ) (at tag size : ℕ) → stands_at size tag tag s at ≡ true → Ok tt ≡ field_answer s at tag size
unfolding field_answer expected_field ◌or_else◌
stands_as_expected s at tag size e =
    let f = stands_at_lem size tag tag s at e in
    let is : byte_at s at ≡ tag = omega (arith, f.lowest, f.highest) in
    let whole : WholeAt s at tag size = rw is at f.whole in
    rw (← whole_is s at tag size whole) (sym (simp (eq-eqb tag tag refl, eq-eqb size size refl)))

pub field_stands : (s : List ℕ) (at tag size : ℕ) → field_answer s at tag size ≡ Ok tt → WholeAt s at tag size
unfolding field_answer expected_field
field_stands s at tag size e = go (field_at s at) refl e
  where
    go : (f : Option Field) → field_at s at ≡ f → expected_field f at tag size ≡ Ok tt → WholeAt s at tag size
    go None is p = refusal_stands (Err (RunsOut at)) refl p
    go (Some found) is p =
        let b = both (found.tag =? tag) (found.size =? size) (told _ (WrongTagOrLength at) p) in
        let t : found.tag ≡ tag = eqb-true found.tag tag b.0 in
        let n : found.size ≡ size = eqb-true found.size size b.1 in
        whole_at s at tag size (rw (← t, ← n) is)

-- ---- Entries in order

pub each_pass : (entry : ℕ → TableAnswer) (n i : ℕ) → ((k : ℕ) → k < i + n → entry k ≡ Ok tt) → Ok tt ≡ entries_from entry n i
unfolding entries_from
each_pass entry zero i h = refl
each_pass entry (suc n) i h = goes_on (h i (omega arith)) (each_pass entry n (i + 1) (λ k l. h k (omega arith)))

-- The field stands, and the answer from entry k on is the whole row's.
pub record Checking (s : List ℕ) (at tag size : ℕ) (entry : ℕ → TableAnswer) (n k : ℕ) : Type 0 where
  pub room : at + 3 + size ≤ length s
  pub here : entries_from entry (n - k) k ≡ row_answer s at tag size entry n

module _ (s : List ℕ) (at tag size : ℕ) (entry : ℕ → TableAnswer) (n : ℕ) (a : TableAnswer) (is : a ≡ field_answer s at tag size) where
  pub no_field : {refusal : Refusal} → a ≡ Err refusal → a ≡ row_answer s at tag size entry n
  unfolding row_answer
  no_field h = stops _ is h

  pub none_checked : a ≡ Ok tt → Checking s at tag size entry n 0
  unfolding row_answer
  none_checked h =
      let e : n - 0 ≡ n = omega arith in
      record { room = (field_stands s at tag size (let_pass is h)).fits; here = rw e (past is h refl) }

  pub all_good : a ≡ Ok tt → ((k : ℕ) → k < n → entry k ≡ Ok tt) → Ok tt ≡ row_answer s at tag size entry n
  unfolding row_answer
  all_good h each = past is h (each_pass entry n 0 (λ k l. each k (omega arith)))

module _ {s : List ℕ} {at tag size : ℕ} {entry : ℕ → TableAnswer} {n k : ℕ} (inv : Checking s at tag size entry n k) where
  pub all_checked : n ≤ k → Ok tt ≡ row_answer s at tag size entry n
  unfolding entries_from
  all_checked h = let e : n - k ≡ 0 = omega arith in rw e at inv.here

  module _ (more : k < n) where
    from_here : entry k and_then entries_from entry (n - (k + 1)) (k + 1) ≡ row_answer s at tag size entry n
    unfolding entries_from
    from_here = let e : n - k ≡ suc (n - (k + 1)) = omega arith in rw e at inv.here

    pub bad_entry : (a : TableAnswer) → a ≡ entry k → passes? a ≡ false → a ≡ row_answer s at tag size entry n
    bad_entry a is r = refusal_stops _ is r ∙ from_here

    pub good_entry : entry k ≡ Ok tt → Checking s at tag size entry n (k + 1)
    good_entry e = record { room = inv.room; here = goes_on e refl ∙ from_here }

    -- The same where a function has checked the entry.
    pub refused_entry : (a : TableAnswer) → a ≡ entry k → {refusal : Refusal} → a ≡ Err refusal → a ≡ row_answer s at tag size entry n
    refused_entry a is h = bad_entry a is (ap passes? h)

    pub passed_entry : (a : TableAnswer) → a ≡ entry k → a ≡ Ok tt → Checking s at tag size entry n (k + 1)
    passed_entry a is h = good_entry (let_pass is h)

-- ---- A row that passes

pub each_passes : (entry : ℕ → TableAnswer) (n i : ℕ) → entries_from entry n i ≡ Ok tt → (k : ℕ) → k < n → entry (i + k) ≡ Ok tt
unfolding entries_from
each_passes entry zero i e k h = absurd (not-suc-le-zero h)
each_passes entry (suc n) i e zero h = let z : i + 0 ≡ i = omega arith in rw z (first_passes (entry i) _ e)
each_passes entry (suc n) i e (suc k) h =
    let z : i + suc k ≡ (i + 1) + k = omega arith in
    rw z (each_passes entry n (i + 1) (rest_passes (entry i) _ e) k (omega arith))

module _ (s : List ℕ) (at tag size : ℕ) (entry : ℕ → TableAnswer) (n : ℕ) (e : row_answer s at tag size entry n ≡ Ok tt) where
  pub row_stands : WholeAt s at tag size
  unfolding row_answer
  row_stands = field_stands s at tag size (first_passes _ _ e)

  pub row_each : (k : ℕ) → k < n → entry k ≡ Ok tt
  unfolding row_answer
  row_each k h = let z : 0 + k ≡ k = omega arith in rw z at (each_passes entry n 0 (rest_passes _ _ e) k h)

pub row_fits : (s : List ℕ) (at tag size : ℕ) (entry : ℕ → TableAnswer) (n : ℕ) {a : TableAnswer} → a ≡ row_answer s at tag size entry n → a ≡ Ok tt →
    at + 3 + size ≤ length s
row_fits s at tag size entry n is h = (row_stands s at tag size entry n (let_pass is h)).fits

-- ---- Entries that a limit decides

module _ (limit : ℕ) (entry : ℕ → ℕ) (called : ℕ → Refusal) (k : ℕ) where
  pub is_called : limit ≤ entry k → Err (called k) ≡ below limit entry called k
  unfolding below
  is_called h = fails (le-ltb (entry k) limit h)

  pub is_below : entry k < limit → below limit entry called k ≡ Ok tt
  unfolding below
  is_below h = holds (called k) (lt-ltb (entry k) limit h)

  pub limited : below limit entry called k ≡ Ok tt → entry k < limit
  unfolding below
  limited e = ltb-true (entry k) limit (told _ (called k) e)

-- ---- Delayed sets

module _ (old : Bool) (hold set limit place : ℕ) where
  pub unknown_input : limit ≤ set → Err (UnknownInputDelayed place) ≡ set_answer old hold set limit place
  unfolding set_answer
  unknown_input h = refusal_stops _ (fails (le-ltb set limit h)) refl

  pub known_inputs : set < limit → (r : TableAnswer) → r ≡ (old || (0 <? hold) || (set =? 0) or_else IdleSet place) → r ≡ set_answer old hold set limit place
  unfolding set_answer
  known_inputs h r e = goes_on (holds _ (lt-ltb set limit h)) e

  pub set_known : set_answer old hold set limit place ≡ Ok tt → set < limit
  unfolding set_answer
  set_known e = ltb-true set limit (told _ (UnknownInputDelayed place) (first_passes _ _ e))

pub set_not_idle : (hold set limit place : ℕ) → set_answer false hold set limit place ≡ Ok tt → hold ≡ 0 → set ≡ 0
unfolding set_answer
set_not_idle hold set limit place e none = eqb-true set 0 (rw none at (told _ (IdleSet place) (rest_passes _ _ e)))

pub set_passes : (old : Bool) (hold set limit place : ℕ) → set < limit → (old ≡ false → hold ≡ 0 → set ≡ 0) → set_answer old hold set limit place ≡ Ok tt
set_passes old hold set limit place low none = sym (known_inputs old hold set limit place low (Ok tt) (sym (holds _ (go old hold none))))
  where
    go : (o : Bool) (h : ℕ) → (o ≡ false → h ≡ 0 → set ≡ 0) → (o || (0 <? h) || (set =? 0)) ≡ true
    go true h idle = refl
    go false zero idle = eq-eqb set 0 (idle refl refl)
    go false (suc h) idle = rw (lt-ltb 0 (suc h) (omega arith))

-- ---- Timers

pub in_range : (low high x : ℕ) → is_between low high x ≡ true → (low ≤ x) × (x ≤ high)
in_range low high x e =
    let b = both (low ≤? x) (x ≤? high) e in
    (leb-true low x b.0, leb-true x high b.1)

pub between : (low high x : ℕ) → (low ≤ x) × (x ≤ high) → is_between low high x ≡ true
between low high x h = rw (le-leb low x h.0, le-leb x high h.1)

-- The k-th timer, as the code finds it.
pub timer_there : (s : List ℕ) (at limit k : ℕ) →
    timer_answer (number32_at s (at + 3 + 8 * k)) (number32_at s (at + 3 + 8 * k + 4)) limit (at + 3 + 8 * k) ≡ timer_entry s at limit k
timer_there s at limit k =
    let length : at + 3 + 4 * (2 * k) ≡ at + 3 + 8 * k = omega arith in
    let region : at + 3 + 4 * (2 * k + 1) ≡ at + 3 + 8 * k + 4 = omega arith in
    rw (length, region) refl

module _ (length region limit place : ℕ) where
  pub timer_known : timer_answer length region limit place ≡ Ok tt → (1 ≤ length) × (length ≤ longest_hold) × (region < limit)
  unfolding timer_answer
  timer_known e =
      let l = in_range 1 longest_hold length (told _ (TimerOutOfRange place) (first_passes _ _ e)) in
      (l.0, l.1, ltb-true region limit (told _ (UnknownMember (place + 4)) (rest_passes _ _ e)))

  pub timer_passes : (1 ≤ length) × (length ≤ longest_hold) → region < limit → timer_answer length region limit place ≡ Ok tt
  unfolding timer_answer
  timer_passes l r = sym (goes_on (holds _ (between 1 longest_hold length l)) (sym (holds (UnknownMember (place + 4)) (lt-ltb region limit r))))

-- ---- The kind of a table

pub whole_tagged : (s : List ℕ) (at tag size : ℕ) → WholeAt s at tag size → tagged (field_at s at) ≡ (tag =? 0x07)
unfolding tagged
whole_tagged s at tag size whole = rw (← whole_is s at tag size whole) refl

-- A field that tells its kind has its first three bytes.
pub tagged_there : (s : List ℕ) (at : ℕ) → tagged (field_at s at) ≡ true → at + 3 ≤ length s
unfolding tagged field_at
tagged_there s at e = go (length s - at <? 3) refl e
  where
    go : (b : Bool) → (length s - at <? 3) ≡ b →
        tagged (if b then None else if length s - at - 3 <? number16_at s (at + 1) then None else Some (whole (byte_at s at) (number16_at s (at + 1)))) ≡ true →
        at + 3 ≤ length s
    go true is t = absurd (never t)
    go false is t = let l = ltb-false (length s - at) 3 is in omega arith

tag_there : (s : List ℕ) (at : ℕ) → tagged (field_at s at) ≡ true → byte_at s at ≡ 0x07
unfolding tagged
tag_there s at e = go (field_at s at) refl e
  where
    go : (f : Option Field) → field_at s at ≡ f → tagged f ≡ true → byte_at s at ≡ 0x07
    go None is t = never t
    go (Some found) is t = (whole_at s at found.tag found.size is).tag_is ∙ eqb-true found.tag 0x07 t

pub no_tag : (s : List ℕ) (at : ℕ) → (length s ≤ at) ⊎ (byte_at s at ≡ 0x07 → ⊥) → false ≡ tagged (field_at s at)
no_tag s at h = go (tagged (field_at s at)) refl h
  where
    go : (b : Bool) → tagged (field_at s at) ≡ b → (length s ≤ at) ⊎ (byte_at s at ≡ 0x07 → ⊥) → false ≡ tagged (field_at s at)
    go false e k = sym e
    go true e (inl short) = absurd (let l = tagged_there s at e in let z : ⊥ = omega arith in z)
    go true e (inr other) = absurd (other (tag_there s at e))

pub untagged : (s : List ℕ) (at : ℕ) (f : Option Field) → f ≡ field_at s at → f ≡ None → false ≡ tagged (field_at s at)
unfolding tagged
untagged s at f is none = rw (← is, none) refl

-- A number of timers that passed.
pub number_known : (n at : ℕ) → (is_between 1 most_timers n or_else WrongTagOrLength at) ≡ Ok tt → (1 ≤ n) × (n ≤ most_timers)
number_known n at e = in_range 1 most_timers n (told _ (WrongTagOrLength at) e)

-- Which fields are looked at, by the kind that the code has found.
module _ (old : Bool) (c : Counts) (s : List ℕ) (at : ℕ) (there : at ≡ hold_field c) (kind : Bool) (is : kind ≡ tagged (field_at s at)) where
  pub as_timers : (not old && kind) ≡ true → (n : ℕ) → n ≡ number16_at s (at + 1) / 8 → (r : TableAnswer) → r ≡ timers_answer c n s → r ≡ timing_answer old c s
  unfolding timing_answer
  as_timers e n claimed r told' = let f = rw (is, there) at e in rw (f, told', claimed, there) refl

  pub as_holds : (not old && kind) ≡ false → (r : TableAnswer) → r ≡ holds_answer old c s → r ≡ timing_answer old c s
  unfolding timing_answer
  as_holds e r told' = let f = rw (is, there) at e in rw (f, told') refl

-- Two fields at the places that the code has found, the first of which passed: 05 and 06, and 03 and 04.
module _ (old : Bool) (c : Counts) (p : Places) (s : List ℕ) (places : PlacesOf c p) (a b : TableAnswer) (passed : a ≡ Ok tt) where
  module _ (limit : ℕ) (is : limit ≡ 2 ^ c.inputs) (holds : a ≡ words_answer s (word_row p.hold 0x05 c.states (longest_hold + 1)))
      (sets : b ≡ sets_answer old s p.hold p.delayed c.states limit) where
    pub no_sets : {refusal : Refusal} → b ≡ Err refusal → b ≡ holds_answer old c s
    unfolding holds_answer bad_word
    no_sets h = past (rw places.hold at holds) passed (stops _ (rw (places.hold, places.delayed, is) at sets) h)

    pub table_ends : b ≡ Ok tt → (r : TableAnswer) → r ≡ (length s ≤? p.end or_else BytesAfter p.end) → r ≡ holds_answer old c s
    unfolding holds_answer bad_word
    table_ends h r e = past (rw places.hold at holds) passed (past (rw (places.hold, places.delayed, is) at sets) h (rw places.end at e))

  module _ (outputs : a ≡ bytes_answer s (output_row c)) (next : b ≡ bytes_answer s (byte_row p.next 0x04 p.pairs c.states)) where
    pub no_next : {refusal : Refusal} → b ≡ Err refusal → b ≡ entries_answer old c s
    unfolding entries_answer
    no_next h = past outputs passed (stops _ (rw (places.next, places.pairs) at next) h)

    pub timing_left : b ≡ Ok tt → (r : TableAnswer) → r ≡ timing_answer old c s → r ≡ entries_answer old c s
    unfolding entries_answer
    timing_left h r e = past outputs passed (past (rw (places.next, places.pairs) at next) h e)
