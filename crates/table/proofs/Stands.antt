-- What is known of bytes that pass, field by field.
use mathlib.Core.Path.{◌≡◌, refl, ◌∙◌}
use mathlib.Core.List.{List}
use mathlib.Core.Logic.{◌⊎◌, inl, inr, ⊎_elim}
use mathlib.Core.Bool.{Bool, true, false}
use Prim.Native.Nat.{ℕ, ◌+◌, ◌*◌, ◌^◌, ◌<◌, ◌≤◌}
use native.Mathlib.Omega.{arith}
use native.Mathlib.Nat.{mul-le-mul}
use borrow.Author.Tests.{leb-true, ltb-true, ne_eqb}
use lib.ListN.{length}
use Rattle.std.specs.Prelude.{Ok}
use Rattle.std.specs.Prelude.{if◌then◌else◌}
use Rattle.wire.specs.Choice.{◌=?◌}
use Rattle.wire.proofs.Choice.{both}
use Rattle.wire.proofs.Laws.{WholeAt}
use Rattle.table.specs.declared.Refusal.TheVariants.{WrongTagOrLength, CountOutOfRange, BoundOutOfRange, BytesAfter}
use Rattle.table.specs.declared.Counts.{Counts}
use Rattle.table.specs.Table.{largest_bound, most_timers}
use Rattle.table.specs.Check.{bytes_answer, words_answer, sets_answer, counts_in, bound_in, counts_in_range, counts_answer, bound_answer}
use Rattle.table.specs.Check.{hold_field, delayed_field, table_end, output_row, next_row, hold_row, timer_set_field, timer_set_row, timers_row, holds_answer, timer_sets_answer, timers_answer}
use Rattle.table.specs.Check.{timed, claimed_timers, timing_answer, entries_answer, answer_by, table_answer, timers_in}
use Rattle.table.proofs.Answers.{told, first_passes, rest_passes}
use Rattle.table.proofs.Rows.{field_stands, row_stands, in_range, whole_tagged}

pub record CountsFit (c : Counts) : Type 0 where
  pub states : (1 ≤ c.states) × (c.states ≤ 32)
  pub inputs : (1 ≤ c.inputs) × (c.inputs ≤ 32)
  pub outputs : (1 ≤ c.outputs) × (c.outputs ≤ 32)
  pub initial : c.initial < c.states

counts_fit : (c : Counts) → counts_in_range c ≡ true → CountsFit c
counts_fit c e =
    let o = both _ _ e in
    let i = both _ _ o.0 in
    let q = both _ _ i.0 in
    record {
      states = in_range 1 32 c.states q.0;
      inputs = in_range 1 32 c.inputs q.1;
      outputs = in_range 1 32 c.outputs i.1;
      initial = ltb-true c.initial c.states o.1;
    }

pub counts_stand : (s : List ℕ) → counts_answer s ≡ Ok tt → WholeAt s 0 0x01 4 × CountsFit (counts_in s)
unfolding counts_answer
counts_stand s e =
    (field_stands s 0 0x01 4 (first_passes _ _ e), counts_fit (counts_in s) (told _ (CountOutOfRange 0) (rest_passes _ _ e)))

pub bound_stands : (s : List ℕ) → bound_answer s ≡ Ok tt → WholeAt s 7 0x02 4 × (1 ≤ bound_in s) × (bound_in s ≤ largest_bound)
unfolding bound_answer
bound_stands s e =
    let b = in_range 1 largest_bound (bound_in s) (told _ (BoundOutOfRange 7) (rest_passes _ _ e)) in
    (field_stands s 7 0x02 4 (first_passes _ _ e), b.0, b.1)

-- What the fields after them need.
pub counts_there : (s : List ℕ) → counts_answer s ≡ Ok tt → 7 ≤ length s
counts_there s e = omega (arith, (counts_stand s e).0.fits)

pub counts_few : (s : List ℕ) → counts_answer s ≡ Ok tt → ((counts_in s).states ≤ 32) × ((counts_in s).inputs ≤ 32)
counts_few s e = let fit = (counts_stand s e).1 in (fit.states.1, fit.inputs.1)

pub bound_there : (s : List ℕ) → bound_answer s ≡ Ok tt → 14 ≤ length s
bound_there s e = omega (arith, (bound_stands s e).0.fits)

-- Fields 01 to 04.
pub record HeadStands (s : List ℕ) (c : Counts) : Type 0 where
  pub counts_field : WholeAt s 0 0x01 4
  pub counts : CountsFit c
  pub bound_field : WholeAt s 7 0x02 4
  pub bound : (1 ≤ bound_in s) × (bound_in s ≤ largest_bound)
  pub outputs : bytes_answer s (output_row c) ≡ Ok tt
  pub next : bytes_answer s (next_row c) ≡ Ok tt

-- Fields 05 and 06, and nothing after them.
pub record HoldsStand (old : Bool) (s : List ℕ) (c : Counts) : Type 0 where
  pub none : timers_in c s ≡ 0
  pub holds : words_answer s (hold_row c) ≡ Ok tt
  pub delayed : sets_answer old s (hold_field c) (delayed_field c) c.states (2 ^ c.inputs) ≡ Ok tt
  pub ends : length s ≡ table_end c

-- Fields 07 and 08 with n timers, and nothing after them.
pub record TimersStand (s : List ℕ) (c : Counts) (n : ℕ) : Type 0 where
  pub some : timers_in c s ≡ n
  pub few : (1 ≤ n) × (n ≤ most_timers)
  pub timers : timers_row s (hold_field c) n (2 ^ c.states) ≡ Ok tt
  pub sets : words_answer s (timer_set_row c (timer_set_field c n) n) ≡ Ok tt
  pub ends : length s ≡ timer_set_field c n + 3 + 4 * (c.states * n)

module _ (s : List ℕ) (c : Counts) where
  pub holds_stand : (old : Bool) → holds_answer old c s ≡ Ok tt → HoldsStand old s c
  unfolding holds_answer timers_in
  holds_stand old e =
      let holds = first_passes _ _ e in
      let e₂ = rest_passes _ _ e in
      let delayed = first_passes _ _ e₂ in
      let long : length s ≤ table_end c = leb-true (length s) (table_end c) (told _ (BytesAfter (table_end c)) (rest_passes _ _ e₂)) in
      let kind = whole_tagged s (hold_field c) 0x05 (4 * c.states) (row_stands _ _ _ _ _ _ holds) in
      record { none = rw kind refl; holds = holds; delayed = delayed; ends = omega (arith, (row_stands _ _ _ _ _ _ delayed).fits) }

  timers_stand : (n : ℕ) → timers_in c s ≡ n → timers_answer c n s ≡ Ok tt → TimersStand s c n
  unfolding timers_answer timer_sets_answer
  timers_stand n is e =
      let e₂ = rest_passes _ _ e in
      let e₃ = rest_passes _ _ e₂ in
      let end = timer_set_field c n + 3 + 4 * (c.states * n) in
      let sets = first_passes _ _ e₃ in
      let long : length s ≤ end = leb-true (length s) end (told _ (BytesAfter end) (rest_passes _ _ e₃)) in
      record {
        some = is;
        few = in_range 1 most_timers n (told _ (WrongTagOrLength (hold_field c)) (first_passes _ _ e));
        timers = first_passes _ _ e₂;
        sets = sets;
        ends = omega (arith, (row_stands _ _ _ _ _ _ sets).fits);
      }

  claimed_in : timed c s ≡ true → timers_in c s ≡ claimed_timers c s
  unfolding timers_in
  claimed_in is = rw is refl

  pub timing_stands : (old : Bool) → timing_answer old c s ≡ Ok tt → HoldsStand old s c ⊎ ((old ≡ false) × TimersStand s c (claimed_timers c s))
  unfolding timing_answer
  timing_stands true e = inl (holds_stand true e)
  timing_stands false e = go (timed c s) refl e
    where
      go : (b : Bool) → timed c s ≡ b → (if b then timers_answer c (claimed_timers c s) s else holds_answer false c s) ≡ Ok tt →
          HoldsStand false s c ⊎ ((false ≡ false) × TimersStand s c (claimed_timers c s))
      go true is f = inr (refl, timers_stand (claimed_timers c s) (claimed_in is) f)
      go false is f = inl (holds_stand false f)

pub table_stands : (old : Bool) (s : List ℕ) → answer_by old s ≡ Ok tt → HeadStands s (counts_in s) × (timing_answer old (counts_in s) s ≡ Ok tt)
unfolding answer_by entries_answer
table_stands old s e =
    let e₂ = rest_passes _ _ e in
    let e₃ = rest_passes _ _ e₂ in
    let e₄ = rest_passes _ _ e₃ in
    let counts = counts_stand s (first_passes _ _ e) in
    let bound = bound_stands s (first_passes _ _ e₂) in (
      record {
        counts_field = counts.0;
        counts = counts.1;
        bound_field = bound.0;
        bound = (bound.1, bound.2);
        outputs = first_passes _ _ e₃;
        next = first_passes _ _ e₄;
      },
      rest_passes _ _ e₄,
    )

-- By the old rules there are holds.
pub old_stands : (s : List ℕ) → answer_by true s ≡ Ok tt → HeadStands s (counts_in s) × HoldsStand true s (counts_in s)
unfolding timing_answer
old_stands s e = let stands = table_stands true s e in (stands.0, holds_stand s (counts_in s) true stands.1)

-- ---- Room for every read

-- Of a table with n timers, of whose states so many have a hold.
pub record Readable (s : List ℕ) (c : Counts) (n holders : ℕ) : Type 0 where
  pub counts : CountsFit c
  pub fifth : hold_field c + 3 ≤ length s
  pub few : n ≤ most_timers
  pub rows : c.states * n ≤ 128
  pub holding : holders ≤ 32
  pub hold : 0 < holders → hold_field c + 3 + 4 * holders ≤ length s
  pub delayed : 0 < holders → delayed_field c + 3 + 4 * holders ≤ length s
  pub timing : 0 < 2 * n → hold_field c + 3 + 4 * (2 * n) ≤ length s
  pub sets : 0 < c.states * n → timer_set_field c n + 3 + 4 * (c.states * n) ≤ length s

module _ (s : List ℕ) (c : Counts) (fit : CountsFit c) where
  read_holds : HoldsStand false s c → Readable s c 0 c.states
  read_holds stands = record {
    counts = fit;
    fifth = omega (arith, stands.ends);
    few = omega arith;
    rows = omega arith;
    holding = fit.states.1;
    hold = λ some. omega (arith, stands.ends);
    delayed = λ some. omega (arith, stands.ends);
    timing = λ some. absurd (omega arith);
    sets = λ some. absurd (omega arith);
  }

  read_timers : (n : ℕ) → TimersStand s c n → Readable s c n 0
  read_timers n stands =
      let rows : c.states * n ≤ 128 = mul-le-mul fit.states.1 stands.few.1 in
      record {
        counts = fit;
        fifth = omega (arith, stands.ends);
        few = stands.few.1;
        rows = rows;
        holding = omega arith;
        hold = λ some. absurd (omega arith);
        delayed = λ some. absurd (omega arith);
        timing = λ some. omega (arith, stands.ends);
        sets = λ some. omega (arith, stands.ends);
      }

pub readable : (s : List ℕ) → table_answer s ≡ Ok tt → (n : ℕ) → n ≡ timers_in (counts_in s) s →
    Readable s (counts_in s) n (if n =? 0 then (counts_in s).states else 0)
readable s e n is =
    let stands = table_stands false s e in
    let fit = stands.0.counts in
    ⊎_elim
    (λ holds. rw (is ∙ holds.none) (read_holds s (counts_in s) fit holds))
    (λ found.
    let timers = found.1 in
    let some = timers.few.0 in
    rw (is ∙ timers.some, ne_eqb (claimed_timers (counts_in s) s) 0 (λ none. omega arith)) (read_timers s (counts_in s) fit _ timers))
    (timing_stands s (counts_in s) false stands.1)
