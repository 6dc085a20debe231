-- A table that passes is well formed.
use mathlib.Core.Path.{◌≡◌, refl, sym, ◌∙◌}
use mathlib.Core.List.{List}
use mathlib.Core.Logic.{⊎_elim}
use mathlib.Core.Bool.{Bool, true, false}
use Prim.Native.Nat.{ℕ, ◌+◌, ◌*◌, ◌^◌, ◌<◌, ◌≤◌}
use native.Mathlib.Nat.{mul-le-mul}
use native.Mathlib.Omega.{arith}
use lib.Arith.{digits_lt}
use lib.ListN.{get_or}
use Rattle.std.specs.Prelude.{Ok}
use Rattle.sets.proofs.Members.{member_below}
use Rattle.table.specs.Entries.{filled_to, zeros}
use Rattle.table.specs.Table.{longest_hold, most_timers, member, hold_of, delayed_of, delays, length_of, in_region, timer_delays, timed_with, Uses, WellFormedBy, WellFormed}
use Rattle.table.specs.Check.{below, row_answer, byte_entry, bytes_answer, word_entry, words_answer, set_entry, sets_answer, Row}
use Rattle.table.specs.Check.{counts_in, output_field, output_row, next_field, next_row, hold_field, hold_row, delayed_field, timer_set_field, timer_set_row, timers_row, timing_answer, answer_by, table_answer}
use Rattle.table.specs.Check.{timers_in, table_with, table_of, table_in}
use Rattle.table.specs.declared.Counts.{Counts}
use Rattle.table.specs.declared.Table.{Table}
use Rattle.std.specs.Prelude.{if◌then◌else◌}
use Rattle.wire.specs.Choice.{◌=?◌}
use Rattle.wire.proofs.Choice.{never}
use borrow.Author.Tests.{ne_eqb}
use Rattle.table.proofs.Rows.{row_each, limited, set_known, set_not_idle, timer_known}
use Rattle.table.proofs.Values.{get_or-filled, filled_uses}
use Rattle.table.proofs.Stands.{CountsFit, HeadStands, HoldsStand, TimersStand, timing_stands, table_stands}

-- Entries that a limit let pass are below it in the array too.
module _ (s : List ℕ) (row : Row) (places : ℕ) (fits : row.entries ≤ places) where
  abbrev Held : (ℕ → ℕ) → Type 0
  Held entry = (k : ℕ) → k < row.entries → get_or (filled_to entry row.entries (zeros places)) k 0 < row.limit

  held_below : (size : ℕ) (entry place : ℕ → ℕ) →
      row_answer s row.at row.tag size (below row.limit entry (λ k. row.otherwise (place k))) row.entries ≡ Ok tt → Held entry
  held_below size entry place e k h =
      rw (get_or-filled entry row.entries places fits k h) (limited row.limit entry _ k (row_each s row.at row.tag size _ row.entries e k h))

  bytes_below : bytes_answer s row ≡ Ok tt → Held (byte_entry s row.at)
  bytes_below = held_below row.entries (byte_entry s row.at) (λ k. row.at + 3 + k)

  words_below : words_answer s row ≡ Ok tt → Held (word_entry s row.at)
  words_below = held_below (4 * row.entries) (word_entry s row.at) (λ k. row.at + 3 + 4 * k)

-- Delayed sets that passed, as the arrays have them.
module _ (old : Bool) (s : List ℕ) (holds at n limit places : ℕ) (fits : n ≤ places) (e : sets_answer old s holds at n limit ≡ Ok tt) where
  passes_set : (k : ℕ) → k < n → set_entry old s holds at limit k ≡ Ok tt
  passes_set = row_each s at 0x06 (4 * n) _ n e

  set_below : (k : ℕ) → k < n → get_or (filled_to (word_entry s at) n (zeros places)) k 0 < limit
  set_below k h = rw (get_or-filled (word_entry s at) n places fits k h) (set_known old _ _ limit _ (passes_set k h))

  never_idle : old ≡ false → (k : ℕ) → k < n → get_or (filled_to (word_entry s holds) n (zeros places)) k 0 ≡ 0 →
      get_or (filled_to (word_entry s at) n (zeros places)) k 0 ≡ 0
  never_idle new k h none =
      let hold = rw (get_or-filled (word_entry s holds) n places fits k h) at none in
      let passed = rw new at (passes_set k h) in
      rw (get_or-filled (word_entry s at) n places fits k h) (set_not_idle _ _ limit _ passed hold)

-- Timers that passed, as the array has them.
module _ (s : List ℕ) (at n limit : ℕ) (few : n ≤ 4) (e : timers_row s at n limit ≡ Ok tt) where
  abbrev told : ℕ → ℕ
  told k = get_or (filled_to (word_entry s at) (2 * n) (zeros 8)) k 0

  timer_below : (k : ℕ) → k < n → (1 ≤ told (2 * k)) × (told (2 * k) ≤ longest_hold) × (told (2 * k + 1) < limit)
  timer_below k h =
      rw (get_or-filled (word_entry s at) (2 * n) 8 (omega arith) (2 * k) (omega arith), get_or-filled (word_entry s at) (2 * n) 8 (omega arith) (2 * k + 1) (omega arith))
      (timer_known _ _ limit _ (row_each s at 0x07 (8 * n) _ n e k h))

-- ---- What each kind of table has

-- What is asked of holds and timers.
pub record Timed (old : Bool) (t : Table) : Type 0 where
  pub hold : (q : ℕ) → q < t.states → hold_of t q ≤ longest_hold
  pub delayed : (q i : ℕ) → q < t.states → delays t q i ≡ true → i < t.inputs
  pub not_idle : old ≡ false → (q : ℕ) → q < t.states → hold_of t q ≡ 0 → delayed_of t q ≡ 0
  pub timers : t.timers ≤ most_timers
  pub no_timers : old ≡ true → t.timers ≡ 0
  pub length : (k : ℕ) → k < t.timers → (1 ≤ length_of t k) × (length_of t k ≤ longest_hold)
  pub region : (k q : ℕ) → k < t.timers → in_region t k q ≡ true → q < t.states
  pub sets : (k q i : ℕ) → k < t.timers → q < t.states → timer_delays t k q i ≡ true → i < t.inputs

-- No set is empty of what it has not got.
none_in : (i n : ℕ) → member 0 i ≡ true → i < n
none_in i n m = let low = member_below 0 0 i (omega arith) m in absurd (omega arith)

module _ (old : Bool) (s : List ℕ) (c : Counts) (fit : CountsFit c) where
  with_holds : HoldsStand old s c → Timed old (table_with c s 0)
  unfolding table_with
  with_holds stands =
      let few = fit.states.1 in
      record {
        hold = λ q h. let b = words_below s (hold_row c) 32 few stands.holds q h in omega arith;
        delayed = λ q i h m.
            member_below _ c.inputs i (set_below old s (hold_field c) (delayed_field c) c.states (2 ^ c.inputs) 32 few stands.delayed q h) m;
        not_idle = never_idle old s (hold_field c) (delayed_field c) c.states (2 ^ c.inputs) 32 few stands.delayed;
        timers = omega arith;
        no_timers = λ is. refl;
        length = λ k h. absurd (omega arith);
        region = λ k q h. absurd (omega arith);
        sets = λ k q i h. absurd (omega arith);
      }

  module _ (n : ℕ) (new : old ≡ false) (stands : TimersStand s c n) where
    no_holders : (if n =? 0 then c.states else 0) ≡ 0
    no_holders = let some = stands.few.0 in rw (ne_eqb n 0 (λ e. omega arith)) refl

    -- Nothing was read into the array.
    nothing : (entry : ℕ → ℕ) (q : ℕ) → get_or (filled_to entry (if n =? 0 then c.states else 0) (zeros 32)) q 0 ≡ 0
    nothing entry q = rw no_holders ((filled_uses entry 0 32 (omega arith)).rest q (omega arith))

    with_timers : Timed old (table_with c s n)
    unfolding table_with
    with_timers =
        let four = stands.few.1 in
        let each = timer_below s (hold_field c) n (2 ^ c.states) four stands.timers in
        let many : c.states * n ≤ 128 = mul-le-mul fit.states.1 four in
        record {
          hold = λ q h. rw (nothing (word_entry s (hold_field c)) q) (omega arith);
          delayed = λ q i h m. none_in i c.inputs (rw (nothing (word_entry s (delayed_field c)) q) at m);
          not_idle = λ new q h none. nothing (word_entry s (delayed_field c)) q;
          timers = four;
          no_timers = λ is. never (sym new ∙ is);
          length = λ k h. let b = each k h in (b.0, b.1);
          region = λ k q h m. member_below _ c.states q (each k h).2 m;
          sets = λ k q i hk hq m.
              member_below _ c.inputs i
              (words_below s (timer_set_row c (timer_set_field c n) n) 128 many stands.sets (q * n + k) (digits_lt hq hk)) m;
        }

  timed_in : timing_answer old c s ≡ Ok tt → Timed old (table_of c s)
  timed_in e = ⊎_elim
      (λ stands. rw stands.none (with_holds stands))
      (λ found. rw found.1.some (with_timers _ found.0 found.1))
      (timing_stands s c old e)

holders_few : (n states : ℕ) → states ≤ 32 → (if n =? 0 then states else 0) ≤ 32
holders_few n states few = go (n =? 0)
  where
    go : (b : Bool) → (if b then states else 0) ≤ 32
    go true = few
    go false = omega arith

-- The arrays of a table whose fields stand.
made_well : (old : Bool) (s : List ℕ) (c : Counts) (n : ℕ) → HeadStands s c → Timed old (table_with c s n) → WellFormedBy old (table_with c s n)
unfolding table_with
made_well old s c n head timed =
    let fit = head.counts in
    let few : c.states ≤ 32 = fit.states.1 in
    let pairs = c.states * c.inputs in
    let many : pairs ≤ 1024 = mul-le-mul few fit.inputs.1 in
    let four : n ≤ 4 = timed.timers in
    let rows : c.states * n ≤ 128 = mul-le-mul few four in
    record {
      states = fit.states;
      inputs = fit.inputs;
      outputs = fit.outputs;
      initial = fit.initial;
      bound = head.bound;
      output = bytes_below s (output_row c) 32 few head.outputs;
      next = λ q i hq hi.
          bytes_below s (next_row c) 1024 many head.next (q * c.inputs + i) (digits_lt hq hi);
      hold = timed.hold;
      delayed = timed.delayed;
      not_idle = timed.not_idle;
      timers = four;
      no_timers = timed.no_timers;
      length = timed.length;
      region = timed.region;
      sets = timed.sets;
      output_uses = filled_uses (byte_entry s output_field) c.states 32 few;
      next_uses = filled_uses (byte_entry s (next_field c)) pairs 1024 many;
      hold_uses = filled_uses (word_entry s (hold_field c)) _ 32 (holders_few n c.states few);
      delayed_uses = filled_uses (word_entry s (delayed_field c)) _ 32 (holders_few n c.states few);
      timing_uses = filled_uses (word_entry s (hold_field c)) (2 * n) 8 (omega arith);
      sets_uses = filled_uses (word_entry s (timer_set_field c n)) (c.states * n) 128 rows;
    }

-- A table with other holds or timers is well formed where these are.
pub retimed : {old other : Bool} (t : Table) → WellFormedBy old t → (hold delayed : List ℕ) (timers : ℕ) (timing sets : List ℕ) →
    Timed other (timed_with t hold delayed timers timing sets) →
    Uses (if timers =? 0 then t.states else 0) 32 hold → Uses (if timers =? 0 then t.states else 0) 32 delayed →
    Uses (2 * timers) 8 timing → Uses (t.states * timers) 128 sets →
    WellFormedBy other (timed_with t hold delayed timers timing sets)
retimed t ok hold delayed timers timing sets timed hold_uses delayed_uses timing_uses sets_uses = record {
  states = ok.states;
  inputs = ok.inputs;
  outputs = ok.outputs;
  initial = ok.initial;
  bound = ok.bound;
  output = ok.output;
  next = ok.next;
  hold = timed.hold;
  delayed = timed.delayed;
  not_idle = timed.not_idle;
  timers = timed.timers;
  no_timers = timed.no_timers;
  length = timed.length;
  region = timed.region;
  sets = timed.sets;
  output_uses = ok.output_uses;
  next_uses = ok.next_uses;
  hold_uses = hold_uses;
  delayed_uses = delayed_uses;
  timing_uses = timing_uses;
  sets_uses = sets_uses;
}

pub well_formed_by : (old : Bool) (s : List ℕ) → answer_by old s ≡ Ok tt → WellFormedBy old (table_in s)
well_formed_by old s e =
    let stands = table_stands old s e in
    made_well old s (counts_in s) (timers_in (counts_in s) s) stands.0 (timed_in old s (counts_in s) stands.0.counts stands.1)

pub well_formed : (s : List ℕ) → table_answer s ≡ Ok tt → WellFormed (table_in s)
well_formed = well_formed_by false
