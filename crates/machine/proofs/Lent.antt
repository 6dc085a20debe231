-- A table that is lent has the rows that are lent: what they give is what the table says.
use mathlib.Core.Path.{◌≡◌, refl, sym, ap, ◌∙◌}
use mathlib.Core.List.{List}
use Prim.Native.Nat.{ℕ, ◌+◌, ◌*◌, ◌<◌, max}
use native.Mathlib.Omega.{arith}
use lib.ListN.{get_or}
use Rattle.table.specs.declared.Table.{Table}
use Rattle.table.specs.Table.{hold_of, delayed_of, next_of, region_of, WellFormed}
use Rattle.records.specs.declared.Record.TheVariants.{Tick}
use Rattle.machine.specs.declared.Regions.{Regions}
use Rattle.machine.specs.declared.Machine.{Machine}
use Rattle.machine.specs.Step.{Step}
use Rattle.machine.specs.Verdict.{left_of, largest_over}
use Rattle.machine.specs.Machine.{entry_into, state_watch, watch_by, timer_watch, timer_watches, left, state_after, entered, regions_after, step}
use Rattle.machine.specs.Lent.{Lent, Usable, Sane, Underway}
use Rattle.machine.proofs.Laws.{all_entered, none_entered}
use Rattle.machine.proofs.Watches.{left_by_state, left_by_timers, no_regions, no_holds, timers_fit}

-- A table lends its own numbers and rows.
pub lends : (t : Table) → WellFormed t →
    Lent t t.bound t.states t.inputs t.timers t.next t.hold t.delayed t.timing t.sets
lends t good = record {
  bound_is = refl;
  states_is = refl;
  inputs_is = refl;
  timers_is = refl;
  next_is = refl;
  hold_is = refl;
  delayed_is = refl;
  timing_is = refl;
  sets_is = refl;
  no_timers = no_regions good;
  no_holds = no_holds good;
}

pub usable : (t : Table) (m : Machine) → WellFormed t → Underway t m → Usable m t.inputs t.timers t.next t.hold t.timing
usable t m good fits = record {
  few_inputs = good.inputs.1;
  few_timers = good.timers;
  next_small = omega (arith, good.next m.state m.polled fits.state fits.polled, good.states);
  hold_fits = good.hold m.state fits.state;
  timers_fit = timers_fit good;
}

-- From a state below 32 a tick leads to one below 32.
pub ticks_below : {m : Machine} {inputs timers : ℕ} {next hold timing : List ℕ} → Sane m → Usable m inputs timers next hold timing →
    {target own : ℕ} → target ≡ get_or next (m.state * inputs + m.polled) 0 → (m.state < 32 → target < 32 → own < 32) → (m.state < 32) × (own < 32)
ticks_below sane usable found owed = (sane.state, owed sane.state (rw found usable.next_small))

module _ {t : Table} {bound states inputs timers : ℕ} {next hold delayed timing sets : List ℕ}
    (lent : Lent t bound states inputs timers next hold delayed timing sets) where
  pub lent_hold : (q : ℕ) → hold_of t q ≡ get_or hold q 0
  lent_hold q = ap (λ l. get_or l q 0) lent.hold_is

  pub lent_delayed : (q : ℕ) → delayed_of t q ≡ get_or delayed q 0
  lent_delayed q = ap (λ l. get_or l q 0) lent.delayed_is

  pub lent_next : (q b : ℕ) → next_of t q b ≡ get_or next (q * inputs + b) 0
  lent_next q b = ap (λ l. get_or l (q * t.inputs + b) 0) lent.next_is ∙ ap (λ n. get_or next (q * n + b) 0) lent.inputs_is

  -- Without timers the state's hold decides; with timers they do. What the methods owe for any table is asked of this one.
  module _ (m : Machine) (time : ℕ) {x : ℕ} where
    pub lent_left : timers ≡ 0 →
        (hold_of t m.state ≡ get_or hold m.state 0 → delayed_of t m.state ≡ get_or delayed m.state 0 → x ≡ left_of m.polled time (state_watch t m)) →
        x ≡ left t m time
    lent_left none owed = owed (lent_hold m.state) (lent_delayed m.state) ∙ sym (left_by_state t m time (lent.no_timers none))

    pub lent_left_timers : (timers ≡ 0 → ⊥) →
        (t.timers ≡ timers → t.timing ≡ timing → t.sets ≡ sets → x ≡ largest_over (left_of m.polled time) (timer_watches t m)) → x ≡ left t m time
    lent_left_timers some owed =
        owed lent.timers_is lent.timing_is lent.sets_is ∙ sym (left_by_timers t m time (lent.no_holds some))

  -- A tick, with the next state and the regions that the lent rows give.
  module _ (m : Machine) {target own : ℕ} (found : target ≡ get_or next (m.state * inputs + m.polled) 0)
      (ticked : next_of t m.state m.polled ≡ target → own ≡ state_after t m) where
    leads_to : next_of t m.state m.polled ≡ target
    leads_to = lent_next m.state m.polled ∙ sym found

    pub lent_own : own ≡ state_after t m
    lent_own = ticked leads_to

    pub lent_tick : (time state : ℕ) (regions : Regions) (a : Step) →
        ((timers ≡ 0 → (k : ℕ) → region_of t k ≡ 0) → t.timing ≡ timing → m.state ≡ m.state → state_after t m ≡ own → m.regions ≡ m.regions →
        regions ≡ regions_after t m time) →
        (t.bound ≡ bound → next_of t m.state m.polled ≡ target → regions_after t m time ≡ regions → a ≡ step t m (Tick time state)) →
        a ≡ step t m (Tick time state)
    lent_tick time state regions a entered taken =
        taken lent.bound_is leads_to (sym (entered lent.no_timers lent.timing_is refl (sym lent_own) refl))

-- ---- All timers

two_and_two : (a b c d : ℕ) → max (max a b) (max c d) ≡ max a (max b (max c (max d 0)))
two_and_two a b c d =
    let last : max d 0 ≡ d = omega arith in
    let three : (x : ℕ) → max (max a b) x ≡ max a (max b x) = λ x. omega arith in
    rw last (three (max c d))

-- The most of all timers, from the rows that were lent, where the state's sets begin at `row`: the largest of two and two.
module _ (t : Table) (m : Machine) (time : ℕ) {timers : ℕ} {timing sets : List ℕ} (timers_is : t.timers ≡ timers) (timing_is : t.timing ≡ timing)
    (sets_is : t.sets ≡ sets) {row : ℕ} (row_is : row ≡ m.state * timers) where
  abbrev LeftOf : (k n : ℕ) → Type 0
  LeftOf k n =
      n ≡ left_of m.polled time
      (watch_by (get_or timing (2 * k) 0) (get_or timing (2 * k + 1) 0) (get_or sets (row + k) 0) (entry_into m.regions k) m.state)

  timer_left : (k n : ℕ) → LeftOf k n → n ≡ left_of m.polled time (timer_watch t m k)
  timer_left k n is = rw (timers_is, timing_is, sets_is, ← row_is) is

  pub most_left : {a b c d x y z : ℕ} → LeftOf 0 a → LeftOf 1 b → LeftOf 2 c → LeftOf 3 d → x ≡ max a b → y ≡ max c d → z ≡ max x y →
      z ≡ largest_over (left_of m.polled time) (timer_watches t m)
  unfolding largest_over
  most_left first second third fourth front back all =
      all ∙ rw (front, back, timer_left 0 _ first, timer_left 1 _ second, timer_left 2 _ third, timer_left 3 _ fourth) (two_and_two _ _ _ _)

-- When the regions in the rows that were lent were entered.
module _ (t : Table) (m : Machine) (from to time : ℕ) (regions : Regions) (timing : List ℕ) (timing_is : t.timing ≡ timing) (in_state : m.state ≡ from)
    (leads_to : state_after t m ≡ to) (regions_are : m.regions ≡ regions) where
  abbrev EntryOf : (k n : ℕ) → Type 0
  EntryOf k n = n ≡ entered (get_or timing (2 * k + 1) 0) from to time (entry_into regions k)

  in_table : (k n : ℕ) → EntryOf k n → n ≡ entered (region_of t k) m.state to time (entry_into m.regions k)
  in_table k n is = rw (timing_is, in_state, regions_are) is

  pub rows_entered : (a b c d : ℕ) → EntryOf 0 a → EntryOf 1 b → EntryOf 2 c → EntryOf 3 d →
      record { first = a; second = b; third = c; fourth = d } ≡ regions_after t m time
  rows_entered a b c d first second third fourth =
      all_entered t m to time leads_to a b c d (in_table 0 a first) (in_table 1 b second) (in_table 2 c third) (in_table 3 d fourth)

  pub rows_stay : from ≡ to → regions ≡ regions_after t m time
  rows_stay same = sym regions_are ∙ none_entered t m to time leads_to (in_state ∙ same)
