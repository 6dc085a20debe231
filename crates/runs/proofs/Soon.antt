-- Not too soon: demand 3, first half, by a state's hold and by each timer.
use mathlib.Core.Path.{◌≡◌, refl, sym, ◌∙◌}
use mathlib.Core.Logic.{◌⊎◌, inl, inr, ⊎_elim}
use mathlib.Core.List.{List, [], ◌∷◌}
use mathlib.Core.Bool.{Bool, true}
use Prim.Native.Nat.{ℕ, ◌<◌, ◌≤◌}
use native.Mathlib.Omega.{arith}
use borrow.Author.Tests.{ltb-true, eqb-true}
use Rattle.wire.specs.Choice.{◌<?◌}
use Rattle.wire.proofs.Choice.{both}
use Rattle.table.specs.declared.Table.{Table}
use Rattle.table.specs.Table.{delays, timer_delays, WellFormed}
use Rattle.machine.specs.declared.Regions.{Regions}
use Rattle.machine.specs.declared.Machine.{Machine}
use Rattle.records.specs.declared.Record.{Record}
use Rattle.records.specs.declared.Record.TheVariants.{Change, Poll, Test, Tick, End}
use Rattle.records.specs.Record.{time_of}
use Rattle.machine.specs.declared.Rule.TheVariants.{Running}
use Rattle.machine.specs.Verdict.{rule_of}
use Rattle.machine.specs.Machine.{start, entry_into, rule, verdict, state_after, after}
use Rattle.machine.proofs.Steps.{Taken}
use Rattle.machine.proofs.Watches.{rule_runs, some_timer}
use Rattle.runs.specs.Slots.{Enters, SlotsNotTooSoon, SlotsNotTooSoonBy}
use Rattle.runs.proofs.Rules.{runs, runs_if}
use Rattle.runs.proofs.Records.{phases, state_kept, entry_moved, entry_kept, regions_kept}
use Rattle.runs.proofs.History.{History}
use Rattle.runs.proofs.Slots.{Along, from_start, taken, onwards, in_slot}
use Rattle.runs.proofs.Entries.{keeps_entries}

-- What holds the machine in q, entered at f, is left open: each test up to n is held that polled an input of D, where the entries into the
-- regions are K.
abbrev Holds : Table → (q f n : ℕ) → (ℕ → Bool) → (Regions → Type 0) → Type 0
Holds t q f n D K =
    (m : Machine) (time : ℕ) → m.state ≡ q → m.entry ≡ f → K m.regions → D m.polled ≡ true → f < time → time ≤ n → rule t m time ≡ Running

-- Slot f shows that they are.
module _ (t : Table) (q f n : ℕ) (D : ℕ → Bool) (K : Regions → Type 0) (holds : Holds t q f n D K) (slots : ℕ → Machine)
    (known : K (slots f).regions) (delayed : (j : ℕ) → f ≤ j → j < n → D (slots j).input ≡ true) where
  -- Kept up to n: the machine is in q since f, and no free tick is due.
  record Waits (phase state entry : ℕ) (regions : Regions) : Type 0 where
    is : state ≡ q
    since : entry ≡ f
    keeps : K regions
    unfree : phase ≡ 3 → ⊥

  abbrev Waiting : Machine → Type 0
  Waiting m = Waits m.phase m.state m.entry m.regions

  wait : (m : Machine) (r : Record) → Taken t m r → History t slots m (time_of r) → time_of r ≤ n → Waiting m → Waiting (after t m r)
  unfolding verdict
  wait m (Change time input) takes h l w = w
  wait m (Poll time input) takes h l w = record { is = w.is; since = w.since; keeps = w.keeps; unfree = λ three. omega arith }
  wait m (Test time verdict') takes h l w =
      let one : m.phase ≡ 1 = (phases m.phase).test takes.in_phase in
      let since : m.entry ≡ f = w.since in
      let p = h.polled (omega arith) in
      let polled : D m.polled ≡ true = rw p.was at (delayed p.at (omega (arith, p.begun, h.entered)) (omega (arith, p.past))) in
      let is_held_lem = holds m time w.is since w.keeps polled (omega (arith, p.begun, p.past, h.entered)) l in
      record { is = w.is; since = since; keeps = w.keeps; unfree = rw is_held_lem (λ three. omega arith) }
  wait m (Tick time state) takes h l w =
      let two : m.phase ≡ 2 = ⊎_elim (λ two. two) (λ three. absurd (w.unfree three)) ((phases m.phase).tick takes.in_phase) in
      let same = state_kept t m two in
      record {
        is = same ∙ w.is;
        since = entry_kept t m same time ∙ w.since;
        keeps = rw (regions_kept t m same time) w.keeps;
        unfree = λ three. omega arith;
      }
  wait m (End time) takes h l w = w

  -- A machine that has just entered q.
  record Enter (m : Machine) : Type 0 where
    phase : m.phase ≡ 0
    state : m.state ≡ q
    entry : m.entry ≡ f
    start : m.start ≡ f
    time : m.time ≡ f

  -- Kept from there up to f: no poll comes before the slot is over, so that it shows the regions as they were then.
  record Begins (phase start : ℕ) (regions then : Regions) : Type 0 where
    unpolled : phase ≡ 0
    begun : start ≡ f
    same : regions ≡ then

  abbrev Beginning : Regions → Machine → Type 0
  Beginning then m = Begins m.phase m.start m.regions then

  begin : (then : Regions) (m : Machine) (r : Record) → Taken t m r → History t slots m (time_of r) → time_of r ≤ f → Beginning then m →
      Beginning then (after t m r)
  begin then m (Change time input) takes h l b = b
  begin then m (Poll time input) takes h l b =
      let later : m.start < time = ltb-true _ _ (both (m.change <? time) (m.start <? time) takes.is_settled).1 in
      absurd (omega (arith, b.begun))
  begin then m (Test time verdict) takes h l b = absurd (omega (arith, b.unpolled, (phases m.phase).test takes.in_phase))
  begin then m (Tick time state) takes h l b =
      absurd (⊎_elim (λ two. omega (arith, b.unpolled)) (λ three. omega (arith, b.unpolled)) ((phases m.phase).tick takes.in_phase))
  begin then m (End time) takes h l b = b

  known_then : (rs : List Record) (m last : Machine) → Along t slots m rs last → Enter m → f < last.time → K m.regions
  known_then rs m last run new u =
      let begins : Beginning m.regions m = record { unpolled = new.phase; begun = new.start; same = refl } in
      let at_f = in_slot t slots (Beginning m.regions) f (begin m.regions) rs m last run begins (omega (arith, new.time)) u in
      rw at_f.kept.same at known

  still : (rs : List Record) (m last : Machine) → Along t slots m rs last → Enter m → f ≤ n → n < last.time → (slots n).state ≡ q
  still rs m last run new l u =
      let keeps = known_then rs m last run new (omega arith) in
      let waits : Waiting m = record { is = new.state; since = new.entry; keeps = keeps; unfree = λ three. omega (arith, new.phase) } in
      (in_slot t slots Waiting n wait rs m last run waits (omega (arith, new.time)) u).kept.is

  entering : (m : Machine) → Taken t m (Tick f q) → (m.state ≡ q → ⊥) → Enter (after t m (Tick f q))
  entering m takes another =
      let is : q ≡ state_after t m = eqb-true q (state_after t m) takes.agreed in
      record { phase = refl; state = sym is; entry = entry_moved t m (λ same. another (sym (is ∙ same))) f; start = refl; time = refl }

  from_tick : (rs : List Record) (m last : Machine) → Along t slots m rs last → Enters t m rs q f → f ≤ n → n < last.time → (slots n).state ≡ q
  from_tick [] m last run never l u = absurd never
  from_tick (r ∷ rs) m last run (inl now) l u =
      let run' : Along t slots m (Tick f q ∷ rs) last = rw now.0 at run in
      still rs _ last (onwards run') (entering m (taken run') now.1) l u
  from_tick (r ∷ rs) m last run (inr then) l u = from_tick rs (after t m r) last (onwards run) then l u

  from_entry : (rs : List Record) (initial input : ℕ) (last : Machine) → Along t slots (start initial input) rs last →
      ((q ≡ initial) × (f ≡ 0)) ⊎ Enters t (start initial input) rs q f → f ≤ n → n < last.time → (slots n).state ≡ q
  from_entry rs initial input last run (inl first) l u =
      still rs _ last run
      (record { phase = refl; state = sym first.0; entry = sym first.1; start = sym first.1; time = sym first.1 }) l u
  from_entry rs initial input last run (inr then) l u = from_tick rs _ last run then l u

-- Here it is the state's hold, up to f + hold, whatever the regions.
pub not_too_soon : (t : Table) → SlotsNotTooSoon t
not_too_soon t input rs T accepted q e k entered l within u delayed =
    from_entry t q e k (delays t q) (λ regions. Unit {0}) holds _ tt delayed rs t.initial input accepted.last (from_start accepted) entered l
    (omega (arith, accepted.ends))
  where
    holds : Holds t q e k (delays t q) (λ regions. Unit {0})
    holds m time is since any delays l u = (rule_runs t m time).1 (inl ((runs _ _ _ _ _).1 (rw (is, since) (omega arith, omega arith, delays))))

-- And here timer k, up to its length after the entry into its region.
pub not_too_soon_by : (t : Table) → WellFormed t → (k : ℕ) → k < t.timers → SlotsNotTooSoonBy t k
not_too_soon_by t good k real input rs T accepted q f e n has entered last l within u delayed =
    let known = keeps_entries t input rs T accepted k f small ∙ last in
    from_entry t q f n (timer_delays t k q) (λ regions. entry_into regions k ≡ e) holds _ known delayed rs t.initial input accepted.last
    (from_start accepted) entered l (omega (arith, accepted.ends))
  where
    small : k < 4
    small = omega (arith, good.timers)

    holds : Holds t q f n (timer_delays t k q) (λ regions. entry_into regions k ≡ e)
    holds m time is since since_region delays l u =
        (rule_runs t m time).1
        (inr (some_timer t m (λ w. rule_of m.polled time w ≡ Running) k small
        ((runs_if good m time k).1 (rw (is, since_region) ((real, has, delays), omega arith)))))
