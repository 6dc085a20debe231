-- What a machine of a run has behind it: slots that show its state, its input and what it polled.
use mathlib.Core.Path.{◌≡◌, refl, sym, ap, ◌∙◌}
use mathlib.Core.Logic.{⊎_elim}
use mathlib.Core.Bool.{true}
use Prim.Native.Nat.{ℕ, ◌+◌, ◌-◌, ◌<◌, ◌≤◌}
use native.Mathlib.Omega.{arith}
use borrow.Author.Tests.{ltb-true}
use Rattle.std.proofs.lemmas.Bool.{cases_lt}
use Rattle.wire.specs.Choice.{◌<?◌}
use Rattle.wire.proofs.Choice.{both}
use Rattle.table.specs.declared.Table.{Table}
use Rattle.table.specs.Table.{hold_of, delays}
use Rattle.machine.specs.declared.Machine.{Machine}
use Rattle.records.specs.declared.Record.{Record}
use Rattle.records.specs.declared.Record.TheVariants.{Change, Poll, Test, Tick, End}
use Rattle.records.specs.Record.{time_of}
use Rattle.machine.specs.declared.Rule.{Rule}
use Rattle.machine.specs.declared.Rule.TheVariants.{Running, Passed, NoHold}
use Rattle.machine.specs.Verdict.{verdict_by}
use Rattle.machine.specs.Machine.{start, rule, verdict, after}
use Rattle.machine.proofs.Before.{entry_before}
use Rattle.machine.proofs.Steps.{Taken}
use Rattle.runs.specs.Reaction.{NoRegions}
use Rattle.runs.proofs.Rules.{by_hold}
use Rattle.runs.proofs.Records.{repeats_or_changes, phases}

-- The polled input was that of a slot of this cycle.
pub record PolledIn (slots : ℕ → Machine) (polled start now : ℕ) : Type 0 where
  pub at : ℕ
  pub begun : start ≤ at
  pub past : at < now
  pub was : (slots at).input ≡ polled

-- The state's hold held the polled input, so the cycle began before the hold was passed.
pub record Holding (t : Table) (state polled entry start : ℕ) : Type 0 where
  pub some : 0 < hold_of t state
  pub delayed : delays t state polled ≡ true
  pub begun : start < entry + hold_of t state

-- By the numbers of a machine, so that a record that changes none of them hands it on as it is.
pub record Behind (t : Table) (slots : ℕ → Machine) (phase q i p change entry start now : ℕ) : Type 0 where
  pub entered : entry ≤ start
  pub begun : start ≤ now
  pub state : (k : ℕ) → start ≤ k → k < now → (slots k).state ≡ q
  pub input : (k : ℕ) → change ≤ k → k < now → (slots k).input ≡ i
  pub polled : 0 < phase → PolledIn slots p start now
  pub held : NoRegions t → phase ≡ 2 → Holding t q p entry start

abbrev pub History : (t : Table) (slots : ℕ → Machine) (m : Machine) (now : ℕ) → Type 0
History t slots m now = Behind t slots m.phase m.state m.input m.polled m.change m.entry m.start now

holding : (t : Table) (m : Machine) (time : ℕ) → m.start < time → NoRegions t → 2 + verdict t m time ≡ 2 →
    Holding t m.state m.polled m.entry m.start
unfolding verdict
holding t m time l none two =
    let o = (by_hold t none m time).0.0 (held_by (rule t m time) two) in
    record { some = o.1; delayed = o.2; begun = omega (arith, o.0) }
  where
    held_by : (x : Rule) → 2 + verdict_by x ≡ 2 → x ≡ Running
    held_by Running e = refl
    held_by Passed e = absurd (omega arith)
    held_by NoHold e = absurd (omega arith)

module _ (t : Table) (slots : ℕ → Machine) where
  pub at_first : (initial input : ℕ) → History t slots (start initial input) 0
  at_first initial input = record {
    entered = omega arith;
    begun = omega arith;
    state = λ k l u. absurd (omega arith);
    input = λ k l u. absurd (omega arith);
    polled = λ l. absurd (omega arith);
    held = λ none e. absurd (omega arith);
  }

  -- Up to the next record every slot shows the machine itself.
  pub until : (m : Machine) (now : ℕ) → m.time ≤ now → ((k : ℕ) → m.time ≤ k → k < now → slots k ≡ m) →
      History t slots m m.time → History t slots m now
  until m now order shows h = record {
    entered = h.entered;
    begun = omega (arith, h.begun);
    state = λ k l u. ⊎_elim (λ old. h.state k l old) (λ new. ap (λ (n : Machine). n.state) (shows k new u)) (cases_lt k m.time);
    input = λ k l u. ⊎_elim (λ old. h.input k l old) (λ new. ap (λ (n : Machine). n.input) (shows k new u)) (cases_lt k m.time);
    polled = λ l. let p = h.polled l in record { at = p.at; begun = p.begun; past = omega (arith, p.past); was = p.was };
    held = h.held;
  }

  -- And a record hands the history on.
  pub onward : (m : Machine) (r : Record) → Taken t m r → History t slots m (time_of r) → History t slots (after t m r) (time_of r)
  onward m (Change time input) taken h = record {
    entered = h.entered;
    begun = h.begun;
    state = h.state;
    -- A repeat leaves what was seen; after a change nothing has been seen yet.
    input = λ k l u. ⊎_elim
        (λ x. let since = x.1 in h.input k (omega arith) u ∙ sym x.0)
        (λ x. let now = x.1 in absurd (omega arith))
        (repeats_or_changes m time input);
    polled = h.polled;
    held = h.held;
  }
  onward m (Poll time input) taken h =
      let settled = both (m.change <? time) (m.start <? time) taken.is_settled in
      let changed : m.change < time = ltb-true _ _ settled.0 in
      let begun : m.start < time = ltb-true _ _ settled.1 in
      record {
        entered = h.entered;
        begun = h.begun;
        state = h.state;
        input = h.input;
        polled = λ l. record { at = time - 1; begun = omega arith; past = omega arith; was = h.input (time - 1) (omega arith) (omega arith) };
        held = λ none e. absurd (omega arith);
      }
  onward m (Test time verdict) taken h =
      let one : m.phase ≡ 1 = (phases m.phase).test taken.in_phase in
      let p = h.polled (omega arith) in
      record {
        entered = h.entered;
        begun = h.begun;
        state = h.state;
        input = h.input;
        polled = λ l. p;
        held = holding t m time (omega (arith, p.begun, p.past));
      }
  onward m (Tick time state) taken h = record {
    entered = entry_before t m time (omega (arith, h.entered, h.begun));
    begun = omega arith;
    state = λ k l u. absurd (omega arith);
    input = h.input;
    polled = λ l. absurd (omega arith);
    held = λ none e. absurd (omega arith);
  }
  onward m (End time) taken h = h
