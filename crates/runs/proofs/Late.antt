-- Not too late: demand 3, second half, for every time that suffices.
use mathlib.Core.Path.{◌≡◌}
use mathlib.Core.Logic.{◌⊎◌, inl, inr, ⊎_elim}
use mathlib.Core.Bool.{Bool, true}
use Prim.Native.Nat.{ℕ, ◌+◌, ◌-◌, ◌<◌, ◌≤◌}
use native.Mathlib.Omega.{arith}
use Rattle.std.specs.Prelude.{if◌then◌else◌}
use Rattle.std.proofs.lemmas.Bool.{cases_lt}
use Rattle.wire.specs.Choice.{◌=?◌}
use Rattle.table.specs.declared.Table.{Table}
use Rattle.table.specs.Table.{next_of}
use Rattle.machine.specs.declared.Machine.{Machine}
use Rattle.records.specs.declared.Record.{Record}
use Rattle.records.specs.declared.Record.TheVariants.{Change, Poll, Test, Tick, End}
use Rattle.records.specs.Record.{time_of}
use Rattle.machine.specs.Machine.{state_after, after}
use Rattle.machine.proofs.Before.{entry_before}
use Rattle.machine.proofs.Steps.{Taken}
use Rattle.runs.specs.Slots.{SlotsNotTooLate}
use Rattle.runs.specs.Reaction.{Reach, there, via, Suffices}
use Rattle.runs.proofs.Records.{phases, state_kept, entry_kept, state_next}
use Rattle.runs.proofs.History.{History}
use Rattle.runs.proofs.Slots.{from_start, InSlot, in_slot}

module _ {t : Table} {P A N : ℕ → Bool} {w : ℕ → ℕ} {c : ℕ} (enough : Suffices t P A N w c) (s : ℕ) (slots : ℕ → Machine)
    (known : (k : ℕ) → s ≤ k → k < s + c → (P (slots k).state ≡ true) × (A (slots k).input ≡ true)) where
  -- In state q, entered at e, in a cycle that began at z: N is reached, or a free tick is due by u, and then `rest` pays for the way.
  data Course (q e z : ℕ) : Type 0 where
    home : N q ≡ true → Course q e z
    due : (u rest : ℕ) → e + w q ≤ u → z + t.bound ≤ u → u + rest ≤ s + c →
        ((a : ℕ) → A a ≡ true → Reach t A N w rest (next_of t q a)) → Course q e z

  abbrev OnCourse : Machine → Type 0
  OnCourse m = Course m.state m.entry m.start

  -- Kept up to s + c. The first cycle from s on is apart: no slot has shown yet that its state is in P.
  abbrev InTime : Machine → Type 0
  InTime m = (m.start < s + t.bound) ⊎ OnCourse m

  arrive : (q e z r : ℕ) → e ≤ z → z + r ≤ s + c → Reach t A N w r q → Course q e z
  arrive q e z r l k (there n) = home n
  arrive q e z r l k (via _ _ rest paid reach) = due (z + w q) rest (omega arith) (omega (arith, enough.weights.plain q)) (omega arith) reach

  -- The cycle's first slot is past: it has shown the state.
  shown : (m : Machine) (now : ℕ) → History t slots m now → s ≤ m.start → m.start < now → InTime m → OnCourse m
  shown m now h l u (inl first) =
      let p : P m.state ≡ true = rw (h.state m.start (omega arith) u) at (known m.start l (omega (arith, enough.covers_bound))).0 in
      arrive m.state m.entry m.start (c + 1 - t.bound) h.entered (omega (arith, enough.covers_bound)) (enough.reaches m.state p)
  shown m now h l u (inr course) = course

  module _ (m : Machine) (now : ℕ) (in_cycle : now ≤ m.start + t.bound) (h : History t slots m now) (polled : A m.polled ≡ true) where
    abbrev Ticked : Type 0
    Ticked = Course (state_after t m) (if state_after t m =? m.state then m.entry else now) now

    -- Held: this cycle began before the hold was passed, so the next ends by u.
    stay : m.phase ≡ 2 → OnCourse m → Ticked
    stay two (home n) = home (rw (state_kept t m two) n)
    stay two (due u rest by_entry by_cycle paid reach) =
        let same = state_kept t m two in
        let d = h.held enough.no_regions two in
        let heavy = enough.weights.delayed m.state m.polled polled d.some d.delayed in
        due u rest (rw (entry_kept t m same now, same) by_entry) (omega (arith, d.begun)) paid (rw same reach)

    -- Free: a move.
    move : m.phase ≡ 3 → OnCourse m → Ticked
    move three (home n) = home (rw (state_next t m three) (enough.stays m.state m.polled n polled))
    move three (due u rest by_entry by_cycle paid reach) =
        let entered = entry_before t m now (omega (arith, h.entered, h.begun)) in
        arrive _ _ now rest entered (omega arith) (rw (state_next t m three) (reach m.polled polled))

  ticked : (m : Machine) (now state : ℕ) → Taken t m (Tick now state) → History t slots m now → now ≤ s + c → InTime m →
      InTime (after t m (Tick now state))
  ticked m now state takes h l kept = ⊎_elim (λ new. inl (omega (arith, takes.in_cycle))) old (cases_lt m.start s)
    where
      old : s ≤ m.start → InTime (after t m (Tick now state))
      old from_s =
          let phase = (phases m.phase).tick takes.in_phase in
          let some : 0 < m.phase = ⊎_elim (λ two. omega arith) (λ three. omega arith) phase in
          let p = h.polled some in
          let polled : A m.polled ≡ true = rw p.was at (known p.at (omega (arith, p.begun)) (omega (arith, p.past))).1 in
          let course = shown m now h from_s (omega (arith, p.begun, p.past)) kept in
          inr (⊎_elim (λ two. stay m now takes.in_cycle h polled two course) (λ three. move m now takes.in_cycle h polled three course) phase)

  keep : (m : Machine) (r : Record) → Taken t m r → History t slots m (time_of r) → time_of r ≤ s + c → InTime m → InTime (after t m r)
  keep m (Change now input) takes h l kept = kept
  keep m (Poll now input) takes h l kept = kept
  keep m (Test now verdict) takes h l kept = kept
  keep m (Tick now state) takes h l kept = ticked m now state takes h l kept
  keep m (End now) takes h l kept = kept

  -- In slot s + c no tick is due any more.
  at_last : (m : Machine) → InSlot t slots InTime (s + c) m → N m.state ≡ true
  at_last m here = ⊎_elim
      (λ new. absurd (omega (arith, here.past, here.takes.in_cycle, enough.covers_bound)))
      (λ old. go (shown m _ here.history old (omega (arith, here.begun, here.past)) here.kept))
      (cases_lt m.start s)
    where
      go : OnCourse m → N m.state ≡ true
      go (home n) = n
      go (due u rest by_entry by_cycle paid reach) = absurd (omega (arith, here.past, here.takes.in_cycle))

pub not_too_late : {t : Table} {P A N : ℕ → Bool} {w : ℕ → ℕ} {c : ℕ} → Suffices t P A N w c → SlotsNotTooLate t P A N c
not_too_late {t} {c = c} enough input rs T accepted s l known =
    at_last enough s _ known _
    (in_slot t _ (InTime enough s _ known) (s + c) (keep enough s _ known) rs _ accepted.last (from_start accepted)
    (inl (omega (arith, enough.bound_positive))) (omega arith) (omega (arith, accepted.ends)))
