-- A record that the machine takes is an edge of the automaton, and the other way round.
use mathlib.Core.Path.{◌≡◌, refl, sym, ap, ◌∙◌}
use mathlib.Core.Logic.{⊎_elim}
use mathlib.Core.Bool.{Bool, true, false}
use Prim.Native.Nat.{ℕ, zero, suc, ◌+◌, ◌-◌, ◌<◌}
use native.Mathlib.Nat.{sub_self}
use native.Mathlib.Omega.{arith}
use borrow.Author.Tests.{lt-ltb, eq-eqb, ltb-true, eqb-true, eqb-false}
use Rattle.wire.specs.Choice.{◌<?◌, ◌=?◌}
use Rattle.wire.proofs.Choice.{both}
use Rattle.table.specs.declared.Table.{Table}
use Rattle.machine.specs.declared.Machine.{Machine}
use Rattle.records.specs.declared.Record.{Record}
use Rattle.records.specs.declared.Record.TheVariants.{Change, Poll, Test, Tick, End}
use Rattle.records.specs.Record.{time_of}
use Rattle.machine.specs.declared.Rule.{Rule}
use Rattle.machine.specs.declared.Rule.TheVariants.{Running, Passed, NoHold}
use Rattle.machine.specs.Verdict.{verdict_by}
use Rattle.machine.specs.Machine.{kind_of, allowed, settled, rule, verdict, state_after, agrees, after}
use Rattle.machine.proofs.Laws.{repeat_leaves, change_counts}
use Rattle.machine.proofs.Steps.{Taken}
use Rattle.runs.specs.Automaton.{Clocks, Configuration, at, Edge, ta_1, repeat, ta_2, ta_3, ta_4, ta_5, ta_6, ta_7, ta_8, end}
use Rattle.runs.proofs.Records.{repeats_or_changes, phases, state_kept, state_next, entry_moved, entry_kept, regions_kept}
use Rattle.runs.proofs.Clocks.{Reading}

-- The machine as the automaton has it at time `now`: the clocks give the time since the instants.
module _ {C : Clocks} {t : Table} (K : Reading C t) where
  abbrev in_the_phase : ℕ → Machine → ℕ → Configuration C
  in_the_phase p m now = at p m.input m.polled m.state (now - m.change) (K.shown m.entry m.regions now) (now - m.start)

  abbrev pub seen : Machine → ℕ → Configuration C
  seen m now = in_the_phase m.phase m now

-- ---- From the machine to the automaton

module _ {C : Clocks} {t : Table} (K : Reading C t) (m : Machine) (now : ℕ) where
  abbrev Leads : Record → Type 0
  Leads r = Edge C t (seen K m now) r (seen K (after t m r) now)

  change_edge : (input : ℕ) → Leads (Change now input)
  change_edge input = ⊎_elim (λ x. rw (x.1, x.0) repeat) (λ x. rw (x.1, sub_self now) (ta_1 x.0)) (repeats_or_changes m now input)

  poll_edge : (input : ℕ) → Taken t m (Poll now input) → Leads (Poll now input)
  poll_edge input takes =
      let settled = both (m.change <? now) (m.start <? now) takes.is_settled in
      let x : 0 < now - m.change = omega (arith, ltb-true m.change now settled.0) in
      let z : 0 < now - m.start = omega (arith, ltb-true m.start now settled.1) in
      rw ((phases m.phase).poll takes.in_phase, eqb-true input m.input takes.agreed) (ta_2 x z)

  test_edge : (v : ℕ) → Taken t m (Test now v) → Leads (Test now v)
  unfolding verdict
  test_edge v takes =
      rw (eqb-true v (verdict t m now) takes.agreed) (go m.phase ((phases m.phase).test takes.in_phase) (rule t m now) refl)
    where
      go : (p : ℕ) → p ≡ 1 → (x : Rule) → rule t m now ≡ x → Edge C t (in_the_phase K p m now) (Test now (verdict_by x)) (in_the_phase K (2 + verdict_by x) m now)
      go p one Running e = rw one (ta_3 ((K.rules m now).0.0 e))
      go p one Passed e = rw one (ta_4 ((K.rules m now).1.0 e))
      go p one NoHold e = rw one (ta_5 ((K.rules m now).2.0 e))

  tick_edge : (q : ℕ) → Taken t m (Tick now q) → Leads (Tick now q)
  tick_edge q takes = ⊎_elim from_2 (λ three. from_3 three (state_after t m =? m.state) refl) ((phases m.phase).tick takes.in_phase)
    where
      is : q ≡ state_after t m
      is = eqb-true q (state_after t m) takes.agreed

      from_2 : m.phase ≡ 2 → Leads (Tick now q)
      from_2 two =
          let same = state_kept t m two in
          rw (is, entry_kept t m same now, regions_kept t m same now, same, sub_self now, two) ta_6

      from_3 : m.phase ≡ 3 → (b : Bool) → (state_after t m =? m.state) ≡ b → Leads (Tick now q)
      from_3 three true e =
          let same = eqb-true (state_after t m) m.state e in
          rw (is, entry_kept t m same now, regions_kept t m same now, same, sub_self now, three) (ta_7 (sym (state_next t m three) ∙ same))
      from_3 three false e =
          let next = state_next t m three in
          let differs = eqb-false (state_after t m) m.state e in
          rw (is, entry_moved t m differs now, K.moves m now, next, sub_self now, three) (ta_8 refl (λ same. differs (next ∙ same)))

pub edge : {C : Clocks} {t : Table} (K : Reading C t) (m : Machine) (r : Record) → Taken t m r → Leads K m (time_of r) r
edge K m (Change now input) takes = change_edge K m now input
edge K m (Poll now input) takes = poll_edge K m now input takes
edge K m (Test now v) takes = test_edge K m now v takes
edge K m (Tick now state) takes = tick_edge K m now state takes
edge K m (End now) takes = end

-- ---- From the automaton to the machine

every_phase : (p : ℕ) → p < 4 → (allowed p 0 ≡ true) × (allowed p 4 ≡ true)
every_phase zero l = (refl, refl)
every_phase (suc zero) l = (refl, refl)
every_phase (suc (suc zero)) l = (refl, refl)
every_phase (suc (suc (suc zero))) l = (refl, refl)
every_phase (suc (suc (suc (suc p)))) l = absurd (omega arith)

-- The machine takes the record, if its time is right, and c is the machine after it.
pub record Fits {C : Clocks} {t : Table} (K : Reading C t) (m : Machine) (r : Record) (c : Configuration C) : Type 0 where
  pub in_phase : allowed m.phase (kind_of r) ≡ true
  pub is_settled : settled m r ≡ true
  pub agreed : agrees t m r ≡ true
  pub leads : c ≡ seen K (after t m r) (time_of r)

module _ {C : Clocks} {t : Table} (K : Reading C t) (m : Machine) where
  -- What the automaton sees at a test is what the machine has.
  as_seen : {i a b q x z : ℕ} {y : C.Y} (now : ℕ) (P : ℕ → ℕ → C.Y → Type 0) → at i a b q x y z ≡ seen K m now → P b q y →
      P m.polled m.state (K.shown m.entry m.regions now)
  as_seen {b = b} {q = q} {y = y} now P e h =
      let b_is : m.polled ≡ b = cc in
      let q_is : m.state ≡ q = cc in
      let y_is : K.shown m.entry m.regions now ≡ y = cc in
      rw (b_is, q_is, y_is) h

  tested : (now : ℕ) (c : Configuration C) → m.phase ≡ 1 → (x : Rule) → rule t m now ≡ x → c ≡ in_the_phase K (2 + verdict_by x) m now →
      Fits K m (Test now (verdict_by x)) c
  unfolding verdict
  tested now c one x is leads =
      record { in_phase = rw one; is_settled = refl; agreed = eq-eqb (verdict_by x) _ (ap verdict_by (sym is)); leads = rw is leads }

  module _ (l : m.phase < 4) where
    changed : (now input : ℕ) (c : Configuration C) → c ≡ seen K (after t m (Change now input)) now → Fits K m (Change now input) c
    changed now input c leads = record { in_phase = (every_phase m.phase l).0; is_settled = refl; agreed = refl; leads = leads }

    pub fits : (r : Record) (c c' : Configuration C) → Edge C t c r c' → c ≡ seen K m (time_of r) → Fits K m r c'
    fits r c c' (ta_1 {a = a} {c = input} {time = now} another) e =
        let present : m.input ≡ a = cc in
        changed now input c' (rw (sym (change_counts m now input (λ same. another (same ∙ present))), sub_self now) (cc))
    fits r c c' (repeat {a = a} {time = now}) e =
        let same : a ≡ m.input = cc in
        changed now a c' (rw (sym (repeat_leaves m now a same)) (cc))
    fits r c c' (ta_2 {a = a} {x = x} {z = z} {time = now} x_positive z_positive) e =
        let zero : m.phase ≡ 0 = cc in
        let x_is : x ≡ now - m.change = cc in
        let z_is : z ≡ now - m.start = cc in
        record {
          in_phase = rw zero;
          is_settled = rw (lt-ltb m.change now (omega arith), lt-ltb m.start now (omega arith));
          agreed = eq-eqb a m.input (cc);
          leads = cc;
        }
    fits r c c' (ta_3 {time = now} opens) e = tested now c' (cc) Running ((K.rules m now).0.1 (as_seen now C.Open-3 e opens)) (cc)
    fits r c c' (ta_4 {time = now} opens) e = tested now c' (cc) Passed ((K.rules m now).1.1 (as_seen now C.Open-4 e opens)) (cc)
    fits r c c' (ta_5 {time = now} opens) e = tested now c' (cc) NoHold ((K.rules m now).2.1 (as_seen now C.Open-5 e opens)) (cc)
    fits r c c' (ta_6 {q = q} {time = now}) e =
        let two : m.phase ≡ 2 = cc in
        let same = state_kept t m two in
        record {
          in_phase = rw two;
          is_settled = refl;
          agreed = eq-eqb q (state_after t m) (cc);
          leads = rw (entry_kept t m same now, regions_kept t m same now, same, sub_self now) (cc);
        }
    fits r c c' (ta_7 {q = q} {time = now} loops) e =
        let three : m.phase ≡ 3 = cc in
        let same : state_after t m ≡ m.state = cc (state_next t m three) in
        record {
          in_phase = rw three;
          is_settled = refl;
          agreed = eq-eqb q (state_after t m) (cc);
          leads = rw (entry_kept t m same now, regions_kept t m same now, same, sub_self now) (cc);
        }
    fits r c c' (ta_8 {q = q} {p = p} {time = now} moves another) e =
        let three : m.phase ≡ 3 = cc in
        let from : m.state ≡ q = cc in
        let to : state_after t m ≡ p = cc (state_next t m three) in
        record {
          in_phase = rw three;
          is_settled = refl;
          agreed = eq-eqb p (state_after t m) (sym to);
          leads = rw (entry_moved t m (λ same. another (sym to ∙ same ∙ from)) now, K.moves m now, to, sub_self now) (cc);
        }
    fits r c c' end e = record { in_phase = (every_phase m.phase l).1; is_settled = refl; agreed = refl; leads = e }
