-- The machine accepts exactly the automaton's runs, whichever clocks its tests look at.
use mathlib.Core.Path.{◌≡◌, refl, sym, ap}
use mathlib.Core.Logic.{◌↔◌}
use mathlib.Core.List.{List, [], ◌∷◌}
use Prim.Native.Nat.{ℕ, ◌+◌, ◌-◌, ◌<◌, ◌≤◌}
use native.Mathlib.Omega.{arith}
use Rattle.table.specs.declared.Table.{Table}
use Rattle.machine.specs.declared.Regions.{Regions}
use Rattle.machine.specs.declared.Machine.{Machine}
use Rattle.records.specs.declared.Record.{Record}
use Rattle.records.specs.declared.Record.TheVariants.{Change, Poll, Test, Tick, End}
use Rattle.records.specs.Record.{time_of}
use Rattle.machine.specs.Machine.{start, entry_into, verdict, after}
use Rattle.machine.specs.Run.{Runs}
use Rattle.machine.proofs.Before.{time_after, entry_before, region_before}
use Rattle.machine.proofs.Steps.{Taken, taken_step, verdict_small}
use Rattle.runs.specs.Accepted.{Accepted}
use Rattle.runs.specs.Automaton.{Clocks, Configuration, at, later, Edge, Run, MachineIsAutomaton}
use Rattle.runs.proofs.Records.{first_entry, first_taken, change_before}
use Rattle.runs.proofs.Clocks.{Reading, reading}
use Rattle.runs.proofs.Edges.{seen, edge, fits}

-- The phase is one of the four, and no instant is later than now.
record Sound (phase change entry start now : ℕ) (regions : Regions) : Type 0 where
  phase_is : phase < 4
  change_past : change ≤ now
  entry_past : entry ≤ now
  start_past : start ≤ now
  regions_past : (k : ℕ) → k < 4 → entry_into regions k ≤ now

in_phase : {phase change entry start now : ℕ} {regions : Regions} (p : ℕ) → p < 4 → Sound phase change entry start now regions →
    Sound p change entry start now regions
in_phase p l s = record {
  phase_is = l;
  change_past = s.change_past;
  entry_past = s.entry_past;
  start_past = s.start_past;
  regions_past = s.regions_past;
}

abbrev SoundAt : Machine → ℕ → Type 0
SoundAt m now = Sound m.phase m.change m.entry m.start now m.regions

sound_after : (t : Table) (m : Machine) (r : Record) → SoundAt m (time_of r) → SoundAt (after t m r) (time_of r)
sound_after t m (Change now input) s = record {
  phase_is = s.phase_is;
  change_past = change_before m now input s.change_past;
  entry_past = s.entry_past;
  start_past = s.start_past;
  regions_past = s.regions_past;
}
sound_after t m (Poll now input) s = in_phase 1 (omega arith) s
sound_after t m (Test now v) s = in_phase (2 + verdict t m now) (omega (arith, verdict_small t m now)) s
sound_after t m (Tick now q) s = record {
  phase_is = omega arith;
  change_past = s.change_past;
  entry_past = entry_before t m now s.entry_past;
  start_past = omega arith;
  regions_past = λ k l. region_before t m now k l (s.regions_past k l);
}
sound_after t m (End now) s = s

sound_next : (t : Table) (m : Machine) (r : Record) → SoundAt m m.time → m.time ≤ time_of r → SoundAt (after t m r) (after t m r).time
sound_next t m r s l = rw (time_after t m r) (sound_after t m r (record {
  phase_is = s.phase_is;
  change_past = omega (arith, s.change_past);
  entry_past = omega (arith, s.entry_past);
  start_past = omega (arith, s.start_past);
  regions_past = λ k small. omega (arith, s.regions_past k small);
}))

module _ {C : Clocks} {t : Table} (K : Reading C t) where
  waited : (m : Machine) (r : Record) → SoundAt m m.time → (d : ℕ) → time_of r ≡ m.time + d → later d (seen K m m.time) ≡ seen K m (time_of r)
  waited m r s d e =
      let x : m.time - m.change + d ≡ time_of r - m.change = omega (arith, s.change_past) in
      let y = K.passes m.entry m.regions m.time d s.entry_past s.regions_past in
      let z : m.time - m.start + d ≡ time_of r - m.start = omega (arith, s.start_past) in
      cc

  to_run : (rs : List Record) (m last : Machine) → SoundAt m m.time → Runs t m rs last →
      Run C t m.time (seen K m m.time) rs last.time
  to_run [] m last s run = ap (λ (n : Machine). n.time) run
  to_run (r ∷ rs) m last s run =
      let takes = first_taken t m r rs last run in
      let d : ℕ = time_of r - m.time in
      let e : time_of r ≡ m.time + d = omega (arith, takes.in_order) in
      let leads : Edge C t (later d (seen K m m.time)) r (seen K (after t m r) (time_of r)) = rw (waited m r s d e) (edge K m r takes) in
      let rest = to_run rs (after t m r) last (sound_next t m r s takes.in_order) run.1 in (
        seen K (after t m r) (time_of r),
        record { ticks = d; time = e; invariant = omega (arith, takes.in_order, takes.in_cycle, s.start_past); edge = leads },
        rw (time_after t m r) at rest,
      )

  from_run : (rs : List Record) (m : Machine) (T : ℕ) → SoundAt m m.time → Run C t m.time (seen K m m.time) rs T →
      (last : Machine) × Runs t m rs last × (last.time ≡ T)
  from_run [] m T s run = (m, refl, run)
  from_run (r ∷ rs) m T s run =
      let go = run.1 in
      let e = go.time in
      let f = fits K m s.phase_is r _ run.0 go.edge (waited m r s go.ticks e) in
      let order : m.time ≤ time_of r = omega arith in
      let cycle : time_of r ≤ m.start + t.bound = omega (arith, go.invariant, s.start_past) in
      let facts : Taken t m r = record { in_order = order; in_cycle = cycle; in_phase = f.in_phase; is_settled = f.is_settled; agreed = f.agreed } in
      let takes = taken_step t m r facts in
      let m' = after t m r in
      let onwards : Run C t m'.time (seen K m' m'.time) rs T = rw (time_after t m r) (rw f.leads at run.2) in
      let rest = from_run rs m' T (sound_next t m r s order) onwards in
      (rest.0, (takes, rest.1), rest.2)

  from_first : (input : ℕ) (rs : List Record) (T : ℕ) (c : Configuration C) → c ≡ seen K (start t.initial input) 0 →
      Accepted t input rs T ↔ Run C t 0 c rs T
  from_first input rs T c first = rw first (
    λ accepted. rw accepted.ends at (to_run rs _ accepted.last sound accepted.runs),
    λ run. let r = from_run rs _ T sound run in record { last = r.0; runs = r.1; ends = r.2 },
  )
    where
      sound : SoundAt (start t.initial input) 0
      sound = record {
        phase_is = omega arith;
        change_past = omega arith;
        entry_past = omega arith;
        start_past = omega arith;
        regions_past = λ k l. omega (arith, first_entry k l);
      }

pub machine_is_automaton : MachineIsAutomaton
machine_is_automaton t good input rs T =
    let K = reading good in
    from_first K input rs T _ (ap (λ y. at 0 input input t.initial 0 y 0) (sym K.first))
