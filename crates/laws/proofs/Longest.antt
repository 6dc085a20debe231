-- Under every table a journal of 65,531 bytes is made: of 2,730 cycles, in which every event has seven bytes.
use mathlib.Core.Path.{◌≡◌, refl, sym, ap, ◌∙◌}
use mathlib.Core.List.{List, [], ◌∷◌, ◌++◌, map}
use mathlib.Core.Bool.{true, false}
use Prim.Native.Nat.{ℕ, zero, suc, ◌+◌, ◌*◌, ◌/◌, ◌%◌, ◌<◌, ◌≤◌}
use native.Mathlib.Omega.{arith}
use borrow.Author.Tests.{lt-ltb, le-leb, ltb-true, leb-true}
use lib.ListN.{length}
use Rattle.std.specs.Prelude.{Ok}
use Rattle.wire.specs.Choice.{◌<?◌, ◌≤?◌, ◌and◌}
use Rattle.wire.specs.Encode.{Bytes, bytes32, field}
use Rattle.wire.proofs.Choice.{never, both}
use Rattle.table.specs.declared.Table.{Table}
use Rattle.table.specs.Table.{WellFormed}
use Rattle.table.specs.Check.{table_answer, table_in}
use Rattle.table.proofs.Under.{under_passes}
use Rattle.table.proofs.WellFormed.{well_formed}
use Rattle.records.specs.declared.Record.{Record}
use Rattle.records.specs.declared.Record.TheVariants.{Change, Poll, Test, Tick, End}
use Rattle.records.specs.Record.{time_of, is_end, latest}
use Rattle.records.specs.Form as form
use Rattle.records.specs.Form.{stimulus}
use Rattle.records.specs.Encode.{bytes_of, bytes_from, written_in, encode, kept, WritableRecord, Inner}
use Rattle.machine.specs.declared.Machine.{Machine}
use Rattle.machine.specs.Machine.{start, allowed, verdict, after}
use Rattle.machine.specs.Run.{Runs}
use Rattle.machine.specs.Walk.{in_table, filled}
use Rattle.machine.proofs.Steps.{taken_step, end_taken, verdict_small}
use Rattle.runtime.specs.Run.{journal_made, made_of_run, run_of}
use Rattle.machine.specs.RunsOver.{RunsOver}
use Rattle.laws.specs.Journals.{JournalOf}
use Rattle.laws.specs.Runtimes.{StimulusOf, event_for, LongestIsMade}
use Rattle.machine.proofs.RunsOver.{runs_over}
use Rattle.laws.proofs.Never28.{filled_agrees}
use Rattle.laws.proofs.Lengths.{eight_for_an_event}

-- n cycles from k on, each of one unit, with a poll, a test and a tick at its end.
unfoldable cycles : ℕ → ℕ → List Record
cycles k zero = []
cycles k (suc n) = Poll (suc k) 0 ∷ Test (suc k) 0 ∷ Tick (suc k) 0 ∷ cycles (suc k) n

cycles-length : (k n : ℕ) → length (cycles k n) ≡ 3 * n
unfolding cycles
cycles-length k zero = refl
cycles-length k (suc n) = omega (arith, cycles-length (suc k) n)

-- ---- Their bytes

data Small : List ℕ → Type 0 where
  none : Small []
  byte : {s : List ℕ} (b : ℕ) → b < 256 → Small s → Small (b ∷ s)

small_bytes : {s : List ℕ} → Small s → Bytes s
small_bytes none i = omega arith
small_bytes (byte b h more) zero = h
small_bytes (byte b h more) (suc i) = small_bytes more i

small_timed : {rest : List ℕ} (tag size time : ℕ) → tag < 256 → size < 256 → time ≤ latest → Small rest → Small (tag ∷ 0 ∷ size ∷ bytes32 time ++ rest)
small_timed tag size time h few low more =
    byte tag h (byte 0 (omega arith) (byte size few
    (byte (time / 16777216) (omega arith) (byte (time / 65536 % 256) (omega arith) (byte (time / 256 % 256) (omega arith) (byte (time % 256) (omega arith) more))))))

small_field : {rest : List ℕ} (tag time : ℕ) → tag < 256 → time ≤ latest → Small rest → Small (tag ∷ 0 ∷ 4 ∷ bytes32 time ++ rest)
small_field tag time h low more = small_timed tag 4 time h (omega arith) low more

-- So are those of every journal.
module _ (t : Table) (good : WellFormed t) where
  small_valued : {rest : List ℕ} (tag time value limit : ℕ) → tag < 256 → limit ≤ 32 → ((time ≤? latest) and (value <? limit)) ≡ true → Small rest →
      Small (tag ∷ 0 ∷ 5 ∷ bytes32 time ++ value ∷ rest)
  small_valued tag time value limit h few e more =
      let p = both (time ≤? latest) (value <? limit) e in
      small_timed tag 5 time h (omega arith) (leb-true time latest p.0) (byte value (omega (arith, ltb-true value limit p.1)) more)

  small_journal : (before : ℕ) (rs : List Record) (end : ℕ) → Inner form.journal (in_table form.journal t) before rs end →
      Small (bytes_from form.journal before (rs ++ End end ∷ []))
  unfolding bytes_from bytes_of field
  small_journal before [] end w = small_field 0x1F end (omega arith) (leb-true end latest w.in_range) none
  small_journal before (r ∷ rs) end (no_end, w, inner) = go r w.in_range no_end (small_journal (time_of r) rs end inner)
    where
      go : {rest : List ℕ} (r : Record) → in_table form.journal t r ≡ true → is_end r ≡ false → Small rest → Small (bytes_of form.journal before r ++ rest)
      go (Change time input) e other more = small_valued 0x11 time input t.inputs (omega arith) good.inputs.1 e more
      go (Poll time input) e other more = small_valued 0x12 time input t.inputs (omega arith) good.inputs.1 e more
      go (Test time verdict) e other more = small_valued 0x13 time verdict 2 (omega arith) (omega arith) e more
      go (Tick time state) e other more = small_valued 0x14 time state t.states (omega arith) good.states.1 e more
      go (End time) e other more = never (sym other)

  pub journal_bytes : (j : List ℕ) (input : ℕ) (rs : List Record) (end : ℕ) → JournalOf t j input rs end → Bytes j
  unfolding encode field
  journal_bytes j input rs end w =
      let opened = byte 0x10 (omega arith) (byte 0 (omega arith) (byte 1 (omega arith) (byte input (omega (arith, w.opens, good.inputs.1)) (small_journal 0 rs end w.inner)))) in
      rw w.is (small_bytes opened)

module _ (end : ℕ) (early : end ≤ latest) where
  small : (before k n : ℕ) → k + n ≡ end → Small (bytes_from stimulus before (cycles k n ++ End end ∷ []))
  unfolding cycles bytes_from bytes_of field
  small before k zero is = small_field 0x2F end (omega arith) early none
  small before k (suc n) is =
      let low : suc k ≤ latest = omega arith in
      let rest = small (suc k) (suc k) n (omega arith) in
      small_field 0x22 (suc k) (omega arith) low (small_field 0x23 (suc k) (omega arith) low (small_field 0x24 (suc k) (omega arith) low rest))

  bytes_length : (before k n : ℕ) → length (bytes_from stimulus before (cycles k n ++ End end ∷ [])) ≡ 7 + 21 * n
  unfolding cycles bytes_from bytes_of field
  bytes_length before k zero = refl
  bytes_length before k (suc n) = omega (arith, bytes_length (suc k) (suc k) n)

  module _ (t : Table) where
    writable : (before : ℕ) (r : Record) → time_of r ≤ latest → in_table stimulus t r ≡ true → kept stimulus r ≡ r → WritableRecord stimulus (in_table stimulus t) before r
    writable before r low in_range whole = record { in_range = in_range; whole = whole; small = omega arith; timed = refl }

    inner : (before k n : ℕ) → k + n ≡ end → Inner stimulus (in_table stimulus t) before (cycles k n) end
    unfolding cycles
    inner before k zero is = writable before (End end) early (le-leb end latest early) refl
    inner before k (suc n) is =
        let low : suc k ≤ latest = omega arith in
        let ranged = le-leb (suc k) latest low in
        let polls = writable before (Poll (suc k) 0) low ranged refl in
        let tests = writable (suc k) (Test (suc k) 0) low ranged refl in
        let ticks = writable (suc k) (Tick (suc k) 0) low ranged refl in
        (refl, polls, (refl, tests, (refl, ticks, inner (suc k) (suc k) n (omega arith))))

-- ---- Their run

-- A cycle starts, and nothing changes later.
record Ready (k : ℕ) (m : Machine) : Type 0 where
  phase_is : m.phase ≡ 0
  time_is : m.time ≡ k
  start_is : m.start ≡ k
  changed : m.change ≤ k

-- Held or free, a tick may come.
tick_allowed : (v : ℕ) → v < 2 → allowed (2 + v) 3 ≡ true
tick_allowed zero h = refl
tick_allowed (suc zero) h = refl
tick_allowed (suc (suc v)) h = absurd (let z : ⊥ = omega arith in z)

-- A cycle bound is at least one unit: the machine takes them all.
runs : (t : Table) → 1 ≤ t.bound → (end k n : ℕ) → k + n ≡ end → (m : Machine) → Ready k m →
    (taken : List Record) × (last : Machine) × (map event_for taken ≡ cycles k n ++ End end ∷ []) × Runs t m taken last
unfolding cycles filled
runs t bound end k zero is m ready =
    let ended = end_taken t m end ready.phase_is (omega (arith, ready.time_is)) (omega (arith, ready.start_is)) in
    (End end ∷ [], after t m (End end), refl, (ended, refl))
runs t bound end k (suc n) is m ready =
    let polls = filled t m (Poll (suc k) 0) in
    let m₁ = after t m polls in
    let tests = filled t m₁ (Test (suc k) 0) in
    let m₂ = after t m₁ tests in
    let ticks = filled t m₂ (Tick (suc k) 0) in
    let in_cycle : suc k ≤ m.start + t.bound = omega (arith, ready.start_is) in
    let polled = taken_step t m polls (record {
      in_order = omega (arith, ready.time_is);
      in_cycle = in_cycle;
      in_phase = rw ready.phase_is refl;
      is_settled = simp (lt-ltb m.change (suc k) (omega (arith, ready.changed)), lt-ltb m.start (suc k) (omega (arith, ready.start_is)));
      agreed = filled_agrees t m (Poll (suc k) 0);
    }) in
    let tested = taken_step t m₁ tests (record {
      in_order = omega arith;
      in_cycle = in_cycle;
      in_phase = refl;
      is_settled = refl;
      agreed = filled_agrees t m₁ (Test (suc k) 0);
    }) in
    let ticked = taken_step t m₂ ticks (record {
      in_order = omega arith;
      in_cycle = in_cycle;
      in_phase = tick_allowed (verdict t m₁ (suc k)) (verdict_small t m₁ (suc k));
      is_settled = refl;
      agreed = filled_agrees t m₂ (Tick (suc k) 0);
    }) in
    let again : Ready (suc k) (after t m₂ ticks) = record { phase_is = refl; time_is = refl; start_is = refl; changed = omega (arith, ready.changed) } in
    let rest = runs t bound end (suc k) n (omega arith) (after t m₂ ticks) again in
    (polls ∷ tests ∷ ticks ∷ rest.0, rest.1, rw rest.2 refl, (polled, (tested, (ticked, rest.3))))

-- ---- Their journal

made : (table : List ℕ) → table_answer table ≡ Ok tt → (n : ℕ) → n ≤ 2730 →
    (s : List ℕ) × (j : List ℕ) × Bytes s × (run_of table s ≡ journal_made j) × (length j ≡ 11 + 24 * n)
unfolding run_of made_of_run encode field
made table passes n few =
    let t = table_in table in
    let good = well_formed table passes in
    let early : n ≤ latest = omega arith in
    let es = cycles 0 n in
    let s = encode stimulus 0 es n in
    let st : StimulusOf t s 0 es n = record { opens = omega (arith, good.inputs.0); inner = inner n early t 0 0 n (omega arith); is = refl } in
    let ready : Ready 0 (start t.initial 0) = record { phase_is = refl; time_is = refl; start_is = refl; changed = omega arith } in
    let r = runs t good.bound.0 n 0 n (omega arith) (start t.initial 0) ready in
    let over : RunsOver stimulus t s 0 r.0 r.1 = record {
      short = omega (arith, bytes_length n early 0 0 n);
      said = es;
      end = n;
      written = st;
      says = r.2;
      runs = r.3;
    } in
    let j = written_in form.journal 0 r.0 in
    let through = runs_over stimulus t s 0 r.0 r.1 over in
    let is : run_of table s ≡ journal_made j = under_passes _ _ table passes ∙ ap made_of_run through in
    let bytes = small_bytes (byte 0x20 (omega arith) (byte 0 (omega arith) (byte 1 (omega arith) (byte 0 (omega arith) (small n early 0 0 n (omega arith)))))) in
    (s, j, bytes, is, omega (arith, eight_for_an_event table s j is 0 es n st, cycles-length 0 n))

pub longest_is_made : LongestIsMade
longest_is_made table passes = made table passes 2730 (omega arith)
