-- Along the records of a run, to the machine that slot k shows.
use mathlib.Core.Path.{◌≡◌, refl, ap, ◌∙◌}
use mathlib.Core.Logic.{⊎_elim}
use mathlib.Core.List.{List, [], ◌∷◌}
use Prim.Native.Nat.{ℕ, ◌<◌, ◌≤◌}
use native.Mathlib.Omega.{arith}
use borrow.Author.Tests.{le-leb, lt-leb}
use Rattle.std.proofs.lemmas.Bool.{cases_lt}
use Rattle.table.specs.declared.Table.{Table}
use Rattle.machine.specs.declared.Machine.{Machine}
use Rattle.records.specs.declared.Record.{Record}
use Rattle.records.specs.Record.{time_of}
use Rattle.machine.specs.Machine.{start, after}
use Rattle.machine.specs.Run.{Runs}
use Rattle.machine.proofs.Before.{time_after}
use Rattle.machine.proofs.Steps.{Taken}
use Rattle.runs.specs.Accepted.{Accepted}
use Rattle.runs.specs.Slots.{slot}
use Rattle.runs.proofs.Records.{first_taken}
use Rattle.runs.proofs.History.{History, at_first, until, onward}

module _ (t : Table) (k : ℕ) where
  -- Times never fall: from the first record past k on, none counts.
  pub slot_before : (rs : List Record) (r : Record) (m shown last : Machine) → Runs t m (r ∷ rs) last → k < time_of r → slot t shown (r ∷ rs) k ≡ shown
  unfolding slot
  slot_before [] r m shown last run past = rw lt-leb
  slot_before (r' ∷ rs) r m shown last run past =
      let taken = first_taken t (after t m r) r' rs last run.1 in
      rw (lt-leb (time_of r) k past) (slot_before rs r' (after t m r) shown last run.1 (omega (arith, time_after t m r, taken.in_order)))

  pub slot-after : (rs : List Record) (r : Record) (m : Machine) → time_of r ≤ k → slot t m (r ∷ rs) k ≡ slot t (after t m r) rs k
  unfolding slot
  slot-after rs r m l = rw le-leb

-- A run goes on from m by these records: the slots from m's time on are theirs, and m has its history.
pub record Along (t : Table) (slots : ℕ → Machine) (m : Machine) (rs : List Record) (last : Machine) : Type 0 where
  pub runs : Runs t m rs last
  pub shows : (k : ℕ) → m.time ≤ k → slots k ≡ slot t m rs k
  pub history : History t slots m m.time

pub from_start : {t : Table} {input : ℕ} {rs : List Record} {T : ℕ} (accepted : Accepted t input rs T) →
    Along t (slot t (start t.initial input) rs) (start t.initial input) rs accepted.last
from_start {t} {input} accepted = record { runs = accepted.runs; shows = λ k l. refl; history = at_first t _ t.initial input }

module _ {t : Table} {slots : ℕ → Machine} {m : Machine} {r : Record} {rs : List Record} {last : Machine} (run : Along t slots m (r ∷ rs) last) where
  pub taken : Taken t m r
  taken = first_taken t m r rs last run.runs

  shows_m : (k : ℕ) → m.time ≤ k → k < time_of r → slots k ≡ m
  shows_m k l u = run.shows k l ∙ slot_before t k rs r m m last run.runs u

  history_then : History t slots m (time_of r)
  history_then = until t slots m (time_of r) taken.in_order shows_m run.history

  pub onwards : Along t slots (after t m r) rs last
  onwards = record {
    runs = run.runs.1;
    shows = λ k l.
        let past : time_of r ≤ k = omega (arith, time_after t m r) in
        run.shows k (omega (arith, taken.in_order)) ∙ slot-after t k rs r m past;
    history = rw (time_after t m r) (onward t slots m r taken history_then);
  }

-- m is the machine of slot k: its cycle has begun, and its next record is past k. `Kept` holds of it, as each record up to k keeps that.
pub record InSlot (t : Table) (slots : ℕ → Machine) (Kept : Machine → Type 0) (k : ℕ) (m : Machine) : Type 0 where
  pub begun : m.start ≤ k
  pub next : Record
  pub takes : Taken t m next
  pub past : k < time_of next
  pub history : History t slots m (time_of next)
  pub kept : Kept m

module _ (t : Table) (slots : ℕ → Machine) (Kept : Machine → Type 0) (k : ℕ)
    (keep : (m : Machine) (r : Record) → Taken t m r → History t slots m (time_of r) → time_of r ≤ k → Kept m → Kept (after t m r)) where
  pub in_slot : (rs : List Record) (m last : Machine) → Along t slots m rs last → Kept m → m.time ≤ k → k < last.time →
      InSlot t slots Kept k (slots k)
  in_slot [] m last run kept l u = absurd (omega (arith, ap (λ (n : Machine). n.time) run.runs))
  in_slot (r ∷ rs) m last run kept l u = ⊎_elim
      (λ past. rw (shows_m run k l past) (record {
        begun = omega (arith, run.history.begun);
        next = r;
        takes = taken run;
        past = past;
        history = history_then run;
        kept = kept;
      }))
      (λ now. in_slot rs (after t m r) last (onwards run) (keep m r (taken run) (history_then run) now kept) (omega (arith, time_after t m r)) u)
      (cases_lt k (time_of r))
