-- What `turn` answers, as the loops over records see it: a refusal is the machine's, and what was taken leads on or is the end.
use mathlib.Core.Path.{◌≡◌, refl, sym, ap, ◌∙◌}
use Rattle.std.specs.Prelude.{Ok, Err}
use Rattle.wire.proofs.Apart.{apart}
use Rattle.table.specs.declared.Table.{Table}
use Rattle.records.specs.declared.Record.{Record}
use Rattle.records.specs.declared.Refusal.{Refusal}
use Rattle.records.specs.Form.{Form}
use Rattle.machine.specs.Step.{Step}
use Rattle.machine.specs.Machine.{step}
use Rattle.machine.specs.Walk.{completed}
use Rattle.machine.specs.Turn.{refused, turned, turn}
use Rattle.turns.specs.declared.Progress.{Progress}
use Rattle.turns.specs.declared.Turned.{Turned}
use Rattle.turns.specs.Progress.{with_machine, progress_with}
use Rattle.turns.specs.Turns.{left_at, turned_to, went_to, turn_of}

module _ (F : Form) (t : Table) (p : Progress) (r : Record) where
  abbrev own : Record
  own = completed F t p.machine r

  pub turn_refused : {refusal : Refusal} → turn_of F t p r ≡ Err refusal → turn F t p.machine (Ok r) ≡ refused refusal
  unfolding turn_of turn went_to
  turn_refused {refusal} e = go (step t p.machine own) e
    where
      go : (a : Step) → went_to (progress_with t p own) own (left_at t p.machine own) a ≡ Err refusal → turned own a ≡ refused refusal
      go (Err x) f = ap refused cc
      go (Ok m) f = apart cc

  -- The machine after the record, which is that of the progress.
  pub record TookRecord (x : Turned) : Type 0 where
    pub turn_is : turn F t p.machine (Ok r) ≡ turned x.taken (Ok x.progress.machine)
    pub progress_is : x.progress ≡ with_machine (progress_with t p x.taken) x.progress.machine
    pub taken_is : x.taken ≡ own
    pub left_is : x.left ≡ left_at t p.machine x.taken

  pub turn_taken : {x : Turned} → turn_of F t p r ≡ Ok x → TookRecord x
  unfolding turn_of turn went_to
  turn_taken {x} e = go (step t p.machine own) refl e
    where
      go : (a : Step) → step t p.machine own ≡ a → went_to (progress_with t p own) own (left_at t p.machine own) a ≡ Ok x → TookRecord x
      go (Err refusal) is f = apart cc
      go (Ok m) is f =
          let same : turned_to (with_machine (progress_with t p own) m) own (left_at t p.machine own) ≡ x = cc in
          let machine : m ≡ x.progress.machine = ap (λ (y : Turned). y.progress.machine) same in
          let taken : own ≡ x.taken = ap (λ (y : Turned). y.taken) same in
          let progress : with_machine (progress_with t p own) m ≡ x.progress = ap (λ (y : Turned). y.progress) same in
          let left : left_at t p.machine own ≡ x.left = ap (λ (y : Turned). y.left) same in
          record {
            turn_is = ap (turned own) is ∙ rw (taken, machine) refl;
            progress_is = sym progress ∙ rw (taken, machine) refl;
            taken_is = sym taken;
            left_is = sym left ∙ rw taken refl;
          }
