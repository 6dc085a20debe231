-- How long the journal is that the runtime makes, as specs/Runtimes states it. That one is as long as can be is in Longest.
use mathlib.Core.Path.{◌≡◌, sym, ap, ◌∙◌}
use mathlib.Core.List.{List, [], ◌∷◌}
use Prim.Native.Nat.{ℕ}
use native.Mathlib.Omega.{arith}
use lib.ListN.{length, length-append, length-map}
use Rattle.wire.specs.Encode.{field}
use Rattle.wire.proofs.Apart.{apart}
use Rattle.table.specs.Check.{table_in}
use Rattle.table.proofs.Under.{under_either}
use Rattle.records.specs.declared.Record.TheVariants.{End}
use Rattle.records.specs.Form as form
use Rattle.runtime.specs.Run.{journal_made, made_under, run_of}
use Rattle.runtime.proofs.Lengths.{ran_lengths, journal_short}
use Rattle.laws.specs.Runtimes.{event_for, EightForAnEvent, NeverTooLong}
use Rattle.machine.proofs.RunsOver.{over_written}
use Rattle.laws.proofs.Runtimes.{wrote}

made_under_lem : (table s j : List ℕ) → run_of table s ≡ journal_made j → made_under (table_in table) s ≡ journal_made j
unfolding run_of
made_under_lem table s j =
    under_either _ _ table (λ m. m ≡ journal_made j → made_under (table_in table) s ≡ journal_made j)
    (λ passed e. e) (λ refusal is e. apart cc)

pub eight_for_an_event : EightForAnEvent
unfolding field
eight_for_an_event table s j e input es end st =
    let t = table_in table in
    let w = wrote t s j (made_under_lem table s j e) in
    let o = over_written form.stimulus t s w.input w.taken w.last input es end st w.through in
    let h = ran_lengths t s w.input w.taken w.last w.through in
    let many = sym (length-map w.taken event_for) ∙ ap length o.1 ∙ length-append es (End end ∷ []) in
    omega (arith, ap length w.is, h.of_journal 0, many)

pub never_too_long : NeverTooLong
never_too_long = journal_short
