-- How much room salvage needs, as specs/Salvages states it: a journal of 65,531 bytes comes back as it is.
use mathlib.Core.Path.{◌≡◌, refl, sym, ap, ◌∙◌}
use mathlib.Core.List.{List}
use Prim.Native.Nat.{ℕ, ◌<◌}
use native.Mathlib.Omega.{arith}
use borrow.Author.Tests.{lt-ltb}
use lib.ListN.{length, take}
use Rattle.std.specs.Prelude.{Ok, Err}
use Rattle.wire.specs.Encode.{Bytes, field}
use Rattle.wire.specs.Made.{answer_in}
use Rattle.table.specs.Check.{table_answer, table_in}
use Rattle.table.proofs.Under.{under_passes}
use Rattle.table.proofs.WellFormed.{well_formed}
use Rattle.records.specs.Form as form
use Rattle.records.specs.Encode.{encode}
use Rattle.journal.specs.Check.{check_in}
use Rattle.journal.proofs.Accepted.{accepted}
use Rattle.runtime.specs.Run.{run_of}
use Rattle.salvage.specs.declared.Refusal.TheVariants.{BufferTooShort}
use Rattle.laws.specs.Salvages.{salvage_answer, Salvageable, SalvageRoom}
use Rattle.laws.proofs.Runtimes.{accepted_for}
use Rattle.laws.proofs.Longest.{journal_bytes, longest_is_made}
use Rattle.laws.proofs.Salvages.{unchanged_as, by_room}

longest_needs : (table : List ℕ) → table_answer table ≡ Ok tt →
    (s : List ℕ) × Bytes s × Salvageable table s × ((buffer : List ℕ) → length buffer < 65531 → salvage_answer table s buffer ≡ Err BufferTooShort)
unfolding run_of check_in encode field answer_in
longest_needs table passes =
    let t = table_in table in
    let good = well_formed table passes in
    let m = longest_is_made table passes in
    let j = m.1 in
    let made = sym (under_passes _ _ table passes) ∙ m.3 in
    let a = accepted_for t good m.0 m.2 j made in
    let ok = accepted form.journal table j a.numbers (under_passes _ _ table passes ∙ a.accepted) in
    let same = unchanged_as table passes j ok.input ok.taken ok.last ok.through in
    let can : Salvageable table j = record {
      passes = passes;
      short = omega (arith, m.4);
      input = a.input;
      known = a.for.journal.opens;
      opens = ap (take 4) a.for.journal.is;
    } in
    (j, journal_bytes t good j a.input a.records a.end a.for.journal, can, λ buffer less. rw (same, lt-ltb (length buffer) (length j) (omega (arith, m.4))) refl)

pub salvage_room : SalvageRoom
salvage_room = record {
  enough = λ table s buffer bytes can room.
      let p = by_room table s bytes can in
      let r = p.0 in
      (r.kept, r.dropped, r.number, r.place, r.with_room buffer (omega arith));
  no_less = longest_needs;
}
