-- What the calculator for several moves tells, as specs/Moves states it.
use mathlib.Core.Path.{◌≡◌, refl, sym, ap}
use mathlib.Core.Bool.{true}
use mathlib.Core.List.{List}
use Prim.Native.Nat.{ℕ, ◌+◌, ◌*◌}
use lib.Arith.{digits_lt}
use lib.ListN.{length, drop, get_or-append}
use lib.Seq.{take-append_seam}
use Rattle.std.specs.Prelude.{Ok, Err}
use Rattle.wire.proofs.Apart.{apart}
use Rattle.table.specs.declared.Table.{Table}
use Rattle.table.specs.Check.{table_in}
use Rattle.reaction.specs.Reaction.{weight}
use Rattle.reaction.proofs.Meaning.{stays}
use Rattle.moves.specs.declared.Reaction.{Reaction}
use Rattle.moves.specs.Answer.{Judged, judged_passes?, judged_then}
use Rattle.moves.specs.Moves.{next_times, rows, largest_sum, judge_of, reaction_over, sums_over, path_over, moves_of, sums_after, path_after}
use Rattle.laws.specs.Moves.{Told, MovesTold}
use Rattle.laws.proofs.Rounds.{weight_positive}
use Rattle.laws.proofs.Paths.{sums_are_largest, largest_is_of_all, written_is_worst}
use Rattle.laws.proofs.Targets.{target_is, no_longer}
use Rattle.moves.proofs.Fitting.{Fits, fits}
use Rattle.moves.proofs.AllRows.{length-rows, row_at}

-- ---- What is told

module _ {t : Table} {P A n : ℕ} {room room' : ℕ} (ok : Fits t P A n room room') (sums path : List ℕ) where
  told : Told t P A n (reaction_over t P A n) (sums_over t P A n sums) (path_over t P A n path)
  unfolding reaction_over sums_over path_over
  told =
      let N = next_times t P A n in
      let all = ok.all in
      let inside = stays all ok.search in
      let w = weight t A in
      let some = weight_positive all in
      let written = written_is_worst t all.table P A N w some all.states all.inputs n in
      record {
        table = all.table;
        no_timers = ok.no_timers;
        states = all.states;
        inputs = all.inputs;
        moves = ok.few;
        inside = inside;
        target = target_is all n;
        no_longer = no_longer all inside n;
        time = (largest_sum t P A N w n, largest_is_of_all t all.table P A N w some all.states all.inputs n, refl);
        each_sum = λ row q h l.
            let e = get_or-append (rows t P A N w n) (drop (n * t.states) sums) 0 (row * t.states + q) (rw (length-rows t P A N w n) (digits_lt h l)) in
            rw (e, row_at t P A N w n row q h l) (sums_are_largest t all.table P A N w some all.states all.inputs (row + 1) q l);
        worst = rw take-append_seam written.0;
        path_sum = rw take-append_seam (ap (λ sum. t.bound + sum) (sym written.1));
      }

-- ---- The entry

-- Where it answers, nothing was turned down.
module _ (s : List ℕ) (P A n : ℕ) (sums path : ℕ) where
  pub answered : (r : Reaction) → moves_of s P A n sums path ≡ Ok r → (judged_passes? (judge_of s P A n sums path) ≡ true) × (r ≡ reaction_over (table_in s) P A n)
  unfolding moves_of
  answered r e = go (judge_of s P A n sums path) e
    where
      go : (j : Judged) → judged_then j (reaction_over (table_in s) P A n) ≡ Ok r → (judged_passes? j ≡ true) × (r ≡ reaction_over (table_in s) P A n)
      go (Ok passed) e = (refl, cc)
      go (Err refusal) e = apart cc

pub moves_told : MovesTold
unfolding sums_after path_after
moves_told s P A n sums path r e =
    let answer = answered s P A n (length sums) (length path) r e in
    rw (answer.0, answer.1) (told (fits s P A n (length sums) (length path) answer.0) sums path)
