-- What is owed for several moves, with slices for the sums and for the path.
use mathlib.Core.Path.{◌≡◌, refl, sym, ap, ◌∙◌}
use mathlib.Core.Bool.{Bool, true, false, not}
use mathlib.Core.List.{List, [], ◌∷◌}
use Prim.Native.Nat.{ℕ, ◌-◌, ◌*◌, ◌^◌, ◌<◌, ◌≤◌}
use native.Mathlib.Nat.{mul-le-mul}
use native.Mathlib.Omega.{arith}
use borrow.Author.Tests.{ltb-true}
use lib.ListN.{length}
use Rattle.std.specs.Prelude.{Ok, Err, if◌then◌else◌}
use Rattle.wire.specs.Choice.{◌<?◌, ◌=?◌, ◌or◌}
use Rattle.wire.specs.Reply.{Reply, gives, refuses}
use Rattle.table.specs.declared.Table.{Table}
use Rattle.table.specs.Table.{WellFormed}
use Rattle.table.specs.Check.{table_in}
use Rattle.table.proofs.Under.{under_either}
use Rattle.table.proofs.WellFormed.{well_formed}
use Rattle.reaction.specs.Reaction.{first_leaving, for_holds, weight}
use Rattle.moves.specs.declared.Refusal.{Refusal}
use Rattle.moves.specs.declared.Refusal.TheVariants as why
use Rattle.moves.specs.declared.Reaction.{Reaction}
use Rattle.moves.specs.Answer.{Judged, moves_refusal, moves_ruled, judged_reply, judged_passes?, reply_of}
use Rattle.moves.specs.Moves.{next_times, judge, judge_of, reaction_over, sums_over, path_over, moves_of}
use Rattle.moves.proofs.Fitting.{fits}
use Rattle.moves.proofs.Short.{worst_short}
use Rattle.moves.proofs.Judges.{sums_kept, path_kept, reacts, sums_written, path_written}
use Rattle.krossvil.specs.Host.{code_of, answer_after, moves_told, moves_sums, moves_path}
use Rattle.krossvil.specs.Small.{Fits}
use Rattle.krossvil.proofs.Refusals.{fits_of}
use Rattle.krossvil.proofs.TablePlaces.{table_refuses}
use Rattle.krossvil.proofs.Outcomes.{Owed, refused, too_short, told_fits}
use Rattle.krossvil.proofs.Writers.{no_change, on_success, on_30, told_short}

-- ---- Number and place fit

pub judge_fits : (table : List ℕ) (P A n sums path : ℕ) → Fits (judged_reply (judge_of table P A n sums path))
unfolding judge_of for_holds judge
judge_fits table P A n sums path =
    under_either (λ refusal. Err (why.Table refusal)) (for_holds (Err why.HasTimers) (λ t. judge t P A n sums path)) table (λ j. Fits (judged_reply j))
    (λ e. by_kind ((table_in table).timers =? 0) (table_in table) (under (table_in table) (well_formed table e))) (λ refusal e. fits_of _ (table_refuses false table refusal e))
  where
    by_kind : (b : Bool) (t : Table) → Fits (judged_reply (judge t P A n sums path)) → Fits (judged_reply (if b then judge t P A n sums path else Err why.HasTimers))
    by_kind true t fits = fits
    by_kind false t fits = record { number = omega arith; place = omega arith }

    under : (t : Table) → WellFormed t → Fits (judged_reply (judge t P A n sums path))
    under t good =
        go (not (P <? 2 ^ t.states)) (not (A <? 2 ^ t.inputs)) (32 <? n) (first_leaving t P A <? t.states * t.inputs) refl
        ((sums <? n * t.states) or (path <? 2 * n - 1))
      where
        go : (b c d e : Bool) → (first_leaving t P A <? t.states * t.inputs) ≡ e → (f : Bool) →
            Fits (judged_reply (if b then Err why.UnknownState else if c then Err why.UnknownInput else if d then Err why.TooManyMoves
            else if e then Err (why.LeavesStates (first_leaving t P A)) else if f then Err why.NoRoom else Ok tt))
        go true c d e is f = record { number = omega arith; place = omega arith }
        go false true d e is f = record { number = omega arith; place = omega arith }
        go false false true e is f = record { number = omega arith; place = omega arith }
        go false false false true is f =
            let many : t.states * t.inputs ≤ 1024 = mul-le-mul good.states.1 good.inputs.1 in
            let low = ltb-true (first_leaving t P A) (t.states * t.inputs) is in
            record { number = omega arith; place = omega arith }
        go false false false false is true = record { number = omega arith; place = omega arith }
        go false false false false is false = record { number = omega arith; place = omega arith }

-- ---- What is owed

module _ (s : List ℕ) (P A n : ℕ) (sums path answer : List ℕ) where
  abbrev Told : Reply
  Told = moves_told s P A n (length sums) (length path) (length answer)

  -- The code, the answer buffer, the sums and the path.
  abbrev MovesOwed : ℕ → List ℕ → List ℕ → List ℕ → Type 0
  MovesOwed code after later walked =
      (code ≡ code_of Told) × ((after ≡ answer_after Told answer) ×
      ((later ≡ moves_sums s P A n sums (length path) (length answer)) × (walked ≡ moves_path s P A n (length sums) path (length answer))))

  module _ {x : Judged} (is : x ≡ judge_of s P A n (length sums) (length path)) {refusal : Refusal} (h : x ≡ Err refusal) where
    down : Err refusal ≡ moves_of s P A n (length sums) (length path)
    unfolding moves_of
    down = let j = sym is ∙ h in rw j refl

    pub judged_owed : (code : ℕ) → code ≡ code_of (moves_refusal refusal) → MovesOwed code answer sums path
    judged_owed code e =
        let owed = refused reply_of (moves_of s P A n (length sums) (length path)) down refl (moves_ruled refusal) answer code e in
        (owed.0, (owed.1, (no_change Told sums _ (sym (sums_kept s P A n sums path is h)), no_change Told path _ (sym (path_kept s P A n sums path is h)))))

  module _ (passed : judge_of s P A n (length sums) (length path) ≡ Ok tt) where
    abbrev reaction : Reaction
    reaction = reaction_over (table_in s) P A n

    abbrev numbers : List ℕ
    numbers = reaction.time ∷ reaction.target ∷ reaction.length ∷ []

    pub length_small : {r : Reaction} → r ≡ reaction → r.length ≤ 65
    unfolding reaction_over
    length_small is =
        let f = fits s P A n (length sums) (length path) (ap judged_passes? passed) in
        rw is (omega (arith, worst_short (table_in s) P A (next_times (table_in s) P A n) (weight (table_in s) A) n, f.few))

    replies : gives numbers ≡ reply_of (moves_of s P A n (length sums) (length path))
    replies = ap reply_of (reacts s P A n sums path refl passed refl)

    pub short_owed : length answer < 12 → (code : ℕ) → code ≡ code_of (refuses 30 0) → MovesOwed code answer sums path
    short_owed low code e =
        let owed = rw replies at (too_short numbers answer code low e) in
        let thirty = rw replies at (told_short numbers (length answer) low false) in
        (owed.0, (owed.1, (rw thirty (on_30 sums _), rw thirty (on_30 path _))))

    pub long_owed : 12 ≤ length answer → (r : Reaction) → r ≡ reaction →
        {later walked : List ℕ} → later ≡ sums_over (table_in s) P A n sums → walked ≡ path_over (table_in s) P A n path →
        (code : ℕ) (after : List ℕ) → Owed (gives (r.time ∷ r.target ∷ r.length ∷ [])) answer code after → MovesOwed code after later walked
    long_owed enough r is holds goes code after owed =
        let told_is = rw replies at (told_fits (gives numbers) (length answer) enough) in
        let o = rw (is, replies) at owed in
        let summed = sums_written s P A n sums path refl passed holds ∙ rw (told_is, ← replies) (on_success numbers sums _) in
        let walked = path_written s P A n sums path refl passed goes ∙ rw (told_is, ← replies) (on_success numbers path _) in
        (o.0, (o.1, (summed, walked)))
