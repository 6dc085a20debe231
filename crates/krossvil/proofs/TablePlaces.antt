-- Refusal numbers are at most 36 and places are below 2^32, so that both fit into one number of 64 bits: the table's.
use mathlib.Core.Path.{◌≡◌}
use mathlib.Core.List.{List}
use mathlib.Core.Bool.{Bool, true, false, not, ◌&&◌}
use Prim.Native.Nat.{ℕ, zero, suc, ◌+◌, ◌*◌, ◌<◌, ◌≤◌}
use native.Mathlib.Nat.{mul-le-mul}
use native.Mathlib.Omega.{arith}
use Rattle.std.specs.Prelude.{Option, Some, None, Ok, Err, if◌then◌else◌}
use Rattle.wire.specs.Choice.{◌=?◌}
use Rattle.wire.specs.Field.{field_at}
use Rattle.wire.specs.Reply.{number_in, place_in}
use Rattle.wire.specs.declared.Field.{Field}
use Rattle.table.specs.declared.Refusal.{Refusal}
use Rattle.table.specs.declared.Refusal.TheVariants as verdict
use Rattle.table.specs.declared.Counts.{Counts}
use Rattle.table.specs.Answer.{TableAnswer, table_refusal, table_ruled, reply_of, ◌or_else◌, ◌and_then◌}
use Rattle.table.specs.Entries.{entries_from}
use Rattle.table.specs.Check.{expected_field, field_answer, row_answer, below, set_answer, timer_answer, counts_answer, bound_answer, counts_in, hold_field}
use Rattle.table.specs.Check.{holds_answer, timer_sets_answer, timers_answer, timed, claimed_timers, timing_answer, entries_answer, answer_by}
use Rattle.table.proofs.Answers.{decided}
use Rattle.table.proofs.Rows.{number_known}
use Rattle.table.proofs.Stands.{counts_stand}
use Rattle.krossvil.specs.Small.{Fits}
use Rattle.krossvil.proofs.Refusals.{Refuses}

-- A table has fewer than 2,000 bytes up to its last entry.
record By (a : TableAnswer) : Type 0 where
  number : number_in (reply_of a) < 20
  place : place_in (reply_of a) ≤ 2000

passing : By (Ok tt)
passing = record { number = omega arith; place = omega arith }

by_then : (a b : TableAnswer) → By a → (a ≡ Ok tt → By b) → By (a and_then b)
unfolding ◌and_then◌
by_then a b p q = decided a (λ e. rw e (q e)) (λ refusal e. let h = rw e at p in rw e h)

by_test : (test : Bool) (r : Refusal) → By (Err r) → By (test or_else r)
unfolding ◌or_else◌
by_test true a p = passing
by_test false a p = p

by_entries : (entry : ℕ → TableAnswer) (n i : ℕ) → ((k : ℕ) → k < i + n → By (entry k)) → By (entries_from entry n i)
unfolding entries_from
by_entries entry zero i all = passing
by_entries entry (suc n) i all = by_then (entry i) _ (all i (omega arith)) (λ p. by_entries entry n (i + 1) (λ k h. all k (omega arith)))

module _ (s : List ℕ) (at tag : ℕ) (low : at ≤ 2000) where
  by_field : (size : ℕ) → By (field_answer s at tag size)
  unfolding field_answer expected_field
  by_field size = go (field_at s at)
    where
      go : (f : Option Field) → By (expected_field f at tag size)
      go None = record { number = omega arith; place = low }
      go (Some found) = by_test ((found.tag =? tag) && (found.size =? size)) (verdict.WrongTagOrLength at) (record { number = omega arith; place = low })

  by_row : (size n : ℕ) (entry : ℕ → TableAnswer) → ((k : ℕ) → k < n → By (entry k)) → By (row_answer s at tag size entry n)
  unfolding row_answer
  by_row size n entry all = by_then (field_answer s at tag size) _ (by_field size) (λ p. by_entries entry n 0 (λ k h. all k (omega arith)))

by_below : (limit : ℕ) (entry : ℕ → ℕ) (called : ℕ → Refusal) (k : ℕ) → By (Err (called k)) → By (below limit entry called k)
unfolding below
by_below limit entry called k by = by_test _ (called k) by

by_set : (old : Bool) (hold set limit place : ℕ) → place ≤ 2000 → By (set_answer old hold set limit place)
unfolding set_answer
by_set old hold set limit place low =
    by_then _ _ (by_test _ _ (record { number = omega arith; place = low })) (λ p. by_test _ _ (record { number = omega arith; place = low }))

by_timer : (length region limit place : ℕ) → place ≤ 1900 → By (timer_answer length region limit place)
unfolding timer_answer
by_timer length region limit place low =
    by_then _ _ (by_test _ _ (record { number = omega arith; place = omega arith })) (λ p.
    by_test _ _ (record { number = omega arith; place = omega arith }))

module _ (c : Counts) (s : List ℕ) (few : c.states ≤ 32) (narrow : c.inputs ≤ 32) where
  many : c.states * c.inputs ≤ 1024
  many = mul-le-mul few narrow

  by_holds : (old : Bool) → By (holds_answer old c s)
  unfolding holds_answer
  by_holds old =
      by_then _ _ (by_row s _ _ (omega (arith, many)) _ _ _ (λ k h. by_below _ _ _ k (record { number = omega arith; place = omega (arith, many) }))) (λ r.
      by_then _ _ (by_row s _ _ (omega (arith, many)) _ _ _ (λ k h. by_set _ _ _ _ _ (omega (arith, many)))) (λ u.
      by_test _ _ (record { number = omega arith; place = omega (arith, many) })))

  by_timers : (n : ℕ) → By (timers_answer c n s)
  unfolding timers_answer timer_sets_answer
  by_timers n =
      by_then _ _ (by_test _ _ (record { number = omega arith; place = omega (arith, many) })) (λ p.
      let four = (number_known n (hold_field c) p).1 in
      let rows : c.states * n ≤ 128 = mul-le-mul few four in
      by_then _ _ (by_row s _ _ (omega (arith, many)) _ _ _ (λ k h. by_timer _ _ _ _ (omega (arith, many)))) (λ r.
      by_then _ _ (by_row s _ _ (omega (arith, many)) _ _ _ (λ k h. by_below _ _ _ k (record { number = omega arith; place = omega (arith, many) }))) (λ u.
      by_test _ _ (record { number = omega arith; place = omega (arith, many) }))))

  by_timing : (old : Bool) → By (timing_answer old c s)
  unfolding timing_answer
  by_timing old = go (not old && timed c s)
    where
      go : (b : Bool) → By (if b then timers_answer c (claimed_timers c s) s else holds_answer old c s)
      go true = by_timers (claimed_timers c s)
      go false = by_holds old

  by_all : (old : Bool) → By (entries_answer old c s)
  unfolding entries_answer
  by_all old =
      by_then _ _ (by_row s _ _ (omega arith) _ _ _ (λ k h. by_below _ _ _ k (record { number = omega arith; place = omega arith }))) (λ p.
      by_then _ _ (by_row s _ _ (omega arith) _ _ _ (λ k h. by_below _ _ _ k (record { number = omega arith; place = omega (arith, many) }))) (λ q.
      by_timing old))

by_table : (old : Bool) (s : List ℕ) → By (answer_by old s)
unfolding answer_by counts_answer bound_answer
by_table old s =
    by_then (counts_answer s) _
    (by_then _ _ (by_field s 0 0x01 (omega arith) 4) (λ p. by_test _ _ (record { number = omega arith; place = omega arith })))
    (λ p.
    let fit = (counts_stand s p).1 in
    by_then _ _
    (by_then _ _ (by_field s 7 0x02 (omega arith) 4) (λ q. by_test _ _ (record { number = omega arith; place = omega arith })))
    (λ q. by_all (counts_in s) s fit.states.1 fit.inputs.1 old))

pub table_low : (old : Bool) (s : List ℕ) → number_in (reply_of (answer_by old s)) < 20
table_low old s = (by_table old s).number

pub table_fits : (old : Bool) (s : List ℕ) → Fits (reply_of (answer_by old s))
table_fits old s =
    let by = by_table old s in
    record { number = omega (arith, by.number); place = omega (arith, by.place) }

-- A table that is turned down.
pub table_refuses : (old : Bool) (s : List ℕ) (refusal : Refusal) → answer_by old s ≡ Err refusal → Refuses (table_refusal refusal)
table_refuses old s refusal e = record { ruled = table_ruled refusal; place = (rw e at (table_fits old s)).place }
