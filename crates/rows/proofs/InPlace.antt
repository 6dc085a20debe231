-- Where each entry of a table stands in bytes that passed, and that it stands inside them.
use mathlib.Core.Path.{◌≡◌, refl, sym}
use mathlib.Core.List.{List}
use mathlib.Core.Logic.{◌⊎◌, inl, inr, ⊎_elim}
use mathlib.Core.Bool.{false}
use Prim.Native.Nat.{ℕ, suc, ◌+◌, ◌*◌, ◌/◌, ◌<◌, ◌≤◌}
use native.Mathlib.Nat.{mul-le-mul, suc-mul}
use native.Mathlib.Omega.{arith}
use lib.ListN.{length, get_or}
use Rattle.std.specs.Prelude.{Ok, if◌then◌else◌}
use Rattle.wire.specs.Choice.{◌=?◌}
use Rattle.wire.specs.Field.{byte_at, number16_at, number32_at}
use Rattle.table.specs.Table.{output_of, next_of, hold_of, delayed_of, timer_set_of}
use Rattle.table.specs.Check.{counts_in, byte_entry, word_entry, next_field, hold_field, delayed_field, timer_set_field, timers_in}
use Rattle.table.specs.Check.{table_with, table_answer, table_in}
use Rattle.table.proofs.Values.{get_or-filled}
use Rattle.table.proofs.Rows.{row_stands}
use Rattle.table.proofs.Stands.{CountsFit, HeadStands, Readable, table_stands, timing_stands, readable}

-- A row's place is before its end.
pub row_before : (q n rows k : ℕ) → q < rows → k < n → q * n + k < rows * n
row_before q n rows k h l =
    let more : suc q * n ≤ rows * n = mul-le-mul h (omega arith) in
    omega (arith, suc-mul q n)

module _ (s : List ℕ) (e : table_answer s ≡ Ok tt) where
  pub stands : HeadStands s (counts_in s)
  stands = (table_stands false s e).0

  pub fit : CountsFit (counts_in s)
  fit = stands.counts

  read : Readable s (counts_in s) (timers_in (counts_in s) s) (if timers_in (counts_in s) s =? 0 then (counts_in s).states else 0)
  read = readable s e _ refl

  pub fifth : hold_field (counts_in s) + 3 ≤ length s
  fifth = read.fifth

  pub states_are : (table_in s).states ≡ (counts_in s).states
  unfolding table_with
  states_are = refl

  pub inputs_are : (table_in s).inputs ≡ (counts_in s).inputs
  unfolding table_with
  inputs_are = refl

  pub initial_is : (table_in s).initial ≡ (counts_in s).initial
  unfolding table_with
  initial_is = refl

  pub bound_is : (table_in s).bound ≡ number32_at s 10
  unfolding table_with
  bound_is = refl

  pub timers_are : (table_in s).timers ≡ timers_in (counts_in s) s
  unfolding table_with
  timers_are = refl

  pub few_timers : (table_in s).timers ≤ 4
  few_timers = rw timers_are read.few

  pub output_at : (q : ℕ) → q < (counts_in s).states → byte_at s (17 + q) ≡ output_of (table_in s) q
  unfolding table_with
  output_at q h = sym (get_or-filled (byte_entry s 14) (counts_in s).states 32 fit.states.1 q h)

  pub next_at : (q i at : ℕ) → q < (counts_in s).states → i < (counts_in s).inputs → at ≡ next_field (counts_in s) + 3 + (q * (counts_in s).inputs + i) →
      byte_at s at ≡ next_of (table_in s) q i
  unfolding table_with
  next_at q i at h l is =
      let few : (counts_in s).states * (counts_in s).inputs ≤ 1024 = mul-le-mul fit.states.1 fit.inputs.1 in
      rw is (sym (get_or-filled (byte_entry s (next_field (counts_in s))) ((counts_in s).states * (counts_in s).inputs) 1024 few _ (row_before q _ _ i h l)))

  -- Holds, by the fifth field's tag, or timers.
  pub kind : ((byte_at s (hold_field (counts_in s)) ≡ 5) × ((table_in s).timers ≡ 0)) ⊎
      ((byte_at s (hold_field (counts_in s)) ≡ 7) × ((table_in s).timers ≡ number16_at s (hold_field (counts_in s) + 1) / 8))
  unfolding table_with
  kind =
      ⊎_elim
      (λ holds. inl ((row_stands _ _ _ _ _ _ holds.holds).tag_is, holds.none))
      (λ found. inr ((row_stands _ _ _ _ _ _ found.1.timers).tag_is, found.1.some))
      (timing_stands s (counts_in s) false (table_stands false s e).1)

  module _ (none : (table_in s).timers ≡ 0) (q : ℕ) (h : q < (counts_in s).states) where
    holders : (if timers_in (counts_in s) s =? 0 then (counts_in s).states else 0) ≡ (counts_in s).states
    holders = rw (← timers_are, none) refl

    pub hold_room : hold_field (counts_in s) + 3 + 4 * (counts_in s).states ≤ length s
    hold_room = rw holders at read.hold (omega arith)

    pub delayed_room : delayed_field (counts_in s) + 3 + 4 * (counts_in s).states ≤ length s
    delayed_room = rw holders at read.delayed (omega arith)

    pub hold_at : (at : ℕ) → at ≡ hold_field (counts_in s) + 3 + 4 * q → number32_at s at ≡ hold_of (table_in s) q
    unfolding table_with
    hold_at at is = rw (is, holders) (sym (get_or-filled (word_entry s (hold_field (counts_in s))) (counts_in s).states 32 fit.states.1 q h))

    pub delayed_at : (at : ℕ) → at ≡ delayed_field (counts_in s) + 3 + 4 * q → number32_at s at ≡ delayed_of (table_in s) q
    unfolding table_with
    delayed_at at is = rw (is, holders) (sym (get_or-filled (word_entry s (delayed_field (counts_in s))) (counts_in s).states 32 fit.states.1 q h))

  module _ (j : ℕ) (more : j < 2 * (table_in s).timers) where
    inside : j < 2 * timers_in (counts_in s) s
    inside = rw (← timers_are) more

    pub timing_room : hold_field (counts_in s) + 3 + 4 * j + 4 ≤ length s
    timing_room = omega (arith, inside, read.timing (omega (arith, inside)))

    pub timing_at : (at : ℕ) → at ≡ hold_field (counts_in s) + 3 + 4 * j → number32_at s at ≡ get_or (table_in s).timing j 0
    unfolding table_with
    timing_at at is = rw is (sym (get_or-filled (word_entry s (hold_field (counts_in s))) (2 * timers_in (counts_in s) s) 8 (omega (arith, read.few)) j inside))

  module _ (k : ℕ) (more : k < (table_in s).timers) where
    few : k < timers_in (counts_in s) s
    few = rw (← timers_are) more

    module _ (q : ℕ) (h : q < (counts_in s).states) where
      before : q * timers_in (counts_in s) s + k < (counts_in s).states * timers_in (counts_in s) s
      before = row_before q _ _ k h few

      pub sets_room : timer_set_field (counts_in s) (timers_in (counts_in s) s) + 3 + 4 * (q * timers_in (counts_in s) s + k) + 4 ≤ length s
      sets_room = omega (arith, before, read.sets (omega (arith, before)))

      pub set_at : (at : ℕ) → at ≡ timer_set_field (counts_in s) (timers_in (counts_in s) s) + 3 + 4 * (q * timers_in (counts_in s) s + k) →
          number32_at s at ≡ timer_set_of (table_in s) k q
      unfolding table_with
      set_at at is = rw is (sym (get_or-filled (word_entry s (timer_set_field (counts_in s) (timers_in (counts_in s) s))) _ 128 read.rows _ before))
