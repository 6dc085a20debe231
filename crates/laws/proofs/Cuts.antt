-- The cut over the records before the first refusal: it moves on to every tick that ends early enough, and to nothing else.
use mathlib.Core.Path.{◌≡◌, refl, ap, ◌∙◌}
use mathlib.Core.List.{List}
use mathlib.Core.Bool.{Bool, true, false}
use mathlib.Core.Logic.{◌⊎◌, inl, inr}
use Prim.Native.Nat.{ℕ, zero, suc, ◌+◌, ◌≤◌}
use native.Mathlib.Omega.{arith}
use borrow.Author.Tests.{le-leb, leb-true}
use lib.ListN.{length}
use Rattle.std.specs.Prelude.{if◌then◌else◌, Ok, Err}
use Rattle.wire.specs.Choice.{◌<?◌, ◌≤?◌}
use Rattle.wire.proofs.Choice.{never}
use Rattle.table.specs.declared.Table.{Table}
use Rattle.records.specs.declared.Record.{Record}
use Rattle.records.specs.declared.Record.TheVariants.{Change, Poll, Test, Tick, End}
use Rattle.records.specs.declared.Refusal.TheVariants.{Misplaced}
use Rattle.records.specs.Reading.{Read}
use Rattle.records.specs.Record.{time_of, is_end, is_tick}
use Rattle.records.specs.Form.{journal}
use Rattle.records.specs.Reading.{record_at, size_of, Items, item, done, broken, nothing_after, item_of, items_from}
use Rattle.machine.specs.declared.Machine.{Machine}
use Rattle.machine.specs.Step.{Step}
use Rattle.machine.specs.Machine.{after, step}
use Rattle.machine.proofs.Steps.{step_taken}
use Rattle.salvage.specs.Salvage.{Cut, cut_at, last_cut, cut_after, cut_by, cut_over}
use Rattle.laws.specs.Salvages.{TakesTick}

-- Each item starts where the one before it ended.
abbrev pub Follows : ℕ → Items → Type 0
Follows at (item place r rest) = (place ≡ at) × Follows (at + size_of journal r) rest
Follows at done = Unit
Follows at (broken refusal place) = Unit

pub items_follow : (allows : Record → Bool) (s : List ℕ) (n at before : ℕ) → Follows at (items_from journal allows s n at before)
unfolding items_from
items_follow allows s zero at before = tt
items_follow allows s (suc n) at before = go (record_at journal allows before s at) (items_follow allows s n)
  where
    past : (at' : ℕ) (b : Bool) → Follows at' (if b then broken Misplaced at' else done)
    past at' true = tt
    past at' false = tt

    next : (r : Record) (b : Bool) → ((at' before' : ℕ) → Follows at' (items_from journal allows s n at' before')) →
        Follows (at + size_of journal r) (if b then nothing_after s (at + size_of journal r) else items_from journal allows s n (at + size_of journal r) (time_of r))
    next r true later = past (at + size_of journal r) (at + size_of journal r <? length s)
    next r false later = later (at + size_of journal r) (time_of r)

    go : (x : Read) → ((at' before' : ℕ) → Follows at' (items_from journal allows s n at' before')) → Follows at (item_of journal s at (items_from journal allows s n) x)
    go (Err refusal) later = tt
    go (Ok r) later = (refl, next r (is_end r) later)

-- A record leaves the cut, or is a tick and moves it to its own end.
moved_by : (r : Record) (ends : ℕ) (cut : Cut) →
    (cut_after r ends cut ≡ cut) ⊎ ((ends ≤ last_cut) × (is_tick r ≡ true) × (cut_after r ends cut ≡ cut_at ends (time_of r)))
unfolding cut_after
moved_by (Change time input) ends cut = inl refl
moved_by (Poll time input) ends cut = inl refl
moved_by (Test time verdict) ends cut = inl refl
moved_by (Tick time state) ends cut = go (ends ≤? last_cut) refl
  where
    go : (b : Bool) → (ends ≤? last_cut) ≡ b → let later = if b then cut_at ends time else cut in
        (later ≡ cut) ⊎ ((ends ≤ last_cut) × (◌≡◌ {A = Bool} true true) × (later ≡ cut_at ends time))
    go true e = inr (leb-true ends last_cut e, refl, refl)
    go false e = inl refl
moved_by (End time) ends cut = inl refl

-- From a cut that does not pass the record's end.
after_grows : (r : Record) (ends : ℕ) (cut : Cut) → cut.bytes ≤ ends → (cut.bytes ≤ (cut_after r ends cut).bytes) × ((cut_after r ends cut).bytes ≤ ends)
after_grows r ends cut low = go (moved_by r ends cut)
  where
    go : (cut_after r ends cut ≡ cut) ⊎ ((ends ≤ last_cut) × (is_tick r ≡ true) × (cut_after r ends cut ≡ cut_at ends (time_of r))) →
        (cut.bytes ≤ (cut_after r ends cut).bytes) × ((cut_after r ends cut).bytes ≤ ends)
    go (inl stays) = rw stays (omega arith, low)
    go (inr (early, tick, moves)) = rw moves (low, omega arith)

after_tick : (r : Record) (ends : ℕ) (cut : Cut) → is_tick r ≡ true → ends ≤ last_cut → (cut_after r ends cut).bytes ≡ ends
unfolding cut_after
after_tick (Change time input) ends cut e early = never e
after_tick (Poll time input) ends cut e early = never e
after_tick (Test time verdict) ends cut e early = never e
after_tick (Tick time state) ends cut e early = rw (le-leb ends last_cut early) refl
after_tick (End time) ends cut e early = never e

module _ (t : Table) where
  one_over : (m : Machine) (cut : Cut) (place : ℕ) (r : Record) (rest : Items) → step t m r ≡ Ok (after t m r) →
      cut_over t m cut (item place r rest) ≡ cut_over t (after t m r) (cut_after r (place + size_of journal r) cut) rest
  unfolding cut_over
  one_over m cut place r rest steps = rw steps refl

  grows : (m : Machine) (cut : Cut) (at : ℕ) (items : Items) → cut.bytes ≤ at → Follows at items → cut.bytes ≤ (cut_over t m cut items).bytes
  unfolding cut_over
  grows m cut at (item place r rest) low (here, follows) =
      go (step t m r) (λ m' h. grows m' (cut_after r (place + size_of journal r) cut) (at + size_of journal r) rest h follows)
    where
      cut' : Cut
      cut' = cut_after r (place + size_of journal r) cut

      go : (a : Step) → ((m' : Machine) → cut'.bytes ≤ at + size_of journal r → cut'.bytes ≤ (cut_over t m' cut' rest).bytes) →
          cut.bytes ≤ (cut_by a cut (λ m'. cut_over t m' cut' rest)).bytes
      go (Err refusal) later = omega arith
      go (Ok m') later =
          let moved = after_grows r (place + size_of journal r) cut (omega arith) in
          omega (arith, moved.0, later m' (omega (arith, moved.1)))
  grows m cut at done low follows = omega arith
  grows m cut at (broken refusal place) low follows = omega arith

  pub none_lost : (m : Machine) (cut : Cut) (at : ℕ) (items : Items) → cut.bytes ≤ at → Follows at items →
      (time ends : ℕ) → TakesTick t m items time ends → ends ≤ last_cut → ends ≤ (cut_over t m cut items).bytes
  none_lost m cut at (item place r rest) low (here, follows) time ends (steps, which) early =
      rw (one_over m cut place r rest steps)
      (go which (λ h more. none_lost (after t m r) (cut_after r (place + size_of journal r) cut) (at + size_of journal r) rest h follows time ends more early))
    where
      cut' : Cut
      cut' = cut_after r (place + size_of journal r) cut

      low' : cut'.bytes ≤ at + size_of journal r
      low' = let moved = after_grows r (place + size_of journal r) cut (omega arith) in omega (arith, moved.1)

      go : ((is_tick r ≡ true) × (time_of r ≡ time) × (place + size_of journal r ≡ ends)) ⊎ TakesTick t (after t m r) rest time ends →
          (cut'.bytes ≤ at + size_of journal r → TakesTick t (after t m r) rest time ends → ends ≤ (cut_over t (after t m r) cut' rest).bytes) →
          ends ≤ (cut_over t (after t m r) cut' rest).bytes
      go (inl (tick, time_is, ends_are)) later =
          let there = after_tick r (place + size_of journal r) cut tick (omega arith) in
          omega (arith, there, grows (after t m r) cut' (at + size_of journal r) rest low' follows)
      go (inr more) later = later low' more
  none_lost m cut at done low follows time ends h early = absurd h
  none_lost m cut at (broken refusal place) low follows time ends h early = absurd h

  -- It stays where it was, or moves to a tick that was taken.
  abbrev pub Last : Machine → Cut → Items → Cut → Type 0
  Last m cut items last = (last ≡ cut) ⊎ ((last.bytes ≤ last_cut) × TakesTick t m items last.time last.bytes)

  pub last_tick : (m : Machine) (cut : Cut) (items : Items) → Last m cut items (cut_over t m cut items)
  unfolding cut_over
  last_tick m cut (item place r rest) = go (step t m r) refl (λ m'. last_tick m' (cut_after r (place + size_of journal r) cut) rest)
    where
      cut' : Cut
      cut' = cut_after r (place + size_of journal r) cut

      onward : step t m r ≡ Ok (after t m r) → (last : Cut) → Last (after t m r) cut' rest last → Last m cut (item place r rest) last
      onward steps last (inr (low, more)) = inr (low, (steps, inr more))
      onward steps last (inl same) = moved (moved_by r (place + size_of journal r) cut)
        where
          moved : (cut' ≡ cut) ⊎ ((place + size_of journal r ≤ last_cut) × (is_tick r ≡ true) × (cut' ≡ cut_at (place + size_of journal r) (time_of r))) →
              Last m cut (item place r rest) last
          moved (inl stays) = inl (same ∙ stays)
          moved (inr (low, tick, is)) = rw (same ∙ is) (inr (low, (steps, inl (tick, refl, refl))))

      go : (a : Step) → step t m r ≡ a → ((m' : Machine) → Last m' cut' rest (cut_over t m' cut' rest)) →
          Last m cut (item place r rest) (cut_by a cut (λ m'. cut_over t m' cut' rest))
      go (Err refusal) e later = inl refl
      go (Ok m') e later =
          let same = (step_taken t m r m' e).1 in
          rw same (onward (e ∙ ap Ok same) (cut_over t (after t m r) cut' rest) (later (after t m r)))
  last_tick m cut done = inl refl
  last_tick m cut (broken refusal place) = inl refl
