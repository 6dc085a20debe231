-- The counts over records, with one record more.
use mathlib.Core.Path.{◌≡◌, refl, sym, ap, ◌∙◌}
use mathlib.Core.List.{List, [], ◌∷◌, ◌++◌}
use mathlib.Core.Bool.{Bool, true, false}
use Prim.Native.Nat.{ℕ, ◌+◌, ◌≤◌, max}
use native.Mathlib.Omega.{arith}
use borrow.Author.Tests.{eqb-true}
use lib.ListN.{length}
use Rattle.std.specs.Prelude.{if◌then◌else◌, Ok}
use Rattle.wire.specs.Choice.{◌=?◌}
use Rattle.table.specs.declared.Table.{Table}
use Rattle.records.specs.declared.Record.{Record}
use Rattle.records.specs.declared.Record.TheVariants.{Change, Poll, Test, Tick, End}
use Rattle.machine.specs.declared.Machine.{Machine}
use Rattle.machine.specs.Machine.{left, state_after, after, step}
use Rattle.records.specs.Record.{is_test}
use Rattle.machine.specs.Most.{number_of_record}
use Rattle.machine.specs.Run.{Runs, ticks, ticks_of, state_from, moves, moves_from, most_left}
use Rattle.machine.proofs.Most.{kept, most_more}
use Rattle.machine.proofs.Steps.{Taken, step_taken}

-- The state that a taken record leaves is the one that it names.
state_named : (t : Table) (m : Machine) (r : Record) → Taken t m r → (after t m r).state ≡ state_from m.state r
state_named t m (Change time input) h = refl
state_named t m (Poll time input) h = refl
state_named t m (Test time verdict) h = refl
state_named t m (Tick time state) h = sym (eqb-true state (state_after t m) h.agreed)
state_named t m (End time) h = refl

pub state_from_lem : (t : Table) (m : Machine) (r : Record) (m' : Machine) → step t m r ≡ Ok m' → m'.state ≡ state_from m.state r
state_from_lem t m r m' e = let s = step_taken t m r m' e in ap (λ x. x.state) s.1 ∙ state_named t m r s.0

pub ticks_more : (rs : List Record) (r : Record) → ticks_of (rs ++ r ∷ []) ≡ ticks_of rs + ticks r
unfolding ticks_of
ticks_more [] r = omega arith
ticks_more (x ∷ rs) r = omega (arith, ticks_more rs r)

pub moves_more : (t : Table) (m m' : Machine) (rs : List Record) (r : Record) → Runs t m rs m' →
    moves_from m.state (rs ++ r ∷ []) ≡ moves_from m.state rs + moves m'.state r
unfolding moves_from
moves_more t m m' [] r same = rw same (omega arith)
moves_more t m m' (x ∷ rs) r (taken, more) =
    let first = state_from_lem t m x (after t m x) taken in
    let rest = moves_more t (after t m x) m' rs r more in
    omega (arith, rw first at rest)

kept_is : (t : Table) (m m' : Machine) (rs : List Record) → Runs t m rs m' → kept (after t) is_test (left t) m rs ≡ m'
kept_is t m m' [] same = same
kept_is t m m' (r ∷ rs) (taken, more) = kept_is t (after t m r) m' rs more

pub left_more : (t : Table) (m m' : Machine) (rs : List Record) (r : Record) → Runs t m rs m' →
    most_left t m (rs ++ r ∷ []) ≡ max (most_left t m rs) (number_of_record (after t) is_test (left t) m' r)
left_more t m m' rs r runs =
    most_more (after t) is_test (left t) m rs r ∙ ap (λ x. max (most_left t m rs) (number_of_record (after t) is_test (left t) x r)) (kept_is t m m' rs runs)

one_tick : (r : Record) → ticks r ≤ 1
one_tick (Change time input) = omega arith
one_tick (Poll time input) = omega arith
one_tick (Test time verdict) = omega arith
one_tick (Tick time state) = omega arith
one_tick (End time) = omega arith

one_move : (q : ℕ) (r : Record) → moves q r ≤ 1
one_move q r = go (state_from q r =? q)
  where
    go : (b : Bool) → (if b then 0 else 1) ≤ 1
    go true = omega arith
    go false = omega arith

-- No more ticks and no more moves than records.
pub few_ticks : (rs : List Record) → ticks_of rs ≤ length rs
unfolding ticks_of
few_ticks [] = omega arith
few_ticks (r ∷ rs) = omega (arith, one_tick r, few_ticks rs)

pub few_moves : (q : ℕ) (rs : List Record) → moves_from q rs ≤ length rs
unfolding moves_from
few_moves q [] = omega arith
few_moves q (r ∷ rs) = omega (arith, one_move q r, few_moves (state_from q r) rs)
