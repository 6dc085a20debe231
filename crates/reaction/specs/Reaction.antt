-- The reaction calculator: docs/RULES.md, "Reaction times". P is a set of states and A a set of inputs, each a number.
use Rattle.std.specs.Prelude.{List, Bool, not, ℕ, zero, suc, ◌+◌, ◌*◌, ◌/◌, ◌%◌, ◌^◌, Result, Ok, Err, if◌then◌else◌}
use Rattle.wire.specs.Choice.{◌<?◌, ◌=?◌, ◌and◌}
use Rattle.sets.specs.Sets.{member, some, set_of, largest}
use Rattle.table.specs.declared.Table.{Table}
use Rattle.table.specs.Table.{next_of, hold_of, delays}
use Rattle.table.specs.Under.{under_table}
use Rattle.reaction.specs.declared.Refusal.{Refusal}
use Rattle.reaction.specs.declared.Refusal.TheVariants as why
use Rattle.reaction.specs.Answer.{ReactionAnswer, Reacts}

-- next(P, A) is every next(p, a) with p in P and a in A.
unfoldable pub next_set : Table → (P A : ℕ) → ℕ
next_set t P A =
    set_of t.states
    (λ q. some t.states (λ p. member P p and some t.inputs (λ a. member A a and (next_of t p a =? q))))

-- p is in P and not in the target.
abbrev pub off_target : (P target p : ℕ) → Bool
off_target P target p = member P p and not (member target p)

-- A weight comes from a hold where the hold is above 0 and some input of A is delayed; it is hold + 2E there, and else E.
abbrev pub comes_from_hold : (hold : ℕ) → (delayed : Bool) → Bool
comes_from_hold hold delayed = (0 <? hold) and delayed

unfoldable pub weight_of : (hold E : ℕ) → (delayed : Bool) → ℕ
weight_of hold E delayed = if comes_from_hold hold delayed then hold + 2 * E else E

-- Some input of A is delayed in p; the weight of p comes from a hold; the weight of p.
abbrev pub some_delayed : Table → (A p : ℕ) → Bool
some_delayed t A p = some t.inputs (λ a. member A a and delays t p a)

abbrev pub from_hold : Table → (A p : ℕ) → Bool
from_hold t A p = comes_from_hold (hold_of t p) (some_delayed t A p)

abbrev pub weight : Table → (A p : ℕ) → ℕ
weight t A p = weight_of (hold_of t p) t.bound (some_delayed t A p)

-- E and, on top, the largest weight of a state that is in P and not in the target; 0 if there is none.
unfoldable pub reaction_time : Table → (P A : ℕ) → ℕ
reaction_time t P A = t.bound + largest t.states (off_target P (next_set t P A)) (weight t A)

-- next(p, a) is outside P, where k is p × I + a.
abbrev pub leaves_at : Table → (P A k : ℕ) → Bool
leaves_at t P A k =
    let p = k / t.inputs in
    let a = k % t.inputs in
    member P p and member A a and not (member P (next_of t p a))

-- The first of i, i + 1, .., i + n - 1 that passes the test, or i + n.
unfoldable pub first_from : (ℕ → Bool) → (n i : ℕ) → ℕ
first_from test zero i = i
first_from test (suc n) i = if test i then i else first_from test n (i + 1)

-- The smallest such k, or Q × I.
unfoldable pub first_leaving : Table → (P A : ℕ) → ℕ
first_leaving t P A = first_from (leaves_at t P A) (t.states * t.inputs) 0

-- 9 for states, 9 for inputs, then 10.
unfoldable pub reaction_of : Table → (P A : ℕ) → ReactionAnswer
reaction_of t P A =
    if not (P <? 2 ^ t.states) then Err why.UnknownState
    else if not (A <? 2 ^ t.inputs) then Err why.UnknownInput
    else if first_leaving t P A <? t.states * t.inputs then Err (why.LeavesStates (first_leaving t P A))
    else Reacts (reaction_time t P A) (next_set t P A)

-- The calculator is for tables with holds: 14 comes before its other refusals.
unfoldable pub for_holds : {A : Type 0} → (timers : A) → (Table → A) → Table → A
for_holds timers under t = if t.timers =? 0 then under t else timers

-- What is asked is turned down by 14, 9 for states, 9 for inputs; and then by 10, or it has its target.
unfoldable pub asked_of : Table → (P A : ℕ) → Result Unit Refusal
asked_of t P A =
    for_holds (Err why.HasTimers)
    (λ t. if not (P <? 2 ^ t.states) then Err why.UnknownState else if not (A <? 2 ^ t.inputs) then Err why.UnknownInput else Ok tt) t

unfoldable pub target_of : Table → (P A : ℕ) → Result ℕ Refusal
target_of t P A = if first_leaving t P A <? t.states * t.inputs then Err (why.LeavesStates (first_leaving t P A)) else Ok (next_set t P A)

-- On the bytes of a table.
unfoldable pub react_of : List ℕ → (P A : ℕ) → ReactionAnswer
react_of s P A = under_table (λ refusal. Err (why.Table refusal)) (for_holds (Err why.HasTimers) (λ t. reaction_of t P A)) s
