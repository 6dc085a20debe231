-- A table turned into timers judges everything as the table with holds does, as specs/AsTimers states it.
use mathlib.Core.Path.{◌≡◌, refl, sym, ap, ◌∙◌, subst}
use mathlib.Core.Logic.{◌⊎◌, inl, inr}
use mathlib.Core.List.{List, [], ◌∷◌, ◌++◌}
use mathlib.Core.Bool.{Bool, true, false, not}
use Prim.Native.Nat.{ℕ, zero, suc, ◌+◌, ◌*◌, ◌<◌, ◌≤◌}
use native.Mathlib.Nat.{mul-le-mul}
use native.Mathlib.Omega.{arith}
use borrow.Author.Tests.{ltb-true, ltb-false, eq-eqb, ne_eqb, eqb-true, eqb-false}
use lib.Arith.{digits_lt, digits_div, digits_mod}
use lib.ListN.{length, get_or}
use Rattle.std.specs.Prelude.{if◌then◌else◌, Ok, Err}
use Rattle.wire.specs.Choice.{◌<?◌, ◌=?◌}
use Rattle.wire.proofs.Choice.{never}
use Rattle.sets.proofs.Bits.{none_in_empty, single_is}
use Rattle.table.specs.declared.Table.{Table}
use Rattle.table.specs.Table.{member, hold_of, delayed_of, length_of, region_of, timer_set_of, in_region, holders, Uses, WellFormed}
use Rattle.table.specs.Entries.{values, zeros}
use Rattle.table.proofs.Values.{get_or-filled, filled_uses}
use Rattle.table.proofs.WellFormed.{retimed}
use Rattle.records.specs.declared.Record.{Record}
use Rattle.records.specs.declared.Record.TheVariants.{Change, Poll, Test, Tick, End}
use Rattle.records.specs.declared.Refusal.{Refusal}
use Rattle.records.specs.declared.Refusal.TheVariants.{Unsettled, Differs}
use Rattle.records.specs.Reading.{Opening}
use Rattle.records.specs.Form.{Form}
use Rattle.records.specs.Record.{time_of}
use Rattle.records.specs.Reading.{Items, item, done, broken, opening_of, items_of}
use Rattle.machine.specs.declared.Regions.{Regions}
use Rattle.machine.specs.declared.Machine.{Machine}
use Rattle.machine.specs.declared.Rule.{Rule}
use Rattle.machine.specs.declared.Rule.TheVariants.{Running, Passed, NoHold}
use Rattle.machine.specs.Step.{Gate, Step}
use Rattle.machine.specs.Verdict.{Watch, verdict_by, rule_of, left_of, stronger, strongest, largest_over}
use Rattle.machine.specs.Machine.{start, kind_of, settled, entry_into, state_watch, timer_watch, timer_watches, verdict, left, state_after, agrees}
use Rattle.machine.specs.Machine.{last_change, regions_after, after, gate, through, step, entered}
use Rattle.machine.specs.Most.{most}
use Rattle.machine.specs.Run.{most_left}
use Rattle.machine.specs.Walk.{in_table, filled, completed, Walk, ended, stopped, took, onwards, walk, too_long, ran_from, records_run, run_opened, run_over}
use Rattle.machine.specs.AsTimers.{holding_from, holding, state_of, timer_row, set_row, in_rows, as_timers, Alike}
use Rattle.machine.specs.Becomes.{◌regions_becomes◌}
use Rattle.machine.specs.AsTimers.{SameOverBytes, both_ran, both_too_long, both_refused, FewHolds, AsTimersJudgeAlike}
use Rattle.machine.proofs.Watches.{Some, Each, four, each_timer, some_timer, region_after, watch_idle, stronger_idle}
use Rattle.machine.proofs.Watches.{rule_by_state, left_by_state, rule_by_timers, left_by_timers, no_timer, no_regions, no_holds}

-- ---- The states with a hold

-- A number of a list.
abbrev IsIn : List ℕ → ℕ → Type 0
IsIn l p = (k : ℕ) × (k < length l) × (get_or l k 0 ≡ p)

module _ (t : Table) where
  abbrev with_first : Bool → (n q : ℕ) → List ℕ
  with_first b n q = (if b then q ∷ [] else []) ++ holding_from t n (q + 1)

  has_hold : (n q k : ℕ) → k < length (holding_from t n q) → 0 < hold_of t (get_or (holding_from t n q) k 0)
  unfolding holding_from
  has_hold zero q k l = absurd (omega arith)
  has_hold (suc n) q k l = go (0 <? hold_of t q) refl k l (has_hold n (q + 1))
    where
      go : (b : Bool) → (0 <? hold_of t q) ≡ b → (j : ℕ) → j < length (with_first b n q) →
          ((i : ℕ) → i < length (holding_from t n (q + 1)) → 0 < hold_of t (get_or (holding_from t n (q + 1)) i 0)) →
          0 < hold_of t (get_or (with_first b n q) j 0)
      go true e zero h rest = ltb-true 0 (hold_of t q) e
      go true e (suc j) h rest = rest j (omega arith)
      go false e j h rest = rest j h

  is_found : (n q p : ℕ) → q ≤ p → p < q + n → 0 < hold_of t p → IsIn (holding_from t n q) p
  unfolding holding_from
  is_found zero q p low high h = absurd (omega arith)
  is_found (suc n) q p low high h =
      go (0 <? hold_of t q) refl (q =? p) refl (λ differ. is_found n (q + 1) p (omega arith) (omega arith) h)
    where
      go : (b : Bool) → (0 <? hold_of t q) ≡ b → (c : Bool) → (q =? p) ≡ c →
          ((q ≡ p → ⊥) → IsIn (holding_from t n (q + 1)) p) → IsIn (with_first b n q) p
      go true e true f later = (0, omega arith, eqb-true q p f)
      go true e false f later = let rest = later (eqb-false q p f) in (suc rest.0, omega arith, rest.2)
      go false e true f later = let same = eqb-true q p f in absurd (omega (arith, ltb-false 0 (hold_of t q) e, rw (← same) at h))
      go false e false f later = later (eqb-false q p f)

-- ---- Watches of which each is w or holds nothing

stronger_again : (x y : Rule) → stronger x (stronger x y) ≡ stronger x y
stronger_again Running y = refl
stronger_again Passed Running = refl
stronger_again Passed Passed = refl
stronger_again Passed NoHold = refl
stronger_again NoHold y = refl

module _ (polled time : ℕ) (w : Watch) where
  abbrev told : Watch → Rule
  told = rule_of polled time

  abbrev rest_of : Watch → ℕ
  rest_of = left_of polled time

  abbrev Only : List Watch → Type 0
  Only = Each (λ x. (x ≡ w) ⊎ (x.hold ≡ 0))

  abbrev Tells : List Watch → Type 0
  Tells ws = (strongest told ws ≡ told w) × (largest_over rest_of ws ≡ rest_of w)

  -- They add nothing to w.
  beside : (ws : List Watch) → Only ws → Tells (w ∷ ws)
  unfolding strongest largest_over
  beside [] each = (stronger_idle (told w), omega arith)
  beside (x ∷ ws) (inl is, each) =
      let more = beside ws each in
      (rw is (stronger_again (told w) (strongest told ws) ∙ more.0), rw is (omega arith))
  beside (x ∷ ws) (inr none, each) =
      let idle = watch_idle polled time x none in
      let more = beside ws each in
      (rw idle.0 more.0, omega arith)

  skipped : (x : Watch) (ws : List Watch) → x.hold ≡ 0 → Tells ws → Tells (x ∷ ws)
  unfolding strongest largest_over
  skipped x ws none more = let idle = watch_idle polled time x none in (rw idle.0 more.0, omega arith)

  -- So they tell what w tells, if w is one of them or holds nothing itself.
  only : (ws : List Watch) → Only ws → Some (λ x. x ≡ w) ws ⊎ (w.hold ≡ 0) → Tells ws
  unfolding strongest largest_over
  only [] each (inl some) = absurd some
  only [] each (inr none) = let idle = watch_idle polled time w none in (sym idle.0, sym idle.1)
  only (x ∷ ws) (inl is, each) there = rw is (beside ws each)
  only (x ∷ ws) (inr none, each) (inl (inl is)) = rw is (beside ws each)
  only (x ∷ ws) (inr none, each) (inl (inr some)) = skipped x ws none (only ws each (inl some))
  only (x ∷ ws) (inr none, each) (inr idle) = skipped x ws none (only ws each (inr idle))

-- ---- Steps and walks with the same outcome

data SameStep (t : Table) : Step → Step → Type 0 where
  both_next : {m' m : Machine} → Alike t m' m → SameStep t (Ok m') (Ok m)
  both_refuse : {refusal : Refusal} → SameStep t (Err refusal) (Err refusal)

data SameWalk (t : Table) : Walk → Walk → Type 0 where
  both_ended : {taken : List Record} {last' last : Machine} → Alike t last' last → SameWalk t (ended taken last') (ended taken last)
  both_stopped : {refusal : Refusal} {place : ℕ} → SameWalk t (stopped refusal place) (stopped refusal place)

module _ (t : Table) where
  took_same : (r : Record) {w' w : Walk} → SameWalk t w' w → SameWalk t (took r w') (took r w)
  took_same r (both_ended alike) = both_ended alike
  took_same r both_stopped = both_stopped

  onwards_same : (place : ℕ) (r : Record) {a' a : Step} {go' go : Machine → Walk} → SameStep t a' a →
      ((m' m : Machine) → Alike t m' m → SameWalk t (go' m') (go m)) → SameWalk t (onwards a' place r go') (onwards a place r go)
  onwards_same place r (both_next alike) more = took_same r (more _ _ alike)
  onwards_same place r both_refuse more = both_stopped

  ran_same : (input : ℕ) {w' w : Walk} → SameWalk t w' w → SameOverBytes t (ran_from input w') (ran_from input w)
  ran_same input (both_ended alike) = both_ran alike
  ran_same input both_stopped = both_refused

  -- What holds of each machine that differs from m in its regions alone holds of one that is alike.
  by_regions : {m' m : Machine} (P : Machine → Type 0) → Alike t m' m →
      ((regions : Regions) → Alike t (m regions_becomes regions) m → P (m regions_becomes regions)) → P m'
  by_regions {m'} P alike h = subst P (sym alike.same) (h m'.regions (record { same = refl; since = alike.since }))

-- ---- The table with timers

-- An array of zeros, however much of it is used.
empty : (n : ℕ) → Uses n 32 (zeros 32)
unfolding values
empty n = let none = filled_uses (λ q. q) 0 32 (omega arith) in record { places = none.places; rest = λ q past. none.rest q (omega arith) }

nothing_at : (q : ℕ) → get_or (zeros 32) q 0 ≡ 0
nothing_at q = (empty 0).rest q (omega arith)

module _ (t : Table) (good : WellFormed t) (few : FewHolds t) where
  abbrev t' : Table
  t' = as_timers t

  abbrev timers : ℕ
  timers = length (holding t)

  -- A state with a hold is the table's, since the rest of the array is 0.
  in_table_lem : (q : ℕ) → 0 < hold_of t q → q < t.states
  in_table_lem q some = go (q <? t.states) refl
    where
      go : (b : Bool) → (q <? t.states) ≡ b → q < t.states
      go true e = ltb-true q t.states e
      go false e =
          let past : holders t ≤ q = rw (eq-eqb t.timers 0 few.no_timers) (ltb-false q t.states e) in
          absurd (omega (arith, good.hold_uses.rest q past))

  holds : (k : ℕ) → k < timers → (0 < hold_of t (state_of t k)) × (state_of t k < t.states)
  holds k l = let some = has_hold t t.states 0 k l in (some, in_table_lem (state_of t k) some)

  module _ (k : ℕ) (l : k < timers) where
    entry_is : (place : ℕ) → place < 2 → get_or t'.timing (k * 2 + place) 0 ≡ timer_row t k place
    unfolding as_timers
    entry_is place small =
        get_or-filled (in_rows 2 (timer_row t)) (2 * timers) 8 (omega arith) (k * 2 + place) (omega arith)
        ∙ (rw (digits_div k small, digits_mod k small))

    length_is : length_of t' k ≡ hold_of t (state_of t k)
    length_is = let e : 2 * k ≡ k * 2 + 0 = omega arith in rw e (entry_is 0 (omega arith))

    region_is : (q : ℕ) → in_region t' k q ≡ (q =? state_of t k)
    region_is q = let e : 2 * k + 1 ≡ k * 2 + 1 = omega arith in rw (e, entry_is 1 (omega arith)) (single_is (state_of t k) q)

    set_is : (q : ℕ) → q < t.states → timer_set_of t' k q ≡ set_row t q k
    unfolding as_timers
    set_is q low =
        get_or-filled (in_rows timers (set_row t)) (t.states * timers) 128 (mul-le-mul good.states.1 few.at_most_four) (q * timers + k) (digits_lt low l)
        ∙ (rw (digits_div q l, digits_mod q l))

  no_member : (i n : ℕ) → member 0 i ≡ true → i < n
  no_member i n is = never (sym (none_in_empty i) ∙ is)

  set_fits : (k q i : ℕ) → k < timers → q < t.states → member (timer_set_of t' k q) i ≡ true → i < t.inputs
  set_fits k q i l low is = go (state_of t k =? q) (rw (set_is k l q low) at is)
    where
      go : (b : Bool) → member (if b then delayed_of t q else 0) i ≡ true → i < t.inputs
      go true has = good.delayed q i low has
      go false has = no_member i t.inputs has

  well_formed : WellFormed t'
  unfolding as_timers
  well_formed =
      retimed t good _ _ _ _ _
      (record {
        hold = λ q low. rw (nothing_at q) (omega arith);
        delayed = λ q i low is. no_member i t.inputs (rw (nothing_at q) at is);
        not_idle = λ new q low none. nothing_at q;
        timers = few.at_most_four;
        no_timers = λ old. never old;
        length = λ k l. let hold = holds k l in rw (length_is k l) (hold.0, good.hold (state_of t k) hold.1);
        region = λ k q l is. rw (eqb-true q (state_of t k) (sym (region_is k l q) ∙ is)) (holds k l).1;
        sets = set_fits;
      })
      (empty _) (empty _) (filled_uses (in_rows 2 (timer_row t)) (2 * timers) 8 (omega arith))
      (filled_uses (in_rows timers (set_row t)) (t.states * timers) 128 (mul-le-mul good.states.1 few.at_most_four))

  has_timers : 1 ≤ t'.timers
  unfolding as_timers
  has_timers = few.at_least_one

  no_hold : (q : ℕ) → hold_of t' q ≡ 0
  no_hold = no_holds well_formed (λ none. absurd (omega (arith, has_timers)))

  no_region : (k : ℕ) → timers ≤ k → region_of t' k ≡ 0
  unfolding as_timers
  no_region k past = (no_timer well_formed k past).1

  -- ---- Two machines that are alike

  module _ (m : Machine) (regions : Regions) (alike : Alike t (m regions_becomes regions) m) where
    abbrev m' : Machine
    m' = m regions_becomes regions

    -- The timer of the present state is its hold, and no other timer holds.
    own_timer : (k : ℕ) → k < timers → m.state ≡ state_of t k → timer_watch t' m' k ≡ state_watch t m
    own_timer k l own =
        let low = rw (← own) at (holds k l).1 in
        rw (length_is k l, region_is k l, set_is k l m.state low, alike.since k l (sym own), ← own, eq-eqb m.state m.state refl) refl

    each_timer_is : (k : ℕ) → (timer_watch t' m' k ≡ state_watch t m) ⊎ ((timer_watch t' m' k).hold ≡ 0)
    each_timer_is k = go (k <? timers) refl (m.state =? state_of t k) refl
      where
        go : (b : Bool) → (k <? timers) ≡ b → (c : Bool) → (m.state =? state_of t k) ≡ c →
            (timer_watch t' m' k ≡ state_watch t m) ⊎ ((timer_watch t' m' k).hold ≡ 0)
        go true e true f = inl (own_timer k (ltb-true k timers e) (eqb-true m.state (state_of t k) f))
        go true e false f = inr (rw (region_is k (ltb-true k timers e) m.state, f) refl)
        go false e c f = inr (rw (no_region k (ltb-false k timers e), none_in_empty m.state) refl)

    own_timer_there : Some (λ w. w ≡ state_watch t m) (timer_watches t' m') ⊎ (hold_of t m.state ≡ 0)
    own_timer_there = go (0 <? hold_of t m.state) refl
      where
        go : (b : Bool) → (0 <? hold_of t m.state) ≡ b → Some (λ w. w ≡ state_watch t m) (timer_watches t' m') ⊎ (hold_of t m.state ≡ 0)
        go true e =
            let hold = ltb-true 0 (hold_of t m.state) e in
            let own = is_found t t.states 0 m.state (omega arith) (omega (arith, in_table_lem m.state hold)) hold in
            inl (some_timer t' m' (λ w. w ≡ state_watch t m) own.0 (omega arith) (own_timer own.0 own.1 (sym own.2)))
        go false e = inr (omega (arith, ltb-false 0 (hold_of t m.state) e))

    timers_tell : (time : ℕ) → Tells m.polled time (state_watch t m) (timer_watches t' m')
    timers_tell time =
        only m.polled time (state_watch t m) (timer_watches t' m')
        (each_timer t' m' (λ w. (w ≡ state_watch t m) ⊎ (w.hold ≡ 0)) (λ k low. each_timer_is k)) own_timer_there

    left_alike : (time : ℕ) → left t' m' time ≡ left t m time
    left_alike time =
        left_by_timers t' m' time no_hold ∙ (timers_tell time).1 ∙ sym (left_by_state t m time (no_regions good few.no_timers))

    verdict_alike : (time : ℕ) → verdict t' m' time ≡ verdict t m time
    unfolding verdict
    verdict_alike time =
        ap verdict_by
        (rule_by_timers t' m' time no_hold ∙ (timers_tell time).0 ∙ sym (rule_by_state t m time (no_regions good few.no_timers)))

    state_alike : state_after t' m' ≡ state_after t m
    unfolding state_after as_timers
    state_alike = refl

    -- A tick into a state with a timer enters its region exactly when it enters the state.
    entered_alike : (time k : ℕ) → k < timers → state_of t k ≡ state_after t m →
        entry_into (regions_after t' m' time) k ≡ (if state_after t m =? m.state then m.entry else time)
    unfolding entered
    entered_alike time k l own =
        region_after t' m' time k (omega arith)
        ∙ (rw (state_alike, region_is k l (state_after t m), region_is k l m.state, own, eq-eqb (state_after t m) (state_after t m) refl)
        (go (state_after t m =? m.state) refl))
      where
        go : (b : Bool) → (state_after t m =? m.state) ≡ b →
            (if not (m.state =? state_after t m) then time else entry_into regions k) ≡ (if b then m.entry else time)
        go true e =
            let stays = eqb-true (state_after t m) m.state e in
            rw (eq-eqb m.state (state_after t m) (sym stays)) (alike.since k l (own ∙ stays))
        go false e = rw (ne_eqb m.state (state_after t m) (λ stays. eqb-false (state_after t m) m.state e (sym stays))) refl

    after_alike : (r : Record) → Alike t (after t' m' r) (after t m r)
    unfolding last_change
    after_alike (Change time input) = record { same = refl; since = alike.since }
    after_alike (Poll time input) = record { same = refl; since = alike.since }
    after_alike (Test time verdict') = record { same = rw (verdict_alike time) refl; since = alike.since }
    after_alike (Tick time state) = record { same = rw state_alike refl; since = entered_alike time }
    after_alike (End time) = record { same = refl; since = alike.since }

    settled_alike : (r : Record) → settled m' r ≡ settled m r
    settled_alike (Change time input) = refl
    settled_alike (Poll time input) = refl
    settled_alike (Test time verdict') = refl
    settled_alike (Tick time state) = refl
    settled_alike (End time) = refl

    agrees_alike : (r : Record) → agrees t' m' r ≡ agrees t m r
    agrees_alike (Change time input) = refl
    agrees_alike (Poll time input) = refl
    agrees_alike (Test time verdict') = rw (verdict_alike time) refl
    agrees_alike (Tick time state) = rw state_alike refl
    agrees_alike (End time) = refl

    filled_alike : (r : Record) → filled t' m' r ≡ filled t m r
    unfolding filled
    filled_alike (Change time input) = refl
    filled_alike (Poll time input) = refl
    filled_alike (Test time verdict') = rw (verdict_alike time) refl
    filled_alike (Tick time state) = rw state_alike refl
    filled_alike (End time) = refl

    step_alike : (r : Record) → SameStep t (step t' m' r) (step t m r)
    unfolding step gate as_timers
    step_alike r = go (gate t.bound m (kind_of r) (time_of r))
      where
        open_gate : (a b : Bool) →
            SameStep t
            (if not a then Err Unsettled else if not b then Err Differs else Ok (after t' m' r))
            (if not a then Err Unsettled else if not b then Err Differs else Ok (after t m r))
        open_gate true true = both_next (after_alike r)
        open_gate true false = both_refuse
        open_gate false b = both_refuse

        go : (g : Gate) → SameStep t (through g t' m' r) (through g t m r)
        go (Err refusal) = both_refuse
        go (Ok passed) = rw (settled_alike r, agrees_alike r) (open_gate (settled m r) (agrees t m r))

    completed_alike : (F : Form) (r : Record) → completed F t' m' r ≡ completed F t m r
    completed_alike F r = ap (λ x. if F.valued then r else x) (filled_alike r)

  -- ---- Over the records

  walk_same : (F : Form) (items : Items) (m' m : Machine) → Alike t m' m → SameWalk t (walk F t' m' items) (walk F t m items)
  unfolding walk
  walk_same F (item place r rest) m' m alike =
      by_regions t (λ x. SameWalk t (walk F t' x (item place r rest)) (walk F t m (item place r rest))) alike (λ regions same.
      rw (completed_alike m regions same F r)
      (onwards_same t place (completed F t m r) (step_alike m regions same (completed F t m r)) (walk_same F rest)))
  walk_same F done m' m alike = both_ended alike
  walk_same F (broken refusal place) m' m alike = both_stopped

  most_same : (rs : List Record) (m' m : Machine) → Alike t m' m → most_left t' m' rs ≡ most_left t m rs
  unfolding most
  most_same [] m' m alike = refl
  most_same (r ∷ rs) m' m alike =
      by_regions t (λ x. most_left t' x (r ∷ rs) ≡ most_left t m (r ∷ rs)) alike (λ regions same.
      rw (left_alike m regions same (time_of r), most_same rs _ _ (after_alike m regions same r)) refl)

  -- At time 0 the initial state and every region were entered.
  start_alike : (input : ℕ) → Alike t (start t.initial input) (start t.initial input)
  start_alike input = record {
    same = refl;
    since = λ k l own. four (λ j. entry_into (start t.initial input).regions j ≡ 0) refl refl refl refl k (omega arith);
  }

  run_same : (F : Form) (s : List ℕ) → SameOverBytes t (run_over F t' s) (run_over F t s)
  unfolding run_over run_opened records_run as_timers
  run_same F s = sized (F.most <? length s)
    where
      opening_same : (o : Opening) → SameOverBytes t (run_opened F t' s o) (run_opened F t s o)
      opening_same (Err refusal) = both_refused
      opening_same (Ok input) =
          ran_same t input (walk_same F (items_of F (in_table F t) s) (start t.initial input) (start t.initial input) (start_alike input))

      sized : (b : Bool) →
          SameOverBytes t
          (if b then too_long else run_opened F t' s (opening_of F t.inputs s))
          (if b then too_long else run_opened F t s (opening_of F t.inputs s))
      sized true = both_too_long
      sized false = opening_same (opening_of F t.inputs s)

pub as_timers_judge_alike : AsTimersJudgeAlike
as_timers_judge_alike t good few = record {
  well_formed = well_formed t good few;
  has_timers = has_timers t good few;
  one_state = λ k q l. region_is t good few k l q;
  run_same = run_same t good few;
  left_same = λ input rs. most_same t good few rs _ _ (start_alike t good few input);
}
