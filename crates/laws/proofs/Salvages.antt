-- Salvage, as specs/Salvages states it.
use mathlib.Core.Path.{◌≡◌, refl, sym, ap, ◌∙◌}
use mathlib.Core.List.{List, [], ◌∷◌, ◌++◌}
use mathlib.Core.Bool.{Bool, true, false}
use mathlib.Core.Logic.{◌⊎◌, inl, inr}
use Prim.Native.Nat.{ℕ, suc, ◌+◌, ◌-◌, ◌<◌, ◌≤◌}
use native.Mathlib.Omega.{arith}
use borrow.Author.Tests.{lt-ltb, le-ltb, ltb-false, leb-true}
use lib.ListN.{length, take, drop, take-append-drop}
use lib.Seq.{length-take-le, take_at, drop_at}
use Rattle.std.specs.Prelude.{if◌then◌else◌, Ok, Err}
use Rattle.wire.specs.Choice.{◌<?◌, ◌≤?◌}
use Rattle.wire.specs.Encode.{Bytes, bytes32, field}
use Rattle.wire.specs.Made.{Made, refused, made, answer_in, buffer_in}
use Rattle.wire.proofs.Apart.{apart}
use Rattle.wire.proofs.Choice.{both}
use Rattle.table.specs.declared.Table.{Table}
use Rattle.table.specs.Check.{table_answer, table_in}
use Rattle.table.proofs.Under.{under_passes, under_either}
use Rattle.records.specs.declared.Record.{Record}
use Rattle.records.specs.declared.Record.TheVariants.{Change, Poll, Test, Tick, End}
use Rattle.records.specs.declared.Refusal.{Refusal}
use Rattle.records.specs.Reading.{Opening}
use Rattle.records.specs.Record.{latest}
use Rattle.records.specs.Refusal.{number_of}
use Rattle.records.specs.Form.{journal, longest_journal}
use Rattle.records.specs.Reading.{opening_of, Items, items_of}
use Rattle.records.proofs.Places.{refusal_numbered}
use Rattle.records.proofs.Lengths.{inner_no_end, encode-length}
use Rattle.records.proofs.Reading.{OpeningAt, opening_at, found_room}
use Rattle.records.proofs.Written.{journal_recovers, opening_written, opening_read}
use Rattle.machine.specs.declared.Machine.{Machine}
use Rattle.machine.specs.Machine.{start, after}
use Rattle.machine.specs.Walk.{in_table, Walk, ended, stopped, walk, ran, ran_from, records_run, run_over}
use Rattle.machine.proofs.Steps.{end_taken}
use Rattle.machine.proofs.Over.{went_through, goes_through, opened_with}
use Rattle.journal.specs.declared.Refusal.TheVariants as checked
use Rattle.journal.specs.Check.{check_in, numbers_of, answer_of_run, check_of}
use Rattle.salvage.specs.declared.Salvaged.{Salvaged}
use Rattle.salvage.specs.declared.Refusal.TheVariants.{Check, BufferTooShort}
use Rattle.salvage.specs.Answer.{SalvageAnswer}
use Rattle.salvage.specs.Salvage.{Cut, cut_at, first_cut, last_cut, cut_after, cut_over, salvaged, unchanged, made_by, opened, salvage_under, salvage_of}
use Rattle.salvage.proofs.Reaching.{OneTaken, reaches}
use Rattle.machine.specs.RunsOver.{RunsOver}
use Rattle.machine.proofs.RunsOver.{over_runs, runs_over}
use Rattle.laws.specs.Salvages.{result_size, SoundTick, ComesBack, Sound, SalvagesSoundly, Salvageable, GoesByRoom, SalvagesExactly}
use Rattle.laws.proofs.Fronts.{Front, front_begins, front_more, closed_length, front_closed}
use Rattle.laws.proofs.Cuts.{items_follow, none_lost, Last, last_tick}

-- ---- What is kept

module _ (t : Table) (s : List ℕ) (input : ℕ) where
  abbrev from : Machine
  from = start t.initial input

  abbrev items : Items
  items = items_of journal (in_table journal t) s

  abbrev last_of : Cut
  last_of = cut_over t from first_cut items

  abbrev result_of : Cut → List ℕ
  result_of cut = take cut.bytes s ++ field 0x1F (bytes32 cut.time)

  -- At a cut a cycle has just begun.
  record Resting (cut : Cut) : Type 0 where
    machine : Machine
    front : Front t s input cut.bytes machine
    time_is : machine.time ≡ cut.time
    start_is : machine.start ≡ cut.time
    phase_is : machine.phase ≡ 0
    low : cut.bytes ≤ last_cut
    within : cut.bytes ≤ length s
    early : cut.time ≤ latest

  record Kept (at : ℕ) (m : Machine) (cut : Cut) : Type 0 where
    front : Front t s input at m
    resting : Resting cut

  rests : (at : ℕ) (m : Machine) (cut : Cut) (r : Record) → OneTaken t s at m r → Front t s input (at + 8) (after t m r) → Resting cut →
      Resting (cut_after r (at + 8) cut)
  unfolding cut_after
  rests at m cut (Change time input) one front resting = resting
  rests at m cut (Poll time input) one front resting = resting
  rests at m cut (Test time verdict) one front resting = resting
  rests at m cut (Tick time state) one front resting = go (at + 8 ≤? last_cut) refl
    where
      go : (b : Bool) → (at + 8 ≤? last_cut) ≡ b → Resting (if b then cut_at (at + 8) time else cut)
      go true e = record {
        machine = after t m (Tick time state);
        front = front;
        time_is = refl;
        start_is = refl;
        phase_is = refl;
        low = leb-true (at + 8) last_cut e;
        within = found_room journal (in_table journal t) one.before s at (Tick time state) one.found;
        early = leb-true time latest (both (time ≤? latest) (state <? t.states) one.found.in_range).0;
      }
      go false e = resting
  rests at m cut (End time) one front resting = resting

  module _ (bytes : Bytes s) (opens : OpeningAt 0x10 t.inputs s input) where
    goes_along : (at : ℕ) (m : Machine) (cut : Cut) (r : Record) → OneTaken t s at m r → Kept at m cut → Kept (at + 8) (after t m r) (cut_after r (at + 8) cut)
    goes_along at m cut r one kept =
        let front = front_more t s input bytes at m r one kept.front in
        record { front = front; resting = rests at m cut r one front kept.resting }

    begun : Kept 4 from first_cut
    begun =
        let front = front_begins t s input bytes opens in
        record {
          front = front;
          resting = record {
            machine = from;
            front = front;
            time_is = refl;
            start_is = refl;
            phase_is = refl;
            low = omega arith;
            within = opens.whole.fits;
            early = omega arith;
          };
        }

    at_rest : Resting last_of
    unfolding items_of
    at_rest = (reaches t s Kept goes_along (suc (length s)) 4 0 from first_cut opens.whole.fits begun).holds.resting

    -- The end may come there, and nothing else is needed for a journal.
    runs_to_the_cut : (cut : Cut) (rest : Resting cut) →
        RunsOver journal t (result_of cut) input (rest.front.records ++ End cut.time ∷ []) (after t rest.machine (End cut.time))
    runs_to_the_cut cut rest =
        let m = rest.machine in
        let ends = end_taken t m cut.time rest.phase_is (omega (arith, rest.time_is)) (omega (arith, rest.start_is)) in
        front_closed t s input cut.bytes m rest.front rest.within cut.time opens.in_range (omega (arith, rest.low)) rest.early ends

-- ---- What is made

module _ (table : List ℕ) (passes : table_answer table ≡ Ok tt) where
  abbrev own : Table
  own = table_in table

  check_is : (s : List ℕ) → check_of table s ≡ answer_of_run own (run_over journal own s)
  unfolding check_in
  check_is s = under_passes _ _ table passes

  salvage_is : (s : List ℕ) → salvage_of table s ≡ salvage_under own s
  unfolding salvage_of
  salvage_is s = under_passes _ _ table passes

  -- A journal that the machine goes through is accepted, and comes back.
  module _ (s : List ℕ) (input : ℕ) (taken : List Record) (last : Machine) (through : run_over journal own s ≡ ran input taken last) where
    accepted_as : check_of table s ≡ Ok (numbers_of own input taken last)
    unfolding answer_of_run
    accepted_as = check_is s ∙ ap (answer_of_run own) through

    pub unchanged_as : salvage_of table s ≡ unchanged s
    unfolding salvage_under opened
    unchanged_as =
        let h = went_through journal own s input taken last through in
        salvage_is s ∙ rw (le-ltb longest_journal (length s) h.short, h.opens, h.walks) refl

    comes_back : ComesBack table s
    unfolding answer_in buffer_in
    comes_back buffer room =
        rw (unchanged_as, le-ltb (length buffer) (length s) room) (refl, take_at s (drop (length s) buffer) (length s) refl)

    whole_sound : Sound table s (length s) 0 0 0 s
    whole_sound = record {
      numbers = numbers_of own input taken last;
      accepted = accepted_as;
      beginning = refl;
      counted = omega arith;
      made = inl (record { numbers = numbers_of own input taken last; accepted = accepted_as; is = refl; report = (refl, refl, refl, refl) });
      again = comes_back;
    }

  module _ (s : List ℕ) (bytes : Bytes s) (short : length s ≤ longest_journal) (input : ℕ) (is : opening_of journal own.inputs s ≡ Ok input) where
    abbrev cut : Cut
    cut = last_of own s input

    opens : OpeningAt 0x10 own.inputs s input
    opens = opening_at 0x10 4 5 own.inputs s input is

    resting : Resting own s input cut
    resting = at_rest own s input bytes opens

    ends_with : ((cut.bytes ≡ 4) × (cut.time ≡ 0)) ⊎ ((cut.bytes ≤ last_cut) × SoundTick own s cut.time cut.bytes)
    ends_with = go (last_tick own (from own s input) first_cut (items own s input))
      where
        go : Last own (from own s input) first_cut (items own s input) cut →
            ((cut.bytes ≡ 4) × (cut.time ≡ 0)) ⊎ ((cut.bytes ≤ last_cut) × SoundTick own s cut.time cut.bytes)
        go (inl same) = inl (ap (λ c. c.bytes) same, ap (λ c. c.time) same)
        go (inr (low, takes)) = inr (low, (input, is, takes))

    loses_none : (time ends : ℕ) → SoundTick own s time ends → ends ≤ last_cut → ends ≤ cut.bytes
    unfolding items_of
    loses_none time ends (input', is', takes) early =
        let same : input' ≡ input = cc in
        none_lost own (from own s input) first_cut 4 (items own s input) (omega arith) (items_follow (in_table journal own) s (suc (length s)) 4 0) time ends
        (rw same at takes) early

    closed_sound : (x : Refusal) (place : ℕ) → walk journal own (from own s input) (items own s input) ≡ stopped x place →
        Sound table s cut.bytes (length s - cut.bytes) (number_of x) place (result_of own s input cut)
    unfolding records_run answer_of_run
    closed_sound x place stops =
        let taken = resting.front.records ++ End cut.time ∷ [] in
        let last = after own resting.machine (End cut.time) in
        let through = runs_over journal own (result_of own s input cut) input taken last (runs_to_the_cut own s input bytes opens cut resting) in
        let long = length-take-le cut.bytes s resting.within in
        let run = sym (opened_with journal own s short (opening_of journal own.inputs s) refl input is) ∙ ap (ran_from input) stops in
        record {
          numbers = numbers_of own input taken last;
          accepted = accepted_as _ input taken last through;
          beginning = take_at (take cut.bytes s) (field 0x1F (bytes32 cut.time)) cut.bytes long;
          counted = omega (arith, resting.within);
          made = inr (record {
            refusal = x;
            refused = check_is s ∙ ap (answer_of_run own) run;
            number_is = refl;
            time = cut.time;
            ends = drop_at (take cut.bytes s) (field 0x1F (bytes32 cut.time)) cut.bytes long;
            last = ends_with;
            none_lost = loses_none;
          });
          again = comes_back _ input taken last through;
        }

    closed_size : (x : Refusal) → length (result_of own s input cut) ≡ result_size cut.bytes (number_of x)
    closed_size x = rw (refusal_numbered x) (closed_length own s input cut.bytes resting.machine resting.front resting.within cut.time)

-- ---- The opening field

opens_with : (s : List ℕ) (input inputs : ℕ) → input < inputs → take 4 s ≡ field 0x10 (input ∷ []) → opening_of journal inputs s ≡ Ok input
opens_with s input inputs h e =
    (opening_written 0x10 4 5 inputs s (drop 4 s) input h (sym (take-append-drop 4 s) ∙ ap (λ l. l ++ drop 4 s) e)).0

-- ---- The entry

-- In 65,536 bytes there is room for 8,190 records between the opening field and the end.
run_length : (t : Table) (s : List ℕ) (input : ℕ) (taken : List Record) (last : Machine) → RunsOver journal t s input taken last → length s ≤ 65531
run_length t s input taken last over =
    let none = inner_no_end journal (in_table journal t) 0 over.said over.end over.written.inner in
    omega (arith, over.short, ap length over.written.is, encode-length journal refl input over.said over.end none)

module _ (table s : List ℕ) where
  -- Where bytes are made, the journal can be salvaged; they are sound, and as many as the report says, but not many.
  record Reported (a : SalvageAnswer) (result : List ℕ) : Type 0 where
    can : Salvageable table s
    kept : ℕ
    dropped : ℕ
    number : ℕ
    place : ℕ
    is : a ≡ salvaged kept dropped number place
    sound : Sound table s kept dropped number place result
    long : length result ≡ result_size kept number
    few : length result ≤ 65531

  abbrev Fine : Made SalvageAnswer → Type 0
  Fine (refused a) = (kept dropped number place : ℕ) → a ≡ salvaged kept dropped number place → ⊥
  Fine (made a result) = Reported a result

  under : Bytes s → table_answer table ≡ Ok tt → Fine (salvage_under (table_in table) s)
  unfolding salvage_under opened field
  under bytes passes = sized (longest_journal <? length s) refl
    where
      t : Table
      t = table_in table

      walked : Salvageable table s → length s ≤ longest_journal → (input : ℕ) → opening_of journal t.inputs s ≡ Ok input → (w : Walk) →
          walk journal t (from t s input) (items t s input) ≡ w → Fine (made_by s (last_of t s input) w)
      walked can short input is (ended taken last) ends =
          let through = goes_through journal t s input taken last (record { short = short; opens = is; walks = ends }) in
          record {
            can = can;
            kept = length s;
            dropped = 0;
            number = 0;
            place = 0;
            is = refl;
            sound = whole_sound table passes s input taken last through;
            long = refl;
            few = run_length t s input taken last (over_runs journal t s input taken last journal_recovers bytes through);
          }
      walked can short input is (stopped x place) ends =
          let cut = last_of t s input in
          let opens = opening_at 0x10 4 5 t.inputs s input is in
          record {
            can = can;
            kept = cut.bytes;
            dropped = length s - cut.bytes;
            number = number_of x;
            place = place;
            is = refl;
            sound = closed_sound table passes s bytes short input is x place ends;
            long = closed_size table passes s bytes short input is x;
            few = run_length t _ input _ _ (runs_to_the_cut t s input bytes opens cut (at_rest t s input bytes opens));
          }

      begins : length s ≤ longest_journal → (o : Opening) → opening_of journal t.inputs s ≡ o → Fine (opened t s o)
      begins short (Err refusal) is = λ k d n p e. apart cc
      begins short (Ok input) is =
          let opens = opening_at 0x10 4 5 t.inputs s input is in
          let can : Salvageable table s = record {
            passes = passes;
            short = short;
            input = input;
            known = opens.in_range;
            opens = ap (take 4) (opening_read 0x10 t.inputs s bytes input opens);
          } in
          walked can short input is _ refl

      sized : (b : Bool) → (longest_journal <? length s) ≡ b → Fine (if b then refused (Err (Check checked.TooLong)) else opened t s (opening_of journal t.inputs s))
      sized true e = λ k d n p f. apart cc
      sized false e = begins (ltb-false longest_journal (length s) e) (opening_of journal t.inputs s) refl

  always_fine : Bytes s → Fine (salvage_of table s)
  unfolding salvage_of
  always_fine bytes = under_either _ _ table Fine (under bytes) (λ refusal is k d n p e. apart cc)

  report_same : {kept dropped number place kept' dropped' number' place' : ℕ} → salvaged kept dropped number place ≡ salvaged kept' dropped' number' place' →
      (kept ≡ kept') × (dropped ≡ dropped') × (number ≡ number') × (place ≡ place')
  report_same {kept} {dropped} {number} {place} {kept'} {dropped'} {number'} {place'} e =
      let same : ◌≡◌ {A = Salvaged} (record { kept = kept; dropped = dropped; number = number; place = place })
      (record { kept = kept'; dropped = dropped'; number = number'; place = place' }) = cc in
      (ap (λ (x : Salvaged). x.kept) same, ap (λ (x : Salvaged). x.dropped) same, ap (λ (x : Salvaged). x.number) same, ap (λ (x : Salvaged). x.place) same)

  succeeded : (buffer : List ℕ) (kept dropped number place : ℕ) (m : Made SalvageAnswer) → Fine m →
      answer_in (Err BufferTooShort) m (length buffer) ≡ salvaged kept dropped number place →
      Sound table s kept dropped number place (take (result_size kept number) (buffer_in m buffer)) × Salvageable table s
  unfolding answer_in buffer_in
  succeeded buffer kept dropped number place (refused a) fine e = absurd (fine kept dropped number place e)
  succeeded buffer kept dropped number place (made a result) fine e = go (length buffer <? length result) e
    where
      go : (b : Bool) → (if b then Err BufferTooShort else a) ≡ salvaged kept dropped number place →
          Sound table s kept dropped number place (take (result_size kept number) (if b then buffer else result ++ drop (length result) buffer))
          × Salvageable table s
      go true f = apart cc
      go false f =
          let same = report_same (sym fine.is ∙ f) in
          rw (← same.0, ← same.1, ← same.2, ← same.3, take_at result (drop (length result) buffer) (result_size fine.kept fine.number) fine.long)
          (fine.sound, fine.can)

  -- Whatever stops the walk, bytes are made.
  makes : Salvageable table s → (a : SalvageAnswer) × (result : List ℕ) × (salvage_of table s ≡ made a result)
  unfolding salvage_under opened
  makes can =
      let t = table_in table in
      let is = opens_with s can.input t.inputs can.known can.opens in
      let w = walked (last_of t s can.input) (walk journal t (from t s can.input) (items t s can.input)) in
      (w.0, w.1, salvage_is table can.passes s ∙ rw (le-ltb longest_journal (length s) can.short, is) w.2)
    where
      walked : (cut : Cut) (w : Walk) → (a : SalvageAnswer) × (result : List ℕ) × (made_by s cut w ≡ made a result)
      walked cut (ended taken last) = (_, _, refl)
      walked cut (stopped x place) = (_, _, refl)

  pub by_room : Bytes s → Salvageable table s → (r : GoesByRoom table s) × (result_size r.kept r.number ≤ 65531)
  unfolding answer_in
  by_room bytes can =
      let m = makes can in
      let fine : Reported m.0 m.1 = rw m.2 at (always_fine bytes) in
      let goes : GoesByRoom table s = record {
        kept = fine.kept;
        dropped = fine.dropped;
        number = fine.number;
        place = fine.place;
        with_room = λ buffer room. rw (m.2, le-ltb (length buffer) (length m.1) (rw fine.long room)) fine.is;
        without = λ buffer less. rw (m.2, lt-ltb (length buffer) (length m.1) (rw fine.long less)) refl;
      } in
      (goes, rw (← fine.long) fine.few)

pub salvages_soundly : SalvagesSoundly
salvages_soundly table s buffer bytes kept dropped number place e =
    (succeeded table s buffer kept dropped number place (salvage_of table s) (always_fine table s bytes) e).0

pub salvages_exactly : SalvagesExactly
salvages_exactly table s bytes = (
  λ can. (by_room table s bytes can).0,
  λ buffer x. (succeeded table s buffer x.0 x.1 x.2 x.3 (salvage_of table s) (always_fine table s bytes) x.4).1,
)
