-- The theorems about short journals, as specs/Shorts states them: each once over the form given, F, and the form written, G.
use mathlib.Core.Path.{◌≡◌, refl, sym, ap, ◌∙◌}
use mathlib.Core.List.{List, [], ◌∷◌, ◌++◌}
use mathlib.Core.Bool.{Bool, true, false}
use Prim.Native.Nat.{ℕ, ◌<◌, ◌≤◌}
use native.Mathlib.Omega.{arith}
use borrow.Author.Tests.{ltb-true, ltb-false}
use lib.ListN.{length}
use Rattle.std.specs.Prelude.{Ok, Err}
use Rattle.wire.specs.Choice.{◌<?◌}
use Rattle.wire.specs.Encode.{Bytes}
use Rattle.wire.specs.Made.{refused, made}
use Rattle.wire.proofs.Apart.{apart}
use Rattle.table.specs.Check.{table_in}
use Rattle.table.proofs.WellFormed.{well_formed}
use Rattle.records.specs.declared.Record.{Record}
use Rattle.records.specs.declared.Record.TheVariants.{End}
use Rattle.records.specs.Record.{time_of}
use Rattle.records.specs.Form.{Form, journal, short, longest_journal}
use Rattle.records.specs.Encode.{written_in, encode, Recovers}
use Rattle.records.proofs.Says.{in_time, ranges_same, keeps_all}
use Rattle.records.proofs.Written.{journal_recovers, short_recovers, gap_tells}
use Rattle.machine.specs.Walk.{in_table, run_over}
use Rattle.machine.specs.Gaps.{Spaced}
use Rattle.machine.proofs.Gaps.{TellsGaps, gaps_within_bound, inner_restated}
use Rattle.machine.proofs.RunsOver.{over_written, over_runs, runs_over}
use Rattle.journal.specs.Check.{check_in}
use Rattle.restate.specs.declared.Refusal.TheVariants.{OldFormTooLong}
use Rattle.restate.specs.Answer.{RestateAnswer}
use Rattle.journal.specs.Accepted.{AcceptedIn}
use Rattle.journal.proofs.Accepted.{check_accepts, accepted, entry_under}
use Rattle.journal.proofs.Ahead.{not_too_long}
use Rattle.restate.specs.Restate.{passed_on, restated, within_limit, shorten_of, lengthen_of}
use Rattle.restate.proofs.Entries.{to_short, to_journal, shortens, lengthens, made_accepted}
use Rattle.restate.proofs.Restating.{past_limit, within_limit_lem, restated_is, given_is, lengths}
use Rattle.laws.specs.Shorts.{GapsFit, SameRun, ShortenedSame, LengthenedSame, old_length, JournalsComeBack, ShortsComeBack, OthersTooLong, ShortensWell}

-- ---- The gaps of a run

looser : (most most' before : ℕ) → most ≤ most' → (rs : List Record) → Spaced most before rs → Spaced most' before rs
looser most most' before h [] spaced = tt
looser most most' before h (r ∷ rs) (low, high, spaced) = (low, omega arith, looser most most' (time_of r) h rs spaced)

pub gaps_fit : GapsFit
gaps_fit table j n e input rs end w =
    let ok = accepted journal table j n e in
    let t = table_in table in
    let o = over_written journal t j ok.input ok.taken ok.last input rs end w ok.through in
    let all : ok.taken ≡ rs ++ End end ∷ [] = sym (keeps_all journal refl ok.taken) ∙ o.1 in
    rw all at (looser t.bound 65535 0 (omega (arith, (well_formed table ok.passes).bound.1)) ok.taken
    (gaps_within_bound t ok.input ok.taken ok.last o.2))

-- ---- One run in two forms

shorts_tell : TellsGaps short
shorts_tell = record { valued = refl; small = λ before time low high late. omega arith; timed = λ before time low high. gap_tells before time low }

journals_tell : TellsGaps journal
journals_tell = record { valued = refl; small = λ before time low high late. omega arith; timed = λ before time low high. refl }

pub same_run : (F G : Form) → F.valued ≡ true → Recovers F → TellsGaps G → SameRun F G
unfolding encode
same_run F G valued tells gaps t good s bytes input taken last e few =
    let o = over_runs F t s input taken last tells bytes e in
    let all : taken ≡ o.said ++ End o.end ∷ [] = sym (keeps_all F valued taken) ∙ o.says in
    let spaced = rw all at (gaps_within_bound t input taken last o.runs) in
    let inner = inner_restated F G gaps (in_table F t) (in_table G t) (in_time F t.states t.inputs)
    (ranges_same F G valued gaps.valued t.states t.inputs) t.bound (omega (arith, good.bound.1)) 0 o.said o.end o.written.inner spaced
    in
    runs_over G t (written_in G input taken) input taken last (record {
      short = few;
      said = o.said;
      end = o.end;
      written = record { opens = o.written.opens; inner = inner; is = ap (written_in G input) all };
      says = keeps_all G gaps.valued taken ∙ all;
      runs = o.runs;
    })

-- The other form is accepted under the same table, with the same answer.
module _ (F G : Form) (valued : F.valued ≡ true) (tells : Recovers F) (gaps : TellsGaps G) (table s : List ℕ) (bytes : Bytes s) (ok : AcceptedIn F table s) where
  abbrev other : List ℕ
  other = written_in G ok.input ok.taken

  module _ (few : length other ≤ G.most) where
    abbrev pub other_accepted : AcceptedIn G table other
    other_accepted = record {
      passes = ok.passes;
      input = ok.input;
      taken = ok.taken;
      last = ok.last;
      through = same_run F G valued tells gaps (table_in table) (well_formed table ok.passes) s bytes ok.input ok.taken ok.last ok.through few;
    }

    pub other_answer : check_in G table other ≡ check_in F table s
    other_answer = check_accepts G table other other_accepted ∙ sym (check_accepts F table s ok)

    -- From it the first comes back.
    pub comes_back : restated F (run_over G (table_in table) other) ≡ made (Ok (length s)) s
    unfolding restated
    comes_back =
        let is = given_is F G valued gaps.valued tells table s ok bytes in
        rw other_accepted.through (ap (λ l. made (Ok (length l)) l) is)

-- ---- Shortened

module _ (table j : List ℕ) (bytes : Bytes j) (ok : AcceptedIn journal table j) where
  abbrev shorter : List ℕ
  shorter = written_in short ok.input ok.taken

  shorter_well : length shorter ≤ 49149
  shorter_well =
      let l = lengths journal short refl refl journal_recovers table j ok bytes in
      omega (arith, l.given, l.written, not_too_long journal table j ok)

  few : length shorter ≤ short.most
  few = omega (arith, shorter_well)

  shortened : shorten_of table j ≡ made (Ok (length shorter)) shorter
  unfolding shorten_of
  shortened =
      sym (entry_under passed_on to_short journal table j ok.passes) ∙ restated_is journal short refl refl journal_recovers table j ok

-- What was shortened was accepted.
shortened_accepted : (table j s : List ℕ) (answer : RestateAnswer) → shorten_of table j ≡ made answer s → AcceptedIn journal table j
unfolding shorten_of
shortened_accepted table j s answer e = made_accepted journal to_short shortens table j answer s e

shortened_bytes : (table j s : List ℕ) (answer : RestateAnswer) → (e : shorten_of table j ≡ made answer s) → (ok : AcceptedIn journal table j) → Bytes j → s ≡ written_in short ok.input ok.taken
shortened_bytes table j s answer e ok bytes = let same = sym e ∙ shortened table j bytes ok in cc

pub shortened_same : ShortenedSame
shortened_same table j s answer bytes e =
    let ok = shortened_accepted table j s answer e in
    rw (shortened_bytes table j s answer e ok bytes)
    (other_answer journal short refl journal_recovers shorts_tell table j bytes ok (few table j bytes ok))

pub shortens_well : ShortensWell
shortens_well table j s answer bytes e =
    let ok = shortened_accepted table j s answer e in
    rw (shortened_bytes table j s answer e ok bytes) (shorter_well table j bytes ok)

pub journals_come_back : JournalsComeBack
unfolding lengthen_of
journals_come_back table j n bytes e =
    let ok = accepted journal table j n e in
    let back = comes_back journal short refl journal_recovers shorts_tell table j bytes ok (few table j bytes ok) in
    let room = not_too_long journal table j ok in (
      shorter table j bytes ok,
      shortened table j bytes ok,
      sym (entry_under passed_on to_journal short table (shorter table j bytes ok) ok.passes) ∙ within_limit_lem _ _ j back room,
    )

-- ---- Lengthened

module _ (table s : List ℕ) (bytes : Bytes s) (ok : AcceptedIn short table s) where
  abbrev longer : List ℕ
  longer = written_in journal ok.input ok.taken

  old_length_lem : length longer ≡ old_length s
  old_length_lem = let l = lengths short journal refl refl short_recovers table s ok bytes in omega (arith, l.given, l.written)

  makes : restated journal (run_over short (table_in table) s) ≡ made (Ok (length longer)) longer
  makes = restated_is short journal refl refl short_recovers table s ok

  entry : within_limit (restated journal (run_over short (table_in table) s)) ≡ lengthen_of table s
  unfolding lengthen_of
  entry = entry_under passed_on to_journal short table s ok.passes

  lengthened : length longer ≤ longest_journal → lengthen_of table s ≡ made (Ok (length longer)) longer
  lengthened h = sym entry ∙ within_limit_lem _ _ longer makes h

  not_lengthened : longest_journal < length longer → lengthen_of table s ≡ refused (Err OldFormTooLong)
  not_lengthened h = sym entry ∙ past_limit _ _ longer makes h

pub others_too_long : OthersTooLong
others_too_long table s n bytes e h =
    let ok = accepted short table s n e in
    not_lengthened table s bytes ok (omega (arith, old_length_lem table s bytes ok))

pub shorts_come_back : ShortsComeBack
unfolding shorten_of
shorts_come_back table s n bytes e h =
    let ok = accepted short table s n e in
    let room : length (longer table s bytes ok) ≤ longest_journal = omega (arith, old_length_lem table s bytes ok) in
    let back = comes_back short journal refl short_recovers journals_tell table s bytes ok room in (
      longer table s bytes ok,
      old_length_lem table s bytes ok,
      lengthened table s bytes ok room,
      sym (entry_under passed_on to_short journal table (longer table s bytes ok) ok.passes) ∙ back,
    )

-- What was lengthened was accepted, and had room.
lengthened_accepted : (table s j : List ℕ) (answer : RestateAnswer) → lengthen_of table s ≡ made answer j → AcceptedIn short table s
unfolding lengthen_of
lengthened_accepted table s j answer e = made_accepted short to_journal lengthens table s answer j e

lengthened_room : (table s j : List ℕ) (answer : RestateAnswer) → lengthen_of table s ≡ made answer j → (bytes : Bytes s) (ok : AcceptedIn short table s) →
    length (longer table s bytes ok) ≤ longest_journal
lengthened_room table s j answer e bytes ok = go (longest_journal <? length (longer table s bytes ok)) refl
  where
    go : (b : Bool) → (longest_journal <? length (longer table s bytes ok)) ≡ b → length (longer table s bytes ok) ≤ longest_journal
    go true h =
        let other = not_lengthened table s bytes ok (ltb-true longest_journal (length (longer table s bytes ok)) h) in
        apart (cc (e, other))
    go false h = ltb-false longest_journal (length (longer table s bytes ok)) h

pub lengthened_same : LengthenedSame
lengthened_same table s j answer bytes e =
    let ok = lengthened_accepted table s j answer e in
    let room = lengthened_room table s j answer e bytes ok in
    let same : j ≡ longer table s bytes ok = cc (e, lengthened table s bytes ok room) in
    rw same (other_answer short journal refl short_recovers journals_tell table s bytes ok room)
