-- What specs/EveryEntry states of the entries.
use mathlib.Core.Path.{◌≡◌, refl, sym, ap, ◌∙◌}
use mathlib.Core.List.{List, [], ◌∷◌}
use Prim.Native.Nat.{ℕ}
use lib.ListN.{length}
use Rattle.std.specs.Prelude.{Ok, Err}
use Rattle.std.specs.Result.{OnErr}
use Rattle.wire.specs.Reply.{number_in}
use Rattle.report.specs.Answer as report_answer
use Rattle.report.specs.Report.{Added}
use Rattle.moves.specs.Answer as moves_answer
use Rattle.moves.specs.Moves.{moves_of}
use Rattle.moves.proofs.Kept.{refusal_keeps}
use Rattle.krossvil.proofs.Accepting.{buffer_kept}
use Rattle.krossvil.proofs.Runs.{run_writer}
use Rattle.krossvil.proofs.Converts.{convert_writer}
use Rattle.krossvil.proofs.Stamps.{stamped_writer}
use Rattle.krossvil.proofs.Restates.{shorten_writer, lengthen_writer}
use Rattle.krossvil.proofs.Salvages.{salvage_writer}
use Rattle.krossvil.proofs.Reports.{report_numbered}
use Rattle.krossvil.specs.Host.{code_of, journal_told, short_told, reaction_told, moves_told, tight_told, tight_moves_told, report_told, live_told, watch_told}
use Rattle.laws.proofs.Never28.{never_differs}
use Rattle.demands.specs.Entries.{held_by}
use Rattle.demands.specs.EveryEntry.{EveryEntryDetermines, EveryRefusalKeeps, RunNeverDiffers}
use Rattle.live.specs.Answer as live_answer
use Rattle.live.specs.Live.{watch_of}
use Rattle.krossvil.proofs.Writers.{said}
use Rattle.krossvil.proofs.Lives.{live_writer}
use Rattle.demands.proofs.Live.{live_kept, watch_kept, watch_numbered}
use Rattle.demands.proofs.Entries.{made_kept, answer_kept, told_kept, told_numbered, entry_kept, host_kept, moves_numbered}

-- ---- The entries

-- Slices that are left as one another.
one : {x x' : List ℕ} → x ≡ x' → ◌≡◌ {A = List (List ℕ)} (x ∷ []) (x' ∷ [])
one e = ap (λ x. x ∷ []) e

two : {x x' y y' : List ℕ} → x ≡ x' → y ≡ y' → ◌≡◌ {A = List (List ℕ)} (x ∷ y ∷ []) (x' ∷ y' ∷ [])
two e f = rw (e, f) refl

three : {x x' y y' z z' : List ℕ} → x ≡ x' → y ≡ y' → z ≡ z' → ◌≡◌ {A = List (List ℕ)} (x ∷ y ∷ z ∷ []) (x' ∷ y' ∷ z' ∷ [])
three e f g = rw (e, f, g) refl

-- Two outcomes that both are what the clauses say: with a buffer, and in C with a buffer beside the answer.
one_lent : {A : Type 0} {r r' x : A} {l l' y : List ℕ} → (r ≡ x) × (l ≡ y) → (r' ≡ x) × (l' ≡ y) → (r ≡ r') × (◌≡◌ {A = List (List ℕ)} (l ∷ []) (l' ∷ []))
one_lent p q = (p.0 ∙ sym q.0, one (p.1 ∙ sym q.1))

two_lent : {A : Type 0} {r r' x : A} {l l' y k k' z : List ℕ} → (r ≡ x) × ((k ≡ z) × (l ≡ y)) → (r' ≡ x) × ((k' ≡ z) × (l' ≡ y)) →
    (r ≡ r') × (◌≡◌ {A = List (List ℕ)} (l ∷ k ∷ []) (l' ∷ k' ∷ []))
two_lent p q = (p.0 ∙ sym q.0, two (p.1.1 ∙ sym q.1.1) (p.1.0 ∙ sym q.1.0))

-- A report to which nothing was added is as it was.
report_kept : {P : Type 0} (r : report_answer.ReportAnswer) → OnErr r P → (number_in (report_answer.reply_of r) ≡ 0 → ⊥) → P
report_kept (Ok taken) kept other = absurd (other refl)
report_kept (Err refusal) kept other = kept

pub every_entry_determines : EveryEntryDetermines
every_entry_determines = (
  record { asks_nothing = λ κs a. tt; one_outcome = λ κs a r r' s s' p p'. (p ∙ sym p', refl) },
  record { asks_nothing = λ κs a. tt; one_outcome = λ κs a r r' s s' p p'. (p ∙ sym p', refl) },
  record { asks_nothing = λ κs a. tt; one_outcome = λ κs a r r' s s' p p'. one_lent p p' },
  record { asks_nothing = λ κs a. tt; one_outcome = λ κs a r r' s s' p p'. (p ∙ sym p', refl) },
  record {
    asks_nothing = λ κs a. tt;
    one_outcome = λ κs a r r' s s' p p'. (p.0 ∙ sym p'.0, two (p.1.0 ∙ sym p'.1.0) (p.1.1 ∙ sym p'.1.1));
  },
  record { asks_nothing = λ κs a. tt; one_outcome = λ κs a r r' s s' p p'. one_lent p p' },
  record { asks_nothing = λ κs a. tt; one_outcome = λ κs a r r' s s' p p'. one_lent p p' },
  record { asks_nothing = λ κs a. tt; one_outcome = λ κs a r r' s s' p p'. (p ∙ sym p', refl) },
  record { asks_nothing = λ κs a. tt; one_outcome = λ κs a r r' s s' p p'. one_lent p p' },
  record { asks_nothing = λ κs a. tt; one_outcome = λ κs a r r' s s' p p'. one_lent p p' },
  record { asks_nothing = λ κs a. tt; one_outcome = λ κs a r r' s s' p p'. (p ∙ sym p', refl) },
  record { asks_nothing = λ κs a. tt; one_outcome = λ κs a r r' s s' p p'. one_lent p p' },
  record { asks_nothing = λ κs a. tt; one_outcome = λ κs a r r' s s' p p'. (p ∙ sym p', refl) },
  record {
    asks_nothing = λ κs a. tt;
    one_outcome = λ κs a r r' s s' p p'. let same = p.0 ∙ sym p'.0 in (ap (λ (x : Added). x.answer) same, ap (λ (x : Added). held_by x.report) same);
  },
  record { asks_nothing = λ κs a. tt; one_outcome = λ κs a r r' s s' p p'. (p ∙ sym p', refl) },
  record { asks_nothing = λ κs a. tt; one_outcome = λ κs a r r' s s' p p'. one_lent p p' },
  record { asks_nothing = λ κs a. tt; one_outcome = λ κs a r r' s s' p p'. two_lent p p' },
  record { asks_nothing = λ κs a. tt; one_outcome = λ κs a r r' s s' p p'. one_lent p p' },
  record {
    asks_nothing = λ κs a. tt;
    one_outcome = λ κs a r r' s s' p p'.
        (p.0 ∙ sym p'.0, three (p.1.1.0 ∙ sym p'.1.1.0) (p.1.1.1 ∙ sym p'.1.1.1) (p.1.0 ∙ sym p'.1.0));
  },
  record { asks_nothing = λ κs a. tt; one_outcome = λ κs a r r' s s' p p'. two_lent p p' },
  record { asks_nothing = λ κs a. tt; one_outcome = λ κs a r r' s s' p p'. two_lent p p' },
  record { asks_nothing = λ κs a. tt; one_outcome = λ κs a r r' s s' p p'. one_lent p p' },
  record { asks_nothing = λ κs a. tt; one_outcome = λ κs a r r' s s' p p'. two_lent p p' },
  record { asks_nothing = λ κs a. tt; one_outcome = λ κs a r r' s s' p p'. two_lent p p' },
  record { asks_nothing = λ κs a. tt; one_outcome = λ κs a r r' s s' p p'. one_lent p p' },
  record { asks_nothing = λ κs a. tt; one_outcome = λ κs a r r' s s' p p'. two_lent p p' },
  record { asks_nothing = λ κs a. tt; one_outcome = λ κs a r r' s s' p p'. one_lent p p' },
  record { asks_nothing = λ κs a. tt; one_outcome = λ κs a r r' s s' p p'. two_lent p p' },
  record { asks_nothing = λ κs a. tt; one_outcome = λ κs a r r' s s' p p'. one_lent p p' },
  record { asks_nothing = λ κs a. tt; one_outcome = λ κs a r r' s s' p p'. (p ∙ sym p', refl) },
  record {
    asks_nothing = λ κs a. tt;
    one_outcome = λ κs a r r' s s' p p'.
        (p.0 ∙ sym p'.0, three (p.1.1.1 ∙ sym p'.1.1.1) (p.1.1.0 ∙ sym p'.1.1.0) (p.1.0 ∙ sym p'.1.0));
  },
  record { asks_nothing = λ κs a. tt; one_outcome = λ κs a r r' s s' p p'. two_lent p p' },
  record { asks_nothing = λ κs a. tt; one_outcome = λ κs a r r' s s' p p'. (p ∙ sym p', refl) },
  record { asks_nothing = λ κs a. tt; one_outcome = λ κs a r r' s s' p p'. one_lent p p' },
)

pub every_refusal_keeps : EveryRefusalKeeps
every_refusal_keeps = (
  λ κs a r s p other. entry_kept (run_writer a.0.now a.1.0.now) a.1.1.0.now p other,
  λ κs a r s p other.
      let kept =
      refusal_keeps a.0.now a.1.0 a.1.1.0 a.1.1.1.0 a.1.1.1.1.0.now a.1.1.1.1.1.0.now
      (λ e. other (ap (λ x. number_in (moves_answer.reply_of x)) p.0 ∙ e)) in
      two (p.1.0 ∙ kept.0) (p.1.1 ∙ kept.1),
  λ κs a r s p other. entry_kept (convert_writer a.0.now) a.1.0.now p other,
  λ κs a r s p other. entry_kept (stamped_writer a.0.now) a.1.0.now p other,
  λ κs a r s p other. entry_kept (shorten_writer a.0.now a.1.0.now) a.1.1.0.now p other,
  λ κs a r s p other. entry_kept (lengthen_writer a.0.now a.1.0.now) a.1.1.0.now p other,
  λ κs a r s p other. entry_kept (salvage_writer a.0.now a.1.0.now) a.1.1.0.now p other,
  λ κs a r s p other. told_kept (journal_told a.0.now a.1.0.now (length a.1.1.0.now)) a.1.1.0.now p other,
  λ κs a r s p other. host_kept (run_writer a.0.now a.1.0.now) a.1.1.0.now a.1.1.1.0.now p other,
  λ κs a r s p other. told_kept (reaction_told a.0.now a.1.0 a.1.1.0 (length a.1.1.1.0.now)) a.1.1.1.0.now p other,
  λ κs a r s p other.
      let sums = a.1.1.1.1.0.now in
      let path = a.1.1.1.1.1.0.now in
      let answer = a.1.1.1.1.1.1.0.now in
      let told_as = moves_told a.0.now a.1.0 a.1.1.0 a.1.1.1.0 (length sums) (length path) (length answer) in
      let numbered = told_numbered _ (length answer) (moves_numbered (moves_of a.0.now a.1.0 a.1.1.0 a.1.1.1.0 (length sums) (length path))) in
      let refused : code_of told_as ≡ 0 → ⊥ = λ e. other (p.0 ∙ e) in
      three (p.1.1.0 ∙ buffer_kept told_as numbered _ sums refused) (p.1.1.1 ∙ buffer_kept told_as numbered _ path refused) (p.1.0 ∙ answer_kept told_as answer refused),
  λ κs a r s p other. host_kept (convert_writer a.0.now) a.1.0.now a.1.1.0.now p other,
  λ κs a r s p other. host_kept (stamped_writer a.0.now) a.1.0.now a.1.1.0.now p other,
  λ κs a r s p other. told_kept (short_told a.0.now a.1.0.now (length a.1.1.0.now)) a.1.1.0.now p other,
  λ κs a r s p other. host_kept (shorten_writer a.0.now a.1.0.now) a.1.1.0.now a.1.1.1.0.now p other,
  λ κs a r s p other. host_kept (lengthen_writer a.0.now a.1.0.now) a.1.1.0.now a.1.1.1.0.now p other,
  λ κs a r s p other. told_kept (tight_told a.0.now a.1.0 a.1.1.0 (length a.1.1.1.0.now)) a.1.1.1.0.now p other,
  λ κs a r s p other. host_kept (salvage_writer a.0.now a.1.0.now) a.1.1.0.now a.1.1.1.0.now p other,
  λ κs a r s p other.
      let report = a.1.1.0.now in
      one (p.1 ∙ buffer_kept (report_told a.0.now a.1.0.now report) (report_numbered a.0.now a.1.0.now report) _ report (λ e. other (p.0 ∙ e))),
  λ κs a r s p other.
      let n = a.1.0.now in
      let out = a.1.1.1.0.now in
      let kept = live_kept a.0.now n a.1.1.0.now (length out) (λ e. other (ap (λ x. number_in (live_answer.reply_of x)) p.0 ∙ e)) in
      let same = made_kept (live_writer a.0.now n a.1.1.0.now) out (λ e. other (ap (λ x. number_in (live_answer.reply_of x)) p.0 ∙ e)) in
      two (p.1.1 ∙ kept) (p.1.0 ∙ same),
  λ κs a r s p other. one (p.1 ∙ watch_kept a.0.now a.1.0.now a.1.1.0.now (λ e. other (ap (λ x. number_in (live_answer.watch_reply x)) p.0 ∙ e))),
  λ κs a r s p other.
      let n = a.1.0.now in
      let event = a.1.1.0.now in
      let out = a.1.1.1.0.now in
      let answer = a.1.1.1.1.0.now in
      let told_as = live_told a.0.now n event out (length answer) in
      let numbered = told_numbered _ (length answer) (said (live_writer a.0.now n event) (length out)).1 in
      let refused : code_of told_as ≡ 0 → ⊥ = λ e. other (p.0 ∙ e) in
      three (p.1.1.1 ∙ buffer_kept told_as numbered _ n refused) (p.1.1.0 ∙ buffer_kept told_as numbered _ out refused) (p.1.0 ∙ answer_kept told_as answer refused),
  λ κs a r s p other.
      let n = a.1.0.now in
      let answer = a.1.1.1.0.now in
      let told_as = watch_told a.0.now n a.1.1.0.now (length answer) in
      let numbered = told_numbered _ (length answer) (watch_numbered (watch_of a.0.now n a.1.1.0.now)) in
      let refused : code_of told_as ≡ 0 → ⊥ = λ e. other (p.0 ∙ e) in
      two (p.1.1 ∙ buffer_kept told_as numbered _ n refused) (p.1.0 ∙ answer_kept told_as answer refused),
  λ κs a r s p other.
      let answer = a.1.1.1.1.0.now in
      told_kept (tight_moves_told a.0.now a.1.0 a.1.1.0 a.1.1.1.0 (length answer)) answer p other,
  λ κs a r s p other. ap held_by (report_kept r p.1 other),
)

pub run_never_differs : RunNeverDiffers
run_never_differs κs a r s p place e =
    never_differs a.0.now a.1.0.now (length a.1.1.0.now) place (sym p.0 ∙ e)
