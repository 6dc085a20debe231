-- What a live run leaves as it was where it refuses.
use mathlib.Core.Path.{◌≡◌, refl}
use mathlib.Core.List.{List}
use Prim.Native.Nat.{ℕ}
use Rattle.std.specs.Prelude.{Ok, Err}
use Rattle.wire.specs.Reply.{number_in}
use Rattle.table.specs.Check.{table_in}
use Rattle.records.specs.Form.{journal, stimulus}
use Rattle.live.specs.declared.Judged.TheVariants as judged
use Rattle.live.specs.Answer.{Judgement, Live, Watched, live_ruled, reply_of, watch_reply}
use Rattle.krossvil.proofs.Refusals.{Numbered, numbered}
use Rattle.live.specs.Live.{judged_of, kept_after, kept_if, live_answer, live_memory, watched_by, watch_of, watch_memory}

pub live_kept : (table n event : List ℕ) (room : ℕ) → (number_in (reply_of (live_answer table n event room)) ≡ 0 → ⊥) → live_memory table n event room ≡ n
live_kept table n event room = go (live_answer table n event room)
  where
    go : (a : Live) → (number_in (reply_of a) ≡ 0 → ⊥) → kept_if a (kept_after (table_in table) (judged_of stimulus table n event) n) n ≡ n
    go (Ok taken) other = absurd (other refl)
    go (Err why) other = refl

pub watch_kept : (table n bytes : List ℕ) → (number_in (watch_reply (watch_of table n bytes)) ≡ 0 → ⊥) → watch_memory table n bytes ≡ n
unfolding watched_by kept_after
watch_kept table n bytes = go (judged_of journal table n bytes)
  where
    go : (j : Judgement) → (number_in (watch_reply (watched_by (table_in table) j)) ≡ 0 → ⊥) → kept_after (table_in table) j n ≡ n
    go (Ok (judged.Opens input)) other = absurd (other refl)
    go (Ok (judged.Goes x)) other = absurd (other refl)
    go (Err why) other = refl

pub watch_numbered : (a : Watched) → Numbered (watch_reply a)
watch_numbered (Ok numbers) = tt
watch_numbered (Err why) = numbered _ (live_ruled why)
