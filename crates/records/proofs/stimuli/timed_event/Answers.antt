-- By the tag alone, whatever table is asked.
use Rattle.std.proofs.Common.{◌+◌, ap, ◌∙◌}
use Rattle.records.specs.Reading.{record_of}
use Rattle.records.proofs.ByKind.{timed}
use Rattle.records.proofs.stimuli.timed_event.Goals as goal

pub returns : goal.returns
returns c =
    let item = c.record_of-item.ensures 0x20 ∙ ap (λ n. record_of 0x20 (0x20 + n) c.args.time 0) c.saturating_sub.ensures in
    λ states inputs. c.ranged.ensures ∙ timed c.args.tag c.args.time c.requires _ item states inputs
