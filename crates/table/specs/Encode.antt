-- The bytes of a table: fields 01 to 04, then 05 and 06, or with timers 07 and 08.
use Rattle.std.specs.Prelude.{List, [], ◌∷◌, ◌++◌, ℕ, ◌*◌, take, if◌then◌else◌}
use Rattle.wire.specs.Choice.{◌=?◌}
use Rattle.wire.specs.Encode.{bytes32, field}
use Rattle.table.specs.declared.Table.{Table}

-- Four bytes for each number.
unfoldable pub words : List ℕ → List ℕ
words [] = []
words (w ∷ ws) = bytes32 w ++ words ws

-- With timers, the length and the region of each, and the sets that they delay.
unfoldable pub timing : Table → List ℕ
timing t =
    if t.timers =? 0 then field 0x05 (words (take t.states t.hold)) ++ field 0x06 (words (take t.states t.delayed))
    else field 0x07 (words (take (2 * t.timers) t.timing)) ++ field 0x08 (words (take (t.states * t.timers) t.sets))

unfoldable pub table_bytes : Table → List ℕ
table_bytes t =
    field 0x01 (t.states ∷ t.inputs ∷ t.outputs ∷ t.initial ∷ [])
    ++ field 0x02 (bytes32 t.bound)
    ++ field 0x03 (take t.states t.output)
    ++ field 0x04 (take (t.states * t.inputs) t.next)
    ++ timing t
