-- What passed has room for every read, and the filled arrays make the table.
use mathlib.Core.Path.{refl}
use mathlib.Core.Bool.{false}
use native.Mathlib.Omega.{arith}
use Rattle.table.proofs.Stands.{Readable, readable, table_stands}
use Rattle.table.proofs.Reading.{table_made}
use Rattle.table.proofs.read_into.Goals as goal
use Rattle.table.proofs.read_into.Goals.{After-holders_of-holders}

-- Once the timers are counted, what each read needs is known.
known : (c : After-holders_of-holders) →
    Readable c.args.s.now c.counts_in-c.result c.timers_in-timers.result c.holders_of-holders.result
known c =
    let is = c.counts_in-c.ensures in
    let at = rw is at c.places_of-p.ensures.hold in
    rw (c.holders_of-holders.ensures, is) (readable _ c.requires _ (c.timers_in-timers.ensures _ at))

pub counts_in-c-requires : goal.counts_in-c-requires
counts_in-c-requires c = omega (arith, (table_stands false _ c.requires).0.counts_field.fits)

pub places_of-p-requires : goal.places_of-p-requires
places_of-p-requires c =
    let fit = rw (← c.counts_in-c.ensures) at (table_stands false _ c.requires).0.counts in
    (fit.states.1, fit.inputs.1)

pub timers_in-timers-requires : goal.timers_in-timers-requires
timers_in-timers-requires c =
    let at = rw c.counts_in-c.ensures at c.places_of-p.ensures.hold in
    omega (arith, at, (readable _ c.requires _ refl).fifth)

pub number32-requires : goal.number32-requires
number32-requires c = omega (arith, (known (goal.at.number32-requires c).After-holders_of-holders).fifth)

pub overflow_cast-t-5 : goal.overflow_cast-t-5
overflow_cast-t-5 c = omega (arith, (known (goal.at.overflow_cast-t-5 c).After-holders_of-holders).few)

pub fill_bytes-requires : goal.fill_bytes-requires
fill_bytes-requires c = let k = known (goal.at.fill_bytes-requires c).After-holders_of-holders in (omega (arith, k.fifth), k.counts.states.1)

pub fill_bytes-requires-2 : goal.fill_bytes-requires-2
fill_bytes-requires-2 c =
    let k = known (goal.at.fill_bytes-requires-2 c).After-holders_of-holders in
    let places = c.places_of-p.ensures in
    (omega (arith, k.fifth, places.next, places.pairs), places.few)

pub fill_words-requires : goal.fill_words-requires
fill_words-requires c =
    let k = known (goal.at.fill_words-requires c).After-holders_of-holders in
    (rw c.places_of-p.ensures.hold k.hold, k.holding)

pub fill_words-requires-2 : goal.fill_words-requires-2
fill_words-requires-2 c =
    let k = known (goal.at.fill_words-requires-2 c).After-holders_of-holders in
    (rw c.places_of-p.ensures.delayed k.delayed, k.holding)

pub overflow_mul-timers : goal.overflow_mul-timers
overflow_mul-timers c = omega (arith, (known (goal.at.overflow_mul-timers c).After-holders_of-holders).few)

pub fill_words-requires-3 : goal.fill_words-requires-3
fill_words-requires-3 c =
    let k = known (goal.at.fill_words-requires-3 c).After-holders_of-holders in
    (rw c.places_of-p.ensures.hold k.timing, omega (arith, k.few))

pub overflow_mul-timers-2 : goal.overflow_mul-timers-2
overflow_mul-timers-2 c = omega (arith, (known (goal.at.overflow_mul-timers-2 c).After-holders_of-holders).few)

pub overflow_add-p-2 : goal.overflow_add-p-2
overflow_add-p-2 c =
    let k = known (goal.at.overflow_add-p-2 c).After-holders_of-holders in
    let places = c.places_of-p.ensures in
    omega (arith, k.few, k.counts.states, places.hold, places.pairs, places.few)

pub overflow_mul-states : goal.overflow_mul-states
overflow_mul-states c = omega (arith, (known (goal.at.overflow_mul-states c).After-holders_of-holders).rows)

pub fill_words-requires-4 : goal.fill_words-requires-4
fill_words-requires-4 c =
    let k = known (goal.at.fill_words-requires-4 c).After-holders_of-holders in
    (rw c.places_of-p.ensures.hold k.sets, k.rows)

pub returns : goal.returns
returns c =
    let places = c.places_of-p.ensures in
    table_made _ c.args.s.now _ _ c.counts_in-c.ensures places _ _ refl refl refl refl
    c.number32.ensures (c.timers_in-timers.ensures _ places.hold) c.holders_of-holders.ensures (omega (arith, places.hold))
    c.fill_bytes.ensures c.fill_bytes-2.ensures c.fill_words.ensures c.fill_words-2.ensures
    c.fill_words-3.ensures c.fill_words-4.ensures
