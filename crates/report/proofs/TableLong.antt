use Rattle.std.specs.Prelude.{Ok}
use Rattle.std.proofs.Common.{◌≡◌, ℕ, ◌*◌, ◌≤◌, false, List, length, ⊎_elim, mul-le-mul, arith}
use Rattle.table.specs.Check.{counts_in, claimed_timers, table_answer}
use Rattle.table.proofs.Stands.{table_stands, timing_stands}

pub table_long : (s : List ℕ) → table_answer s ≡ Ok tt → length s ≤ 1626
table_long s e =
    let c = counts_in s in
    let stands = table_stands false s e in
    let fit = stands.0.counts in
    let few : c.states ≤ 32 = fit.states.1 in
    let pairs : c.states * c.inputs ≤ 1024 = mul-le-mul few fit.inputs.1 in
    ⊎_elim
    (λ holds. omega (arith, holds.ends))
    (λ found.
    let timers = found.1 in
    let rows : c.states * claimed_timers c s ≤ 128 = mul-le-mul few timers.few.1 in
    omega (arith, timers.ends, timers.few.1))
    (timing_stands s c false stands.1)
