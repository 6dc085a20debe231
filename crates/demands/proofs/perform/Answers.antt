-- The library's contract, read through what its answer means.
use native.Mathlib.Omega.{arith}
use Rattle.demands.proofs.Host.{performs_runs}
use Rattle.demands.proofs.perform.Goals as goal

pub returns : goal.returns
returns c enough =
    let a = c.args in
    let told = c.krossvil_run.ensures in
    rw (told.code, told.bytes, told.written)
    (performs_runs a.table.now a.stimulus.now a.journal.now a.answer.now (λ k. omega (arith, c.type_inv.table k))
    (λ k. omega (arith, c.type_inv.stimulus k)) enough)
