-- The library's contract, read through what its answer means.
use native.Mathlib.Omega.{arith}
use Rattle.demands.proofs.Host.{judges_runs}
use Rattle.demands.proofs.judge.Goals as goal

pub returns : goal.returns
returns c enough =
    let a = c.args in
    let told = c.krossvil_check_journal.ensures in
    rw (told.code, told.bytes)
    (judges_runs a.table.now a.journal.now a.answer.now (λ k. omega (arith, c.type_inv.table k)) (λ k. omega (arith, c.type_inv.journal k)) enough)
