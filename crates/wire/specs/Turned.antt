-- Numbers with their bytes turned round: a helper of contracts, no rule. So a number is read in one load.
use Rattle.std.specs.Prelude.{ℕ, ◌+◌, ◌*◌, ◌/◌, ◌%◌}

unfoldable pub turned32 : ℕ → ℕ
turned32 x = x / 16777216 + x / 65536 % 256 * 256 + x / 256 % 256 * 65536 + x % 256 * 16777216
