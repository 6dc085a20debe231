-- Entries of four bytes, written one after another.
use mathlib.Core.Path.{◌≡◌, refl}
use mathlib.Core.List.{List, [], ◌∷◌, ◌++◌}
use Prim.Native.Nat.{ℕ, ◌*◌}
use native.Mathlib.Omega.{arith}
use lib.ListN.{length}
use Rattle.table.specs.Encode.{words}

pub length-words : (ws : List ℕ) → length (words ws) ≡ 4 * length ws
unfolding words
length-words [] = refl
length-words (w ∷ ws) = omega (arith, length-words ws)

pub words-append : (vs ws : List ℕ) → words (vs ++ ws) ≡ words vs ++ words ws
unfolding words
words-append [] ws = refl
words-append (v ∷ vs) ws = rw (words-append vs ws)
