-- Texts written one after another: the loops over lines and over a name's bytes.
use mathlib.Core.Path.{◌≡◌, refl, sym, ap, ◌∙◌}
use mathlib.Core.List.{List, [], ◌∷◌, ◌++◌, append-nil, append_assoc}
use Prim.Native.Nat.{ℕ, zero, suc, ◌+◌, ◌*◌, ◌≤◌}
use native.Mathlib.Nat.{mul-suc}
use native.Mathlib.Numerals.{add-one}
use native.Mathlib.Omega.{arith}
use lib.ListN.{length, get_or, take}
use Rattle.line.specs.Line.{text, decimal, Puts}
use Rattle.line.proofs.Puts.{puts_both}
use Rattle.sheet.specs.Sheet.{row, joined}

-- The first k texts are written, none longer than `width`.
pub record Joining (f : ℕ → List ℕ) (width n : ℕ) (before : List ℕ) (at : ℕ) (after : List ℕ) (end k : ℕ) : Type 0 where
  pub low : k ≤ n
  pub puts : Puts (joined f k) before at after end
  pub short : end ≤ at + width * k

pub none_joined : (f : ℕ → List ℕ) (width n : ℕ) (before : List ℕ) (at : ℕ) → Joining f width n before at before at 0
unfolding joined
none_joined f width n before at = record {
  low = omega arith;
  puts = record { written = sym (append-nil (take at before)); rest = refl; ends = omega arith };
  short = omega arith;
}

module _ {f : ℕ → List ℕ} {width n : ℕ} {before : List ℕ} {at : ℕ} {after : List ℕ} {end k : ℕ} (inv : Joining f width n before at after end k) where
  pub one_joined : k + 1 ≤ n → {later : List ℕ} {last : ℕ} → Puts (f k) after end later last → last ≤ end + width →
      Joining f width n before at later last (k + 1)
  unfolding joined
  one_joined more p small = record {
    low = more;
    puts = rw (add-one k) (puts_both inv.puts p);
    short = rw (add-one k) (omega (arith, inv.short, mul-suc width k));
  }

  pub all_joined : n ≤ k → Puts (joined f n) before at after end × (end ≤ at + width * n)
  all_joined h = let e : k ≡ n = omega (arith, inv.low) in (rw e at inv.puts, rw e at inv.short)

-- ---- Rows

-- A number of a row, after its comma.
abbrev pub after_comma : List ℕ → ℕ → List ℕ
after_comma numbers k = text "," ++ decimal (get_or numbers k 0)

joined_first : (f : ℕ → List ℕ) (n : ℕ) → joined f (suc n) ≡ f 0 ++ joined (λ k. f (suc k)) n
unfolding joined
joined_first f zero = sym (append-nil (f 0))
joined_first f (suc n) = ap (λ l. l ++ f (suc n)) (joined_first f n) ∙ append_assoc (f 0) _ _

row-joined : (word numbers : List ℕ) → row word numbers ≡ word ++ (joined (after_comma numbers) (length numbers) ++ text "\n")
unfolding row joined
row-joined word [] = refl
row-joined word (n ∷ numbers) = row-joined (word ++ (text "," ++ decimal n)) numbers ∙ simp (joined_first, append_assoc) refl

-- All numbers and the line's end; and these after a word.
module _ (numbers : List ℕ) {before : List ℕ} {at : ℕ} {after : List ℕ} {end : ℕ} {later : List ℕ} {last : ℕ} where
  pub row_ended : {k : ℕ} → Joining (after_comma numbers) 21 (length numbers) before at after end k → length numbers ≤ k →
      Puts (text "\n") after end later last → Puts (row [] numbers) before at later last × (last ≤ at + 21 * length numbers + 1)
  row_ended inv h p =
      let all = all_joined inv h in
      (rw row-joined (puts_both all.0 p), omega (arith, all.1, p.ends))

  pub row_after : {word : List ℕ} → Puts word before at after end → Puts (row [] numbers) after end later last →
      Puts (row word numbers) before at later last
  row_after p q = rw row-joined (puts_both p (rw row-joined at q))
