-- Writing into a buffer: a text copied into its part from `at` on, and texts one after the other.
use mathlib.Core.Path.{◌≡◌, refl, sym, ap, ◌∙◌}
use mathlib.Core.List.{List, [], ◌∷◌, ◌++◌, append_assoc, append-nil}
use Prim.Native.Nat.{ℕ, ◌+◌, ◌-◌, ◌≤◌}
use Prim.Native.String.{String}
use native.Mathlib.Omega.{arith}
use lib.ListN.{length, take, drop, length-append, length-take, length-drop, drop_of_length-le}
use lib.Seq.{take-length, take_all, take_at, drop_at, drop-drop}
use Rattle.io.specs.Counts.{IsPrefixLen}
use Rattle.line.specs.Line.{text, decimal, named, line_with, length_names, last_names, Puts}

-- The part that is lent to the copy is all that is left of the buffer.
pub puts_copied : (text before : List ℕ) (at : ℕ) → at + length text ≤ length before → (part : List ℕ) (count : ℕ) → count ≡ length text →
    part ≡ take (length text) text ++ drop (length text) (take (length before - at) (drop at before)) →
    Puts text before at (take at before ++ (part ++ drop (length before - at) (drop at before))) (at + count)
puts_copied text before at room part count counted is =
    let left : length (drop at before) ≤ length before - at = rw length-drop (omega arith) in
    let all = take_all (length before - at) (drop at before) left in
    let none = drop_of_length-le (drop at before) left in
    let front : length (take at before ++ text) ≡ at + count = simp (length-append, length-take) (omega arith) in
    let rest = drop (length text) (drop at before) in
    let after : take at before ++ (part ++ drop (length before - at) (drop at before)) ≡ take at before ++ text ++ rest =
    rw (none, is, all, append-nil, take-length) (simp append_assoc) in
    record {
      written = rw after (take_at (take at before ++ text) rest (at + count) front);
      rest = rw after (drop_at (take at before ++ text) rest (at + count) front ∙ rw counted (drop-drop (length text) at before));
      ends = omega arith;
    }

-- The text alone is lent to the copy, of as many bytes: what is before it and after it stays.
pub puts_placed : (text before : List ℕ) (at count : ℕ) → count ≡ length text → at + length text ≤ length before →
    Puts text before at (take at before ++ (text ++ drop count (drop at before))) (at + length text)
puts_placed text before at count counted room =
    let rest = drop count (drop at before) in
    let front : length (take at before ++ text) ≡ at + length text = simp (length-append, length-take) (omega arith) in
    let after : take at before ++ (text ++ rest) ≡ (take at before ++ text) ++ rest = simp append_assoc in
    record {
      written = rw after (take_at (take at before ++ text) rest (at + length text) front);
      rest = rw after (drop_at (take at before ++ text) rest (at + length text) front ∙ rw counted (drop-drop (length text) at before));
      ends = refl;
    }

-- What is written where a text ended makes one longer text with it.
pub puts_both : {bytes before : List ℕ} {at : ℕ} {after : List ℕ} {end : ℕ} {more later : List ℕ} {last : ℕ} →
    Puts bytes before at after end → Puts more after end later last → Puts (bytes ++ more) before at later last
puts_both {bytes} {before} {at} {after} {end} {more} p q =
    let further = drop-drop (length more) end in
    record {
      written = q.written ∙ rw p.written (append_assoc (take at before) bytes more);
      rest = q.rest ∙ rw q.ends (sym (further after) ∙ ap (drop (length more)) p.rest ∙ further before);
      ends = rw length-append (omega arith);
    }

pub puts_counts : {bytes before after : List ℕ} {end : ℕ} → Puts bytes before 0 after end → IsPrefixLen end after
puts_counts {after = after} {end = end} p =
    let long : end ≡ length (take end after) = rw p.written (omega arith) in
    (omega (arith, length-take end after), long)

-- A text that fits into a buffer leaves its length.
pub puts_length : {bytes before : List ℕ} {at : ℕ} {after : List ℕ} {end : ℕ} →
    Puts bytes before at after end → at + length bytes ≤ length before → length after ≡ length before
puts_length {bytes} {before} {at} {after} {end} p room =
    let front = ap length p.written ∙ length-append (take at before) bytes in
    let back = ap length p.rest in
    omega (arith, length-take end after, length-take at before, length-drop end after, length-drop end before, p.ends)

-- ---- Numbers after their names, one after the other, and the line's end

named_after : (names : List String) (numbers : List ℕ) → length names ≡ length numbers → (more : List String) (rest : List ℕ) →
    named names numbers ++ named more rest ≡ named (names ++ more) (numbers ++ rest)
unfolding named
named_after [] [] h more rest = refl
named_after [] (n ∷ numbers) h more rest = absurd (omega arith)
named_after (name ∷ names) [] h more rest = absurd (omega arith)
named_after (name ∷ names) (n ∷ numbers) h more rest =
    simp append_assoc (ap (λ l. text name ++ (decimal n ++ l)) (named_after names numbers (omega arith) more rest))

line_after : (names : List String) (numbers : List ℕ) → length names ≡ length numbers → (more : List String) (rest : List ℕ) →
    named names numbers ++ line_with more rest ≡ line_with (names ++ more) (numbers ++ rest)
unfolding line_with
line_after names numbers h more rest =
    sym (append_assoc (named names numbers) _ _) ∙ ap (λ l. l ++ text "\n") (named_after names numbers h more rest)

-- The laws that `search` puts together: no proof says where in the code a text was written.
module _ {before : List ℕ} {at : ℕ} {after : List ℕ} {end : ℕ} where
  pub named_last : (name : String) (n : ℕ) → Puts (text name ++ decimal n) before at after end → Puts (named (name ∷ []) (n ∷ [])) before at after end
  unfolding named
  named_last name n p = rw append-nil p

  pub line_end : Puts (text "\n") before at after end → Puts (line_with [] []) before at after end
  unfolding named line_with
  line_end p = p

  module _ {later : List ℕ} {last : ℕ} (names : List String) (numbers : List ℕ) where
    pub named_more : (name : String) (n : ℕ) → Puts (text name ++ decimal n) before at after end → Puts (named names numbers) after end later last →
        Puts (named (name ∷ names) (n ∷ numbers)) before at later last
    unfolding named
    named_more name n = puts_both

    module _ (ended : Puts (line_with names numbers) after end later last) where
      pub line_more : (name : String) (n : ℕ) → Puts (text name ++ decimal n) before at after end →
          Puts (line_with (name ∷ names) (n ∷ numbers)) before at later last
      line_more name n p = rw (← line_after (name ∷ []) (n ∷ []) refl) (puts_both (named_last name n p) ended)

      pub line_length : (a b c : ℕ) → Puts (named length_names (a ∷ b ∷ c ∷ [])) before at after end →
          Puts (line_with (length_names ++ names) (a ∷ b ∷ c ∷ numbers)) before at later last
      line_length a b c p = rw (← line_after length_names (a ∷ b ∷ c ∷ []) refl) (puts_both p ended)

      pub line_last : (a b : ℕ) → Puts (named last_names (a ∷ b ∷ [])) before at after end →
          Puts (line_with (last_names ++ names) (a ∷ b ∷ numbers)) before at later last
      line_last a b p = rw (← line_after last_names (a ∷ b ∷ []) refl) (puts_both p ended)
