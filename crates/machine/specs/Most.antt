-- The most of a number that some records of a run have.
use Rattle.std.specs.Prelude.{◌≡◌, List, [], ◌∷◌, ◌⊎◌, Bool, true, ℕ, ◌≤◌, max, if◌then◌else◌}
use Rattle.records.specs.declared.Record.{Record}
use Rattle.records.specs.Record.{time_of}

-- What is kept from record to record, which records have a number, and the number by what was kept before the record and its time.
module _ {S : Type 0} (next : S → Record → S) (has : Record → Bool) (number : S → ℕ → ℕ) where
  abbrev pub number_of_record : S → Record → ℕ
  number_of_record s r = if has r then number s (time_of r) else 0

  -- 0 if there is none.
  unfoldable pub most : S → List Record → ℕ
  most s [] = 0
  most s (r ∷ rs) = max (number_of_record s r) (most (next s r) rs)

  -- A record that has one, by what was kept before it and its time.
  abbrev pub Has : S → List Record → S → ℕ → Type 0
  Has s [] before time = ⊥
  Has s (r ∷ rs) before time = ((has r ≡ true) × (time_of r ≡ time) × (s ≡ before)) ⊎ Has (next s r) rs before time

  -- Nothing made up: no record has more, some record has it if there is one, and else it is 0.
  pub record MostOf (s : S) (rs : List Record) (n : ℕ) : Type 0 where
    pub no_more : (before : S) (time : ℕ) → Has s rs before time → number before time ≤ n
    pub some : (before : S) (time : ℕ) → Has s rs before time → (before' : S) × (time' : ℕ) × Has s rs before' time' × (number before' time' ≡ n)
    pub none : ((before : S) (time : ℕ) → Has s rs before time → ⊥) → n ≡ 0
