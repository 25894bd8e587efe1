-- The program `bench`: form and sheet joined on standard input, its answer as text.
use Rattle.std.specs.Prelude.{true, false, List, [], ◌∷◌, ◌++◌, ℕ, zero, suc, ◌+◌, ◌/◌, ◌%◌, ltb, length, take, drop}
use Rattle.std.proofs.Math.Option.{Option, some, none}
use Rattle.rules.specs.Base.{concat_map}
use Rattle.rules.specs.Outcome.{Outcome, ok, ◌>>=◌}
use Rattle.rules.specs.Form.{form_end}
use Rattle.rules.specs.Run.{Report, run}

-- the decimal digits of a number, of which there are at most as many as the number is plus 1
unfoldable pub decimal_within : ℕ → ℕ → List ℕ
decimal_within zero n = []
decimal_within (suc k) n =
    elim (ltb n 10) [ true ↦ (48 + n) ∷ [] | false ↦ decimal_within k (n / 10) ++ ((48 + n % 10) ∷ []) ]

unfoldable pub decimal : ℕ → List ℕ
decimal n = decimal_within (suc n) n

-- place or `-`
unfoldable pub place_text : Option ℕ → List ℕ
place_text none = 45 ∷ []
place_text (some i) = decimal i

-- `answer N place P tries T words W`
unfoldable pub first_line : Report → List ℕ
first_line r =
    (97 ∷ 110 ∷ 115 ∷ 119 ∷ 101 ∷ 114 ∷ 32 ∷ decimal r.number)
    ++ (32 ∷ 112 ∷ 108 ∷ 97 ∷ 99 ∷ 101 ∷ 32 ∷ place_text r.place)
    ++ (32 ∷ 116 ∷ 114 ∷ 105 ∷ 101 ∷ 115 ∷ 32 ∷ decimal r.tries)
    ++ (32 ∷ 119 ∷ 111 ∷ 114 ∷ 100 ∷ 115 ∷ 32 ∷ decimal (length r.words))
    ++ (10 ∷ [])

unfoldable pub word_line : ℕ → List ℕ
word_line w = decimal w ++ (10 ∷ [])

unfoldable pub bench_text : Report → List ℕ
bench_text r = first_line r ++ concat_map word_line r.words

unfoldable pub bench : List ℕ → Outcome (List ℕ)
bench b = run (take (form_end b) b) (drop (form_end b) b) 1792 8240 192 >>= λ r. ok (bench_text r)
