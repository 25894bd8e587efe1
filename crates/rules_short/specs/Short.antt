-- Document 02's short sheets: up to three arguments of up to four bytes each over an alphabet, their order, and the step to the next.
use Rattle.std.specs.Prelude.{Bool, true, false, not, ◌&&◌, ℕ, suc, leb, ltb, eqb, length, take, drop, get_or, replicate}
use mathlib.Core.List.{List, [], ◌∷◌, ◌++◌, map, flatten}
use Rattle.std.proofs.Math.Option.{Option, some, none}
use Rattle.std.specs.Prelude.{if◌then◌else◌}
use Rattle.rules.specs.Base.{all, contains}
use Rattle.rules.specs.Sheet.{sheet_fault, arguments}
use Rattle.rules.specs.Accept.{index_of}
use Rattle.rules.specs.Encode.{encode_sheet}
use Rattle.rules.specs.Run.{padded}

-- ---- the set
unfoldable pub distinct : List ℕ → Bool
distinct [] = true
distinct (x ∷ xs) = not (contains xs x) && distinct xs

-- one to eight bytes, none of them twice
unfoldable pub alphabet_good : List ℕ → Bool
alphabet_good al = leb 1 (length al) && leb (length al) 8 && distinct al

-- at most four bytes, each of the alphabet
unfoldable pub argument_legal : List ℕ → List ℕ → Bool
argument_legal al os = leb (length os) 4 && all (contains al) os

unfoldable pub arguments_legal : List ℕ → List (List ℕ) → Bool
arguments_legal al args = leb (length args) 3 && all (argument_legal al) args

-- a well-made sheet with such arguments
unfoldable pub sheet_legal : List ℕ → List ℕ → Bool
sheet_legal al s = eqb (sheet_fault s) 0 && arguments_legal al (arguments s)

-- ---- the order
unfoldable pub lengths : List (List ℕ) → List ℕ
lengths args = map length args

-- the bytes of all arguments, each by its place in the alphabet
unfoldable pub places : List ℕ → List (List ℕ) → List ℕ
places al args = map (λ b. index_of b al) (flatten args)

-- what the order looks at, from the left: the argument count, the lengths, the bytes
unfoldable pub order_key : List ℕ → List (List ℕ) → List ℕ
order_key al args = length args ∷ (lengths args ++ places al args)

-- the first number that differs is lower
unfoldable pub lex_less : List ℕ → List ℕ → Bool
lex_less [] [] = false
lex_less [] (y ∷ ys) = true
lex_less (x ∷ xs) [] = false
lex_less (x ∷ xs) (y ∷ ys) = if eqb x y then lex_less xs ys else ltb x y

-- whether arguments come before others
unfoldable pub comes_before : List ℕ → List (List ℕ) → List (List ℕ) → Bool
comes_before al xs ys = lex_less (order_key al xs) (order_key al ys)

-- ---- the step
-- digits below a base, counted up by one, the last fastest; none if each is the highest
unfoldable pub count_up : ℕ → List ℕ → Option (List ℕ)
count_up base [] = none
count_up base (d ∷ ds) = elim (count_up base ds) [
  | some es ↦ some (d ∷ es)
  | none ↦ if ltb (suc d) base then some (suc d ∷ replicate (length ds) 0) else none
]

-- bytes, parted into arguments of these lengths
unfoldable pub parted : List ℕ → List ℕ → List (List ℕ)
parted [] b = []
parted (n ∷ ns) b = take n b ∷ parted ns (drop n b)

-- the letter at a place of the alphabet
unfoldable pub letter_at : List ℕ → ℕ → ℕ
letter_at al k = get_or al k 0

-- The bytes count up and the lengths stay. After the last bytes the lengths count up, each from 0 to 4, and every byte is the
-- first letter. After the last lengths there is one argument more, and all are empty. After three times four last letters: none
unfoldable pub next_arguments : List ℕ → List (List ℕ) → Option (List (List ℕ))
next_arguments al args = elim (count_up (length al) (places al args)) [
  | some ds ↦ some (parted (lengths args) (map (letter_at al) ds))
  | none ↦ elim (count_up 5 (lengths args)) [
    | some ns ↦ some (map (λ n. replicate n (letter_at al 0)) ns)
    | none ↦ if ltb (length args) 3 then some (replicate (suc (length args)) []) else none
  ]
]

-- ---- what is reported: 0, 16, 17 or 19, never with a place; whether the sheet given was the last; what was written, and its length
pub record NextReport : Type 0 where
  pub number : ℕ
  pub place : Option ℕ
  pub last : Bool
  pub length : ℕ
  pub output : List ℕ

-- the sheet, and 0 to the end of an output of n bytes
unfoldable pub written : ℕ → (number : ℕ) (last : Bool) → List ℕ → NextReport
written n number last s = record { number = number; place = none; last = last; length = length s; output = padded n s }

-- alphabet bytes, sheet bytes, and the length of the output. 22 is 2 + 2 × 4 + 12. Where no sheet is written the output is 0
unfoldable pub next_sheet : (alphabet sheet : List ℕ) → ℕ → NextReport
next_sheet al s n =
    if not (alphabet_good al)
    then written n 16 false []
    else (if not (sheet_legal al s)
    then written n 17 false []
    else (if ltb n 22
    then written n 19 false []
    else elim (next_arguments al (arguments s)) [
      | none ↦ written n 0 true []
      | some args ↦ written n 0 false (encode_sheet args)
    ]))
