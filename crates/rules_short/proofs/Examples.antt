-- The set and its steps over the alphabet `=-`, in which the byte of higher value comes first.
use mathlib.Core.Bool.{Bool, true, false}
use mathlib.Core.List.{List, [], ◌∷◌, map, flatten}
use mathlib.Core.Option.{Option, some, none}
use mathlib.Core.Path.{◌≡◌, refl}
use Prim.Native.Nat.{ℕ}
use lib.ListN.{replicate}
use Rattle.rules.specs.Base.{all, contains}
use Rattle.rules.specs.Accept.{index_of}
use Rattle.rules_short.specs.Short.{argument_legal, arguments_legal, lengths, places, order_key, lex_less, comes_before}
use Rattle.rules_short.specs.Short.{count_up, parted, letter_at, next_arguments}

abbrev alphabet : List ℕ
alphabet = 61 ∷ 45 ∷ []

-- `----`, the last argument
abbrev dashes : List ℕ
dashes = replicate 4 45

abbrev members : List (List (List ℕ) × Bool)
members =
    (dashes ∷ dashes ∷ dashes ∷ [], true)
    -- five bytes, a byte of no place, four arguments
    ∷ ((61 ∷ dashes) ∷ [], false)
    ∷ ((46 ∷ []) ∷ [], false)
    ∷ ([] ∷ [] ∷ [] ∷ [] ∷ [], false)
    ∷ []

pub members_told : map (λ x. arguments_legal alphabet x.0) members ≡ map (λ x. x.1) members
unfolding argument_legal arguments_legal all contains
members_told = refl

-- the first comes before the second
abbrev pairs : List (List (List ℕ) × List (List ℕ))
pairs =
    -- the count, then the lengths from the left, then the bytes by their places
    (dashes ∷ [], [] ∷ [] ∷ [])
    ∷ ([] ∷ dashes ∷ [], (61 ∷ []) ∷ [] ∷ [])
    ∷ ((45 ∷ 45 ∷ []) ∷ [], (61 ∷ 61 ∷ 61 ∷ []) ∷ [])
    ∷ ((61 ∷ 45 ∷ []) ∷ [], (45 ∷ 61 ∷ []) ∷ [])
    ∷ []

pub order_told : map (λ x. comes_before alphabet x.0 x.1) pairs ≡ replicate 4 true
unfolding comes_before order_key lex_less lengths places flatten index_of
order_told = refl

abbrev examples : List (List (List ℕ) × Option (List (List ℕ)))
examples =
    ([], some ([] ∷ []))
    -- `=` to `-`: by place, not by value
    ∷ ((61 ∷ []) ∷ [], some ((45 ∷ []) ∷ []))
    -- the last byte goes fastest, and those behind go back to the first letter
    ∷ ((61 ∷ []) ∷ (61 ∷ 45 ∷ []) ∷ [], some ((61 ∷ []) ∷ (45 ∷ 61 ∷ []) ∷ []))
    -- the last length goes fastest, and those behind go back to 0
    ∷ ((45 ∷ []) ∷ (45 ∷ []) ∷ [], some ((61 ∷ []) ∷ (61 ∷ 61 ∷ []) ∷ []))
    ∷ ((45 ∷ []) ∷ dashes ∷ [], some ((61 ∷ 61 ∷ []) ∷ [] ∷ []))
    ∷ (dashes ∷ [], some ([] ∷ [] ∷ []))
    ∷ (dashes ∷ dashes ∷ dashes ∷ [], none)
    ∷ []

pub steps_told : map (λ x. next_arguments alphabet x.0) examples ≡ map (λ x. x.1) examples
unfolding next_arguments count_up lengths places parted letter_at flatten index_of
steps_told = refl
