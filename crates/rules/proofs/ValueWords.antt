-- The number of words of a value, from its kind and the sizes of its lists.
use mathlib.Core.Bool.{Bool, true, false≢true, and-eq-true_iff}
use mathlib.Core.Option.{Option, some, none}
use mathlib.Core.Path.{◌≡◌}
use Prim.Native.Nat.{ℕ, ◌+◌, ◌*◌, ◌≤◌}
use native.Mathlib.Omega.{arith}
use lib.ListN.{length, length-append}
use Rattle.rules.specs.Value.{Base, Kind, one, optional, list, list_of_optional, optional_list, Value, base, absent, present, nil, cons, is_base, is_optional, is_list, has_kind, size, words}
use Rattle.rules.specs.Value.{elements}
use Rattle.rules.specs.Value.{of_kind}
use Rattle.rules.proofs.Steps.{inner}

-- elements of at most c words each
elements_few :
    (p : Value → Bool) (c : ℕ)
    → ((v : Value) → p v ≡ true → length (words v) ≤ c)
    → (v : Value)
    → is_list p v ≡ true
    → length (elements v) ≤ size v * c
unfolding is_list elements size
elements_few p c f (base v) e = absurd (false≢true e)
elements_few p c f absent e = absurd (false≢true e)
elements_few p c f (present v) e = absurd (false≢true e)
elements_few p c f nil e = omega arith
elements_few p c f (cons v w) e =
    let q = (and-eq-true_iff (p v) (is_list p w)).0 e in
    omega (arith, length-append (words v) (elements w), f v q.0, elements_few p c f w q.1)

list_few :
    (p : Value → Bool) (c : ℕ)
    → ((v : Value) → p v ≡ true → length (words v) ≤ c)
    → (v : Value)
    → is_list p v ≡ true
    → length (words v) ≤ 1 + size v * c
unfolding is_list elements size words
list_few p c f (base v) e = absurd (false≢true e)
list_few p c f absent e = absurd (false≢true e)
list_few p c f (present v) e = absurd (false≢true e)
list_few p c f nil e = omega arith
list_few p c f (cons v w) e =
    let q = (and-eq-true_iff (p v) (is_list p w)).0 e in
    omega (arith, length-append (words v) (elements w), f v q.0, elements_few p c f w q.1)

base_one : (b : Base) (v : Value) → is_base b v ≡ true → length (words v) ≤ 1
unfolding is_base words
base_one b (base v) e = omega arith
base_one b absent e = absurd (false≢true e)
base_one b (present v) e = absurd (false≢true e)
base_one b nil e = absurd (false≢true e)
base_one b (cons v w) e = absurd (false≢true e)

optional_few :
    (p : Value → Bool) (c : ℕ) (v : Value)
    → (p (inner v) ≡ true → length (words (inner v)) ≤ c)
    → is_optional p v ≡ true
    → length (words v) ≤ 1 + c
unfolding is_optional words
optional_few p c (base v) f e = absurd (false≢true e)
optional_few p c absent f e = omega arith
optional_few p c (present v) f e = omega (arith, f e)
optional_few p c nil f e = absurd (false≢true e)
optional_few p c (cons v w) f e = absurd (false≢true e)

optional_two : (b : Base) (v : Value) → is_optional (is_base b) v ≡ true → length (words v) ≤ 2
optional_two b v e = optional_few (is_base b) 1 v (base_one b (inner v)) e

pub words_515 : (k : Option Kind) (v : Value) → of_kind k v ≡ true → size v ≤ 257 → size (inner v) ≤ 257 → length (words v) ≤ 515
unfolding of_kind has_kind
words_515 none v e h i = absurd (false≢true e)
words_515 (some (one b)) v e h i = omega (arith, base_one b v e)
words_515 (some (optional b)) v e h i = omega (arith, optional_two b v e)
words_515 (some (list b)) v e h i = omega (arith, list_few (is_base b) 1 (base_one b) v e)
words_515 (some (list_of_optional b)) v e h i = omega (arith, list_few (is_optional (is_base b)) 2 (optional_two b) v e)
words_515 (some (optional_list b)) v e h i =
    omega (arith, optional_few (is_list (is_base b)) (1 + size (inner v) * 1) v (list_few (is_base b) 1 (base_one b) (inner v)) e)
