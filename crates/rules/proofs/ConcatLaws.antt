-- Laws of `concat_map`.
use mathlib.Core.List.{List, [], ◌∷◌, ◌++◌, map, append_assoc, append-nil}
use mathlib.Core.Path.{◌≡◌, refl, sym, ap, ◌∙◌}
use Rattle.rules.specs.Base.{concat_map}

pub concat_append : {A B : Type 0} (f : A → List B) (a b : List A) → concat_map f (a ++ b) ≡ concat_map f a ++ concat_map f b
unfolding concat_map
concat_append f [] b = refl
concat_append f (x ∷ a) b = rw (concat_append f a b) (sym (append_assoc (f x) (concat_map f a) (concat_map f b)))

pub concat_more : {A B : Type 0} (f : A → List B) (xs : List A) (x : A) → concat_map f (xs ++ (x ∷ [])) ≡ concat_map f xs ++ f x
unfolding concat_map
concat_more {B = B} f xs x = concat_append f xs (x ∷ []) ∙ ap (λ (l : List B). concat_map f xs ++ l) (append-nil (f x))

pub concat_map_lem : {A B C : Type 0} (f : B → List C) (g : A → B) (xs : List A) → concat_map f (map g xs) ≡ concat_map (λ x. f (g x)) xs
unfolding concat_map
concat_map_lem f g [] = refl
concat_map_lem {C = C} f g (x ∷ xs) = ap (λ (l : List C). f (g x) ++ l) (concat_map_lem f g xs)
