-- What a caller has of the rules: the items of a slice are a table, and a node's names are those that its numbers say.
use mathlib.Core.Path.{◌≡◌, refl, ap, ◌∙◌}
use mathlib.Core.Bool.{Bool, true, false}
use mathlib.Core.List.{List, [], ◌∷◌}
use mathlib.Core.Option.{Option, some, none}
use Prim.Native.Nat.{ℕ, zero, suc, ◌+◌, ◌*◌, ◌/◌, ◌≤◌}
use native.Mathlib.Omega.{arith, div_fact}
use lib.ListN.{length, take, drop, get_elem?}
use lib.Seq.{drop-drop}
use Rattle.std.specs.Prelude.{if◌then◌else◌}
use Rattle.rules.specs.Outcome.{Outcome, ok, refused, refuse}
use Rattle.rules.specs.Split.{Item}
use Rattle.rules.specs.Tree.{zeros}
use Rattle.rules.specs.Base.{◌>>?◌}
use Rattle.rules.specs.Calls.{item_from, records_in, whole_records, trimmed, items_from, items_in}
use Rattle.rules.proofs.Acceptance.{bind_some}
use Rattle.take_search.specs.Items.{Table}

-- ---- records

records_at : (n : ℕ) (l : List ℕ) (i : ℕ) (r : List ℕ) → get_elem? (records_in n l) i ≡ some r → r ≡ take 7 (drop (7 * i) l)
unfolding records_in
records_at zero l i r e = let z : ◌≡◌ {A = ℕ} 0 1 = cc in absurd (omega arith)
records_at (suc n) l zero r e = cc
records_at (suc n) l (suc i) r e =
    let z : 7 * suc i ≡ 7 + 7 * i = omega arith in
    records_at n (drop 7 l) i r e ∙ rw (z, drop-drop (7 * i) 7 l)

records_length : (n : ℕ) (l : List ℕ) → length (records_in n l) ≡ n
unfolding records_in
records_length zero l = refl
records_length (suc n) l = ap suc (records_length n (drop 7 l))

-- what is trimmed is a front
record Front (rs : List (List ℕ)) (ts : List (List ℕ)) : Type 0 where
  pub short : length ts ≤ length rs
  pub same : (i : ℕ) (r : List ℕ) → get_elem? ts i ≡ some r → get_elem? rs i ≡ some r

front_nil : (rs : List (List ℕ)) → Front rs []
front_nil rs = record { short = omega arith; same = λ i r e. absurd (let z : ◌≡◌ {A = ℕ} 0 1 = cc in omega arith) }

front_cons : (r : List ℕ) (rs ts : List (List ℕ)) → Front rs ts → Front (r ∷ rs) (r ∷ ts)
front_cons r rs ts f = record { short = omega (arith, f.short); same = at }
  where
    at : (i : ℕ) (x : List ℕ) → get_elem? (r ∷ ts) i ≡ some x → get_elem? (r ∷ rs) i ≡ some x
    at zero x e = e
    at (suc i) x e = f.same i x e

trimmed_front : (rs : List (List ℕ)) → Front rs (trimmed rs)
unfolding trimmed
trimmed_front [] = front_nil []
trimmed_front (r ∷ rs) = go (trimmed rs) (trimmed_front rs)
  where
    last : (b : Bool) → Front (r ∷ rs) (if b then [] else r ∷ [])
    last true = front_nil (r ∷ rs)
    last false = front_cons r rs [] (front_nil rs)

    go : (ts : List (List ℕ)) → Front rs ts → Front (r ∷ rs) (elim ts [ [] ↦ if zeros r then [] else r ∷ [] | x ∷ xs ↦ r ∷ x ∷ xs ])
    go [] f = last (zeros r)
    go (x ∷ xs) f = front_cons r rs (x ∷ xs) f

-- ---- items

items_length : (area : List ℕ) (rs : List (List ℕ)) (is : List Item) → items_from area rs ≡ some is → length is ≡ length rs
unfolding items_from
items_length area [] is e = let z : [] ≡ is = cc in rw (← z)
items_length area (r ∷ rs) is e =
    let f = bind_some (item_from area r) _ e in
    let g = bind_some (items_from area rs) _ f.2 in
    let h : some (f.0 ∷ g.0) ≡ some is = g.2 in
    let z : f.0 ∷ g.0 ≡ is = cc in
    rw (← z) (ap suc (items_length area rs g.0 g.1))

items_at : (area : List ℕ) (rs : List (List ℕ)) (is : List Item) → items_from area rs ≡ some is → (i : ℕ) (x : Item) → get_elem? is i ≡ some x
    → (r : List ℕ) × (get_elem? rs i ≡ some r) × (item_from area r ≡ some x)
unfolding items_from
items_at area [] is e i x h =
    let z : [] ≡ is = cc in
    let w : get_elem? {A = Item} [] i ≡ some x = ap (λ (l : List Item). get_elem? l i) z ∙ h in
    absurd (let o : ◌≡◌ {A = ℕ} 0 1 = cc in omega arith)
items_at area (r ∷ rs) is e i x h =
    let f = bind_some (item_from area r) _ e in
    let g = bind_some (items_from area rs) _ f.2 in
    let k : some (f.0 ∷ g.0) ≡ some is = g.2 in
    let z : f.0 ∷ g.0 ≡ is = cc in
    go i f.0 f.1 g.0 (ap (λ (l : List Item). get_elem? l i) z ∙ h) (λ j t. items_at area rs g.0 g.1 j x t)
  where
    go : (j : ℕ) (y : Item) → item_from area r ≡ some y → (ys : List Item) → get_elem? (y ∷ ys) j ≡ some x
        → ((k : ℕ) → get_elem? ys k ≡ some x → (q : List ℕ) × (get_elem? rs k ≡ some q) × (item_from area q ≡ some x))
        → (q : List ℕ) × (get_elem? (r ∷ rs) j ≡ some q) × (item_from area q ≡ some x)
    go zero y a ys h later = let w : y ≡ x = cc in (r, refl, rw (← w) a)
    go (suc j) y a ys h later = later j h

-- the items that a slice is read as
pub table_in_lem : (area words : List ℕ) (is : List Item) → items_in area words ≡ ok is → Table area words is
unfolding items_in whole_records ◌>>?◌
table_in_lem area words is e = go (zeros (drop (7 * whole) words)) e
  where
    whole : ℕ
    whole = length words / 7

    front : Front (records_in whole words) (trimmed (records_in whole words))
    front = trimmed_front (records_in whole words)

    made : items_from area (trimmed (records_in whole words)) ≡ some is → Table area words is
    made h =
        let n = items_length area (trimmed (records_in whole words)) is h in
        let m = records_length whole words in
        let s = front.short in
        record {
          room = omega (arith, div_fact (length words) 6);
          at = λ i x t.
              let r = items_at area (trimmed (records_in whole words)) is h i x t in
              rw (← records_at whole words i r.0 (front.same i r.0 r.1)) r.2;
        }

    read : (o : Option (List Item)) → items_from area (trimmed (records_in whole words)) ≡ o
        → (elim o [ none ↦ refused (refuse 30 none) | some xs ↦ ok xs ]) ≡ ok is → Table area words is
    read none h k = absurd (let z : ◌≡◌ {A = ℕ} 0 1 = cc in omega arith)
    read (some xs) h k = let z : xs ≡ is = cc in made (h ∙ ap some z)

    go : (b : Bool) → ◌≡◌ {A = Outcome (List Item)} (elim ((if b then some (records_in whole words) else none) >>? λ rs. items_from area (trimmed rs))
        [ none ↦ refused (refuse 30 none) | some xs ↦ ok xs ]) (ok is) → Table area words is
    go true k = read (items_from area (trimmed (records_in whole words))) refl k
    go false k = absurd (let z : ◌≡◌ {A = ℕ} 0 1 = cc in omega arith)
