-- Refused because of the input, a run and a call of `split` alike: what is at fault, and what item slice and state hold.
use mathlib.Core.Bool.{Bool, true, false}
use mathlib.Core.List.{List, [], ◌∷◌}
use mathlib.Core.Option.{Option, some, none}
use mathlib.Core.Path.{◌≡◌, refl, sym, ap, ◌∙◌}
use Prim.Native.Nat.{ℕ, zero, suc, ◌*◌, ◌≤◌, ◌<◌}
use native.Mathlib.Nat.{sub-zero}
use native.Mathlib.Omega.{arith}
use borrow.Author.Tests.{le-ltb, ltb-true, ltb-false}
use lib.Dec.{ltb}
use lib.ListN.{length, replicate, length-replicate}
use Rattle.rules.specs.Outcome.{Outcome, ok, refused, fault, MissingItem, entry_words, list_words, Refusal, ◌>>=◌, refuse}
use Rattle.rules.specs.Base.{concat_map}
use Rattle.rules.specs.Sheet.{arguments}
use Rattle.rules.specs.Form.{read_form}
use Rattle.rules.specs.Accept.{letters_of}
use Rattle.rules.specs.Split.{Split, split_from, items_of, records_from}
use Rattle.rules.specs.State.{State, marker_mark, empty_state, construct}
use Rattle.rules.specs.Run.{Line, too_many, ambiguity, line_of, padded, split}
use Rattle.rules.specs.Demands.{All}
use Rattle.rules.specs.WellMade.{WellMade, SheetMade}
use Rattle.rules.specs.Answered.{SheetFault, many_arguments, bad_sheet, Splits, AtFault, many_items, ambiguous_letter, ItemsLeft}
use Rattle.rules.proofs.SplitLaws.{some≢none, ok_injective, ambiguous_law}

pub padded_nil : (n : ℕ) → padded n [] ≡ replicate n 0
unfolding padded
padded_nil n = ap (λ (k : ℕ). replicate k 0) (sub-zero n)

pub list_length : (l : List MissingItem) → length (list_words l) ≡ 3 * length l
unfolding list_words concat_map entry_words
list_length [] = refl
list_length (x ∷ l) = let h = list_length l in omega arith

pub no_entries_listed : (n : ℕ) (l : List MissingItem) → l ≡ [] → padded n (list_words l) ≡ replicate n 0
unfolding list_words concat_map
no_entries_listed n l e = rw e (padded_nil n)

pub fault_small : (s : List ℕ) (n : ℕ) → SheetFault s n → n ≡ 9 → ⊥
fault_small s n (many_arguments c h) e = omega arith
fault_small s n (bad_sheet m h) e = omega arith

-- 1 to 8 and 14 leave nothing
pub cleared_left : (b s : List ℕ) (ni n : ℕ) → (n ≡ 9 → ⊥) → ItemsLeft b s ni n (padded ni []) empty_state
cleared_left b s ni n h = record { cleared = λ _. (padded_nil ni, refl); kept = λ e. absurd (h e) }

pub bind_ok : {A B : Type 0} (o : Outcome A) (f : A → Outcome B) (b : B) → (o >>= f) ≡ ok b → (a : A) × (o ≡ ok a) × (f a ≡ ok b)
unfolding ◌>>=◌
bind_ok (ok a) f b e = (a, refl, e)
bind_ok (refused x) f b e = absurd (let z : ◌≡◌ {A = ℕ} 0 1 = cc in omega arith)
bind_ok (fault x) f b e = absurd (let z : ◌≡◌ {A = ℕ} 0 1 = cc in omega arith)

-- all of n items unparsed
abbrev pub fresh : ℕ → State
fresh n = record { marks = replicate n 0; remaining = n; current = none; start = 0; end = n }

zeros_all : (n : ℕ) → All (λ (m : ℕ). m ≡ 0) (replicate n 0)
zeros_all zero = tt
zeros_all (suc n) = (refl, zeros_all n)

-- the line of an ambiguous letter
abbrev pub stopped : List ℕ → Split → ℕ → Line
stopped s x i = record {
  refusal = some (refuse 9 (some i));
  items = items_of x;
  records = records_from 0 (arguments s) x.groups;
  state = fresh (length (items_of x));
}

pub few_line :
    (b s : List ℕ) (x : Split) (i : ℕ)
    → Splits b s x
    → length (items_of x) ≤ 256
    → x.ambiguous ≡ some i
    → line_of (arguments s) x ≡ ok (stopped s x i)
unfolding line_of items_of ambiguity construct ◌>>=◌
few_line b s x i given few a =
    let marker = (ambiguous_law (letters_of (read_form b)) (arguments s) x i given a).0 in
    rw (le-ltb 256 (length (items_of x)) few, marker, a)

-- the two ways in which splitting refuses
data Refuses (b s : List ℕ) (l : Line) : Type 0 where
  eight : (x : Split) → Splits b s x → 256 < length (items_of x) → l ≡ too_many → Refuses b s l
  nine : (x : Split) (i : ℕ) → Splits b s x → length (items_of x) ≤ 256 → x.ambiguous ≡ some i → l ≡ stopped s x i → Refuses b s l

module _ (b s : List ℕ) (l : Line) (e : Refusal) (refuses : l.refusal ≡ some e) where
  module _ (x : Split) (given : Splits b s x) where
    -- not more than 256 items
    few_refuses : ltb 256 (length (items_of x)) ≡ false → line_of (arguments s) x ≡ ok l → (o : Option ℕ) → x.ambiguous ≡ o → Refuses b s l
    unfolding line_of items_of ambiguity construct ◌>>=◌
    few_refuses t g none a =
        let (u, h, k) = bind_ok (construct marker_mark (length (items_of x)) x.marker) _ l (rw t at g) in
        let same = ap (λ (l : Line). l.refusal) (ok_injective k) in
        absurd (some≢none (sym refuses ∙ sym same ∙ ap ambiguity a))
    few_refuses t g (some i) a =
        let few = ltb-false 256 (length (items_of x)) t in
        nine x i given few a (sym (ok_injective (sym (few_line b s x i given few a) ∙ g)))

    line_refuses : line_of (arguments s) x ≡ ok l → Refuses b s l
    unfolding line_of
    line_refuses g = go (ltb 256 (length (items_of x))) refl
      where
        go : (t : Bool) → ltb 256 (length (items_of x)) ≡ t → Refuses b s l
        go true t = eight x given (ltb-true 256 _ t) (sym (ok_injective (rw t at g)))
        go false t = few_refuses t g x.ambiguous refl

  split_refuses : split (read_form b) s ≡ ok l → Refuses b s l
  unfolding split
  split_refuses splits =
      let (x, h, g) = bind_ok (split_from (letters_of (read_form b)) 0 (arguments s)) (line_of (arguments s)) l splits in
      line_refuses x h g

  module _ (splits : split (read_form b) s ≡ ok l) where
    -- 8 or 9, for what is at fault
    pub line_fault : (ni na nl : ℕ) → WellMade b → SheetMade s → 1792 ≤ ni → 8240 ≤ na → 192 ≤ nl → AtFault b s ni na nl e.number e.place
    unfolding too_many
    line_fault ni na nl form sheet items answers list = go (split_refuses splits)
      where
        go : Refuses b s l → AtFault b s ni na nl e.number e.place
        go (eight x given many same) =
            let z : e ≡ refuse 8 none = cc in
            rw z (many_items x form sheet items answers list given many)
        go (nine x i given few a same) =
            let z : e ≡ refuse 9 (some i) = cc in
            rw z (ambiguous_letter x i form sheet items answers list given few a)

    -- nothing is missing
    pub line_plain : e.missing ≡ []
    unfolding too_many
    line_plain = go (split_refuses splits)
      where
        go : Refuses b s l → e.missing ≡ []
        go (eight x given many same) = let z : e ≡ refuse 8 none = cc in rw z refl
        go (nine x i given few a same) = let z : e ≡ refuse 9 (some i) = cc in rw z refl

    -- 8 keeps no item, 9 keeps them unparsed
    pub line_left : (ni : ℕ) → ItemsLeft b s ni e.number (padded ni l.records) l.state
    unfolding too_many
    line_left ni = go (split_refuses splits)
      where
        go : Refuses b s l → ItemsLeft b s ni e.number (padded ni l.records) l.state
        go (eight x given many same) =
            let z : e ≡ refuse 8 none = cc in
            rw (z, same) (cleared_left b s ni 8 (λ e. omega arith))
        go (nine x i given few a same) =
            let z : e ≡ refuse 9 (some i) = cc in
            let long : length {A = ℕ} (replicate (length (items_of x)) 0) ≡ length (items_of x) = length-replicate (length (items_of x)) 0 in
            rw (z, same)
            (record {
              cleared = λ h. absurd (h refl);
              kept = λ _. record {
                given = x;
                splits = given;
                records = refl;
                count = long;
                unparsed = zeros_all (length (items_of x));
                remaining = sym long;
                current = refl;
                scope = (refl, sym long);
              };
            })
